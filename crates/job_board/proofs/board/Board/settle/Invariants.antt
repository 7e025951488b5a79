use Rattle.job_board.specs.Drawers.{drawn_by, is_drained, numbers_of}
use Rattle.job_board.proofs.Settling.{Settles}
use Rattle.job_board.proofs.board.Board.settle.Given as goal

abbrev pub invariant-loop : goal.invariant-loop
invariant-loop g l =
    Settles l.self (numbers_of l.initial.lead) (drawn_by l.initial.lead) (is_drained l.initial.lead) l.lead l.left
