use Rattle.job_board.specs.Drawers.{IsSplit}
use Rattle.threads_tests.proofs.boards.draw_all.Given as goal

abbrev pub invariant-loop : goal.invariant-loop
invariant-loop g l = IsSplit l.board l.drawer
