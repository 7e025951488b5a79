use Rattle.std.proofs.Common.{◌≡◌, take}
use Rattle.crossbeam_queue.specs.Passes.{view, IsPassOf}
use Rattle.job_board.specs.Rule.{first}
use Rattle.job_board.proofs.board.fill.Given as goal

abbrev pub invariant-loop-number : goal.invariant-loop-number
invariant-loop-number g l =
    IsPassOf l.queue l.pass × (view l.pass ≡ record first { all = take l.number-index l.numbers })
