use Rattle.std.proofs.Common.{◌≡◌, true}
use Rattle.crossbeam_queue.specs.Passes.{view, IsPassOf}
use Rattle.job_board.specs.Rule.{may_act}
use Rattle.job_board.specs.Drawers.{StaysHand}
use Rattle.job_board.proofs.board.take.Given as goal

abbrev pub invariant-loop : goal.invariant-loop
invariant-loop g l = IsPassOf l.queue l.pass × StaysHand (view l.initial.pass) (view l.pass)
    × ((view l.pass).drawn ≡ (view l.initial.pass).drawn) × ((view l.pass).drained ≡ (view l.initial.pass).drained)
    × (may_act (view l.pass) ≡ true)
