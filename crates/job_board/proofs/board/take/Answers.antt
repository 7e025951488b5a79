use Rattle.std.proofs.Common.{ap, ◌∙◌}
use Rattle.job_board.specs.Rule.{may_act}
use Rattle.job_board.proofs.Fairs.{takes, stops, learns}
use Rattle.job_board.proofs.board.take.Goals as goal

pub pop_as-requires-clause-rule : goal.pop_as-requires-clause-rule
pop_as-requires-clause-rule g c = (takes _ _ c.loop.invariant.4, learns _ _)

pub push_as-full-requires-clause-rule : goal.push_as-full-requires-clause-rule
push_as-full-requires-clause-rule g c =
    (stops _ _ _ (ap may_act c.in-None-pop_as.ensures.rule.0 ∙ c.loop.invariant.4), learns _ _)
