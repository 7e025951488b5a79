use Rattle.std.proofs.Common.{◌≡◌}
use Rattle.two_views.proofs.finding.publish.Given as goal

abbrev pub invariant-loop-pair : goal.invariant-loop-pair
invariant-loop-pair g l = l.cache.graph ≡ l.initial.cache.graph
