use Rattle.std.proofs.Common.{◌≡◌, [], take, eqb, not}
use Rattle.std.specs.List.{filter}
use Rattle.module_graph.specs.Numbers.{with_new}
use Rattle.runtime_histories.specs.Settings.{modules_of}
use Rattle.module_counts.specs.Tracking.{is_kept}
use Rattle.module_counts.proofs.counts.missing_of.Given as goal

abbrev pub invariant-loop-ordinal : goal.invariant-loop-ordinal
invariant-loop-ordinal l = l.found.items ≡ with_new (λ m k. eqb m k) [] (filter (λ m. not (is_kept l.ages m)) (modules_of l.graph.edges (take l.ordinal-index l.ordinals)))
