use Rattle.std.proofs.Common.{◌≡◌, ◌++◌, drop}
use Rattle.runtime_histories.specs.Settings.{modules_of}
use Rattle.pair_openings.proofs.planning.modules_along.Given as goal

abbrev pub invariant-loop-ordinal : goal.invariant-loop-ordinal
invariant-loop-ordinal l = record {
  same : l.modules.items ++ modules_of l.graph.edges (drop l.ordinal-index l.ordinals) ≡ modules_of l.graph.edges l.ordinals;
}
