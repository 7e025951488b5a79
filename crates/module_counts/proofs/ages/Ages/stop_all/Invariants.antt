use Rattle.std.proofs.Common.{take}
use Rattle.runtime_histories.specs.Settings.{modules_of}
use Rattle.module_counts.proofs.Starting.{Stopped}
use Rattle.module_counts.proofs.ages.Ages.stop_all.Given as goal

abbrev pub invariant-loop-ordinal : goal.invariant-loop-ordinal
invariant-loop-ordinal l = Stopped l.initial.self l.self (modules_of l.graph.edges (take l.ordinal-index l.ordinals)) l.ordinal-index
