use Rattle.std.proofs.Common.{take}
use Rattle.runtime_histories.specs.Settings.{modules_of}
use Rattle.module_counts.proofs.Starting.{Started}
use Rattle.module_counts.proofs.ages.Ages.start_all.Given as goal

abbrev pub invariant-loop-ordinal : goal.invariant-loop-ordinal
invariant-loop-ordinal l = Started l.initial.self l.self (modules_of l.graph.edges (take l.ordinal-index l.ordinals)) l.ordinal-index
