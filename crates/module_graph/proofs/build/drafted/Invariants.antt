use Rattle.std.proofs.Common.{take}
use Rattle.module_graph.proofs.Whole.{Drafted}
use Rattle.module_graph.proofs.build.drafted.Given as goal

abbrev pub invariant-loop-line : goal.invariant-loop-line
invariant-loop-line l = Drafted (take l.line-index l.lines) l.bindings l.draft l.skipped
