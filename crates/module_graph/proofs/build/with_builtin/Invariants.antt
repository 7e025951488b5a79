use Rattle.module_graph.specs.Drafts.{IsDraft}
use Rattle.module_graph.proofs.Whole.{builtin_upto}
use Rattle.module_graph.proofs.build.with_builtin.Given as goal

abbrev pub invariant-loop-number : goal.invariant-loop-number
invariant-loop-number l = IsDraft (builtin_upto l.number) l.draft
