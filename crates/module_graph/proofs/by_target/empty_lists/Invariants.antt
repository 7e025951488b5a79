use Rattle.std.proofs.Common.{[]}
use Rattle.module_graph.specs.ByTarget.{AreByTarget}
use Rattle.module_graph.proofs.by_target.empty_lists.Given as goal

abbrev pub invariant-loop : goal.invariant-loop
invariant-loop l = AreByTarget l.lists.items [] l.counter
