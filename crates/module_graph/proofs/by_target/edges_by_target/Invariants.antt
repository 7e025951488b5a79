use Rattle.std.proofs.Common.{take}
use Rattle.module_graph.specs.ByTarget.{AreByTarget}
use Rattle.module_graph.proofs.by_target.edges_by_target.Given as goal

abbrev pub invariant-loop-edge : goal.invariant-loop-edge
invariant-loop-edge l = AreByTarget l.lists.items (take l.edge-index l.edges) l.nodes
