use Rattle.module_graph.proofs.Shaping.{node_ends, drafted_graph, targets_fit, indexed}
use Rattle.module_graph.proofs.graph.Graph.build.Goals as goal

pub edges_by_target-requires : goal.edges_by_target-requires
edges_by_target-requires c = rw (c.deref.ensures.value, c.len.ensures.len)
    (targets_fit c.args.conf.now.edges c.args.bindings.now c.requires c.in_ok-draft.draft (rw (c.as_slice.ensures, c.as_slice-2.ensures) at c.in_ok-draft.ensures.draft))

pub invariant_of-result : goal.invariant_of-result
invariant_of-result c = indexed c.args.conf.now.edges c.args.bindings.now c.requires c.in_ok-draft.draft c.in_ok-draft.skipped c.in_ok-by_target.by_target.items
    (rw (c.as_slice.ensures, c.as_slice-2.ensures) at c.in_ok-draft.ensures.draft) (rw (c.as_slice.ensures, c.as_slice-2.ensures) at c.in_ok-draft.ensures.skipped)
    (rw (c.deref.ensures.value, c.len.ensures.len) at c.in_ok-by_target.ensures)

pub returns-clause-value : goal.returns-clause-value
returns-clause-value c = drafted_graph c.args.conf.now.edges c.args.bindings.now c.in_ok-draft.draft c.in_ok-draft.skipped
    (rw (c.as_slice.ensures, c.as_slice-2.ensures) at c.in_ok-draft.ensures.draft) (rw (c.as_slice.ensures, c.as_slice-2.ensures) at c.in_ok-draft.ensures.skipped)

pub returns-clause-ends : goal.returns-clause-ends
returns-clause-ends c = λ name. node_ends c.args.conf.now.edges c.args.bindings.now c.in_ok-draft.draft (rw (c.as_slice.ensures, c.as_slice-2.ensures) at c.in_ok-draft.ensures.draft) name
