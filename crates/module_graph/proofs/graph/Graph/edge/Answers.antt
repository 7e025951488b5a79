use Rattle.std.proofs.Common.{◌∙◌, Ok, Err, Some, sym, ap, rules}
use Rattle.std.proofs.lemmas.List.Sorted.{answers_always}
use Rattle.module_graph.specs.declared.edge.Edge.{Edge}
use Rattle.module_graph.proofs.OrdinalSearch.{searched, find_there, find_nowhere}
use Rattle.module_graph.proofs.graph.Graph.edge.Goals as goal

-- the closure gives an edge's ordinal, and the slice is the graph's edges
pub returns-in-Ok : goal.returns-in-Ok
returns-in-Ok c =
    let es = c.self.inside.edges.items in
    let by_key = rw c.deref.ensures.value at (c.in-Ok.ensures.position (λ (e : Edge). e.ordinal) (answers_always _ _ _ (λ f a r g called. search rules))) in
    let there = searched es c.self.invariant.graph.rising c.args.ordinal (Ok c.in-Ok.at) (rw c.deref.ensures.value at c.in-Ok.ensures.bound) by_key in
    rw (← c.self.view_is)
    (ap Some c.index.ensures ∙ sym (find_there es c.self.invariant.graph.rising c.args.ordinal c.in-Ok.at c.index.result.now there.0 (there.1 c.index.result.now)))

pub returns-in-Err : goal.returns-in-Err
returns-in-Err c =
    let es = c.self.inside.edges.items in
    let by_key = rw c.deref.ensures.value at (c.in-Err.ensures.position (λ (e : Edge). e.ordinal) (answers_always _ _ _ (λ f a r g called. search rules))) in
    rw (← c.self.view_is)
    (sym (find_nowhere es c.args.ordinal (searched es c.self.invariant.graph.rising c.args.ordinal (Err c.in-Err.field-0) (rw c.deref.ensures.value at c.in-Err.ensures.bound) by_key)))
