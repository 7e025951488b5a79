-- What follows for one edge of a graph.
use Rattle.std.proofs.Common.{◌≡◌, length, get_or, sym, ap, ◌∙◌, inl, inr, arith}
use Rattle.std.specs.List.{Contains}
use Rattle.std.proofs.lemmas.List.{get_or_default}
use Rattle.std.proofs.lemmas.List.Elements.{All-contains}
use Rattle.std.proofs.lemmas.Bool.{cases_lt}
use Rattle.module_graph.specs.declared.edge.Edge.{Edge}
use Rattle.module_graph.specs.Graph.{Shape, IsGraph, IsEdge}

-- an edge of a graph has its ends among the nodes, and its cost in range
pub is_edge : (g : Shape) → IsGraph g → (e : Edge) → Contains g.edges e → IsEdge (length g.nodes) e
is_edge g ok e c = All-contains (IsEdge (length g.nodes)) g.edges e ok.edges c

-- edges of a graph with one ordinal are one
pub same_edge : (g : Shape) → IsGraph g → (e f : Edge) → Contains g.edges e → Contains g.edges f → e.ordinal ≡ f.ordinal → e ≡ f
same_edge g ok e f c d o =
    let at_e : get_or g.edges c.0 e ≡ e = c.2 in
    let at_f : get_or g.edges d.0 e ≡ f = get_or_default g.edges d.0 e f d.1 ∙ d.2 in
    let oe : (get_or g.edges c.0 e).ordinal ≡ e.ordinal = ap (λ x. x.ordinal) at_e in
    let of : (get_or g.edges d.0 e).ordinal ≡ f.ordinal = ap (λ x. x.ordinal) at_f in
    elim (cases_lt c.0 d.0) [
      | inl lt ↦ absurd (omega (arith, ok.rising c.0 d.0 e lt d.1))
      | inr ge ↦ elim (cases_lt d.0 c.0) [
        | inl gt ↦ absurd (omega (arith, ok.rising d.0 c.0 e gt c.1))
        | inr le ↦ let is : c.0 ≡ d.0 = omega arith in sym at_e ∙ ap (λ i. get_or g.edges i e) is ∙ at_f
      ]
    ]
