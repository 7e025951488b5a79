-- The graph of a configuration is a graph.
use Rattle.std.proofs.Common.{◌≡◌, ℕ, suc, ◌+◌, ◌*◌, ◌^◌, ◌<◌, ◌≤◌, true, List, [], ◌∷◌, ◌++◌, length, map, Option, Some, None, IfSome, refl, sym, ap, ◌∙◌, subst, arith, Vec, Global}
use Rattle.std.specs.List.{All, AllPairs, list_any, filter_map, flat_map, enumerate_from, cons_option, position}
use Rattle.std.specs.List.Sorted.{IsStrictlyIncreasing}
use Rattle.std.specs.Option.{option_map, option_and_then}
use Rattle.std.specs.Str.{bytes_eq}
use Rattle.std.proofs.lemmas.List.{map-append}
use Rattle.std.proofs.lemmas.List.Elements.{All-nil, All-cons}
use Rattle.std.proofs.lemmas.List.Kept.{AllPairs-from_increasing, AllPairs-cons}
use Rattle.names_alias.specs.Builtin.{builtin_sets}
use Rattle.modules_conf.specs.Limits.{IsWithinLimits}
use Rattle.modules_conf.specs.declared.lines.EdgeLine.{EdgeLine}
use Rattle.modules_conf.specs.declared.bindings.Binding.{Binding}
use Rattle.modules_conf.specs.declared.kind.Kind.{Kind}
use Rattle.module_graph.specs.declared.edge.Edge.{Edge}
use Rattle.module_graph.specs.declared.draft.Draft.{Draft}
use Rattle.module_graph.specs.Edges.{NamedEdge, builtin_pair, builtin_edges, named_edges, skipped_lines, edge_by, edge_of_line, kind_of_line}
use Rattle.module_graph.specs.Numbers.{same_kind, node_names, kinds_after, node_number, numbered, graph_of, has_end}
use Rattle.module_graph.proofs.NodeLaws.{nodes_are_ends, nodes_differ, modules_differ}
use Rattle.module_graph.specs.Graph.{Shape, IsEdge, IsGraph, IsKnown}
use Rattle.module_graph.specs.Drafts.{IsDraft}
use Rattle.module_graph.specs.ByTarget.{AreByTarget, IsIndexed}
use Rattle.module_graph.proofs.Firsts.{found_within, position_found}
use Rattle.module_graph.proofs.Drafting.{AllIn, HasKind, all_named_in, few_nodes, few_kinds}
use Rattle.module_graph.proofs.Whole.{length_named}

-- numbers that rise from a bound on
Rises : ℕ → List ℕ → Type 0
Rises low [] = Unit {0}
Rises low (x ∷ xs) = (low ≤ x) × Rises (x + 1) xs

rises_weaken : (low least : ℕ) (xs : List ℕ) → least ≤ low → Rises low xs → Rises least xs
unfolding Rises
rises_weaken low least [] le h = tt
rises_weaken low least (x ∷ xs) le h = (omega (arith, h.0), h.1)

rises_all : (low : ℕ) (xs : List ℕ) → Rises low xs → All (λ y. low ≤ y) xs
unfolding Rises
rises_all low [] h = All-nil (λ y. low ≤ y)
rises_all low (x ∷ xs) h = All-cons (λ y. low ≤ y) x xs h.0 (rises_all low xs (rises_weaken (x + 1) low xs (omega (arith, h.0)) h.1))

rises_pairs : (low : ℕ) (xs : List ℕ) → Rises low xs → AllPairs (λ x y. x < y) xs
unfolding Rises
rises_pairs low [] h = λ i j d lt fit. absurd (omega arith)
rises_pairs low (x ∷ xs) h = AllPairs-cons (λ x y. x < y) x xs (λ k d fit. omega (arith, rises_all (x + 1) xs h.1 k d fit)) (rises_pairs (x + 1) xs h.1)

pairs_rise : (low : ℕ) (xs : List ℕ) → AllPairs (λ x y. x < y) xs → All (λ y. low ≤ y) xs → Rises low xs
unfolding Rises
pairs_rise low [] h a = tt
pairs_rise low (x ∷ xs) h a = (a 0 x (omega arith), pairs_rise (x + 1) xs (λ i j d lt fit. h (suc i) (suc j) d (omega (arith, lt)) (omega (arith, fit))) (λ k d fit. omega (arith, h 0 (suc k) d (omega arith) (omega (arith, fit)))))

abbrev ordinals : List NamedEdge → List ℕ
ordinals es = map (λ e. e.ordinal) es

abbrev line_numbers : List EdgeLine → List ℕ
line_numbers lines = map (λ line. line.line) lines

-- the ordinals of built-in edges, and of others behind them
rises_builtin : (k : ℕ) (sets : List (List ℕ)) (ys : List ℕ) → Rises (2 * (k + length sets)) ys → Rises (2 * k) (ordinals (flat_map builtin_pair (enumerate_from k sets)) ++ ys)
unfolding Rises
rises_builtin k [] ys h = rises_weaken (2 * (k + 0)) (2 * k) ys (omega arith) h
rises_builtin k (s ∷ ss) ys h =
    let more : Rises (2 * ((k + 1) + length ss)) ys = rises_weaken (2 * (k + length (s ∷ ss))) (2 * ((k + 1) + length ss)) ys (omega arith) h in
    (omega arith, (omega arith, rises_weaken (2 * (k + 1)) (2 * k + 1 + 1) (ordinals (flat_map builtin_pair (enumerate_from (k + 1) ss)) ++ ys) (omega arith) (rises_builtin (k + 1) ss ys more)))

rises_lines : (bindings : List Binding) (low : ℕ) (lines : List EdgeLine) → Rises low (line_numbers lines) → Rises (15 + low) (ordinals (filter_map (edge_of_line bindings) lines))
unfolding Rises
rises_lines bindings low [] h = tt
rises_lines bindings low (x ∷ xs) h = go (kind_of_line bindings x) (rises_lines bindings (x.line + 1) xs h.1)
  where
    go : (o : Option Kind) → Rises (15 + (x.line + 1)) (ordinals (filter_map (edge_of_line bindings) xs)) → Rises (15 + low) (ordinals (cons_option (option_map (edge_by x) o) (filter_map (edge_of_line bindings) xs)))
    go None rest = rises_weaken (15 + (x.line + 1)) (15 + low) (ordinals (filter_map (edge_of_line bindings) xs)) (omega (arith, h.0)) rest
    go (Some kind) rest = (omega (arith, h.0), rises_weaken (15 + (x.line + 1)) (15 + x.line + 1) (ordinals (filter_map (edge_of_line bindings) xs)) (omega arith) rest)

rises_named : (lines : List EdgeLine) (bindings : List Binding) → IsStrictlyIncreasing (line_numbers lines) → AllPairs (λ x y. x < y) (ordinals (named_edges lines bindings))
unfolding builtin_edges
rises_named lines bindings h =
    let given : Rises (15 + 0) (ordinals (filter_map (edge_of_line bindings) lines)) = rises_lines bindings 0 lines (pairs_rise 0 (line_numbers lines) (AllPairs-from_increasing (line_numbers lines) h) (λ k d fit. omega arith)) in
    let all : Rises (2 * 0) (ordinals (flat_map builtin_pair (enumerate_from 0 builtin_sets)) ++ ordinals (filter_map (edge_of_line bindings) lines)) =
    rises_builtin 0 builtin_sets (ordinals (filter_map (edge_of_line bindings) lines)) (rises_weaken (15 + 0) (2 * (0 + length builtin_sets)) (ordinals (filter_map (edge_of_line bindings) lines)) (omega arith) given) in
    rises_pairs (2 * 0) (ordinals (named_edges lines bindings)) (subst (Rises (2 * 0)) (sym (map-append (λ (e : NamedEdge). e.ordinal) (flat_map builtin_pair (enumerate_from 0 builtin_sets)) (filter_map (edge_of_line bindings) lines))) all)

-- an element of a list whose ordinals rise
pairs_of : (es : List Edge) → AllPairs (λ x y. x < y) (map (λ (e : Edge). e.ordinal) es) → AllPairs (λ (e f : Edge). e.ordinal < f.ordinal) es
pairs_of [] h = λ i j d lt fit. absurd (omega arith)
pairs_of (e ∷ es) h = AllPairs-cons (λ (e f : Edge). e.ordinal < f.ordinal) e es (first es (λ k d fit. h 0 (suc k) d (omega arith) (omega (arith, fit)))) (pairs_of es (λ i j d lt fit. h (suc i) (suc j) d (omega (arith, lt)) (omega (arith, fit))))
  where
    first : (xs : List Edge) → All (λ y. e.ordinal < y) (map (λ (x : Edge). x.ordinal) xs) → All (λ (x : Edge). e.ordinal < x.ordinal) xs
    first [] a = All-nil (λ (x : Edge). e.ordinal < x.ordinal)
    first (x ∷ xs) a = All-cons (λ (x : Edge). e.ordinal < x.ordinal) x xs (a 0 0 (omega arith)) (first xs (λ k d fit. a (suc k) d (omega (arith, fit))))

numbered_ordinals : (nodes : List (List ℕ)) (kinds : List Kind) (es : List NamedEdge) → map (λ (e : Edge). e.ordinal) (map (numbered nodes kinds) es) ≡ ordinals es
numbered_ordinals nodes kinds [] = refl
numbered_ordinals nodes kinds (e ∷ es) = ap (λ r. e.ordinal ∷ r) (numbered_ordinals nodes kinds es)

-- the costs
abbrev IsCost : ℕ → Type 0
IsCost n = (1 ≤ n) × (n ≤ 2147483647)

AllCosts : List NamedEdge → Type 0
AllCosts [] = Unit {0}
AllCosts (e ∷ es) = IsCost e.cost × AllCosts es

costs_builtin : (sets : List (ℕ × List ℕ)) (ys : List NamedEdge) → AllCosts ys → AllCosts (flat_map builtin_pair sets ++ ys)
unfolding AllCosts
costs_builtin [] ys h = h
costs_builtin (s ∷ ss) ys h = ((omega arith, omega arith), ((omega arith, omega arith), costs_builtin ss ys h))

costs_lines : (bindings : List Binding) (lines : List EdgeLine) → All (λ (l : EdgeLine). IsCost l.cost) lines → AllCosts (filter_map (edge_of_line bindings) lines)
unfolding AllCosts
costs_lines bindings [] h = tt
costs_lines bindings (x ∷ xs) h = go (kind_of_line bindings x) (costs_lines bindings xs (λ k d fit. h (suc k) d (omega (arith, fit))))
  where
    go : (o : Option Kind) → AllCosts (filter_map (edge_of_line bindings) xs) → AllCosts (cons_option (option_map (edge_by x) o) (filter_map (edge_of_line bindings) xs))
    go None rest = rest
    go (Some kind) rest = (h 0 x (omega arith), rest)

costs_named : (lines : List EdgeLine) (bindings : List Binding) → All (λ (l : EdgeLine). IsCost l.cost) lines → AllCosts (named_edges lines bindings)
unfolding builtin_edges
costs_named lines bindings h = costs_builtin (enumerate_from 0 builtin_sets) (filter_map (edge_of_line bindings) lines) (costs_lines bindings lines h)

node_within : (nodes : List (List ℕ)) (name : List ℕ) → list_any (bytes_eq name) nodes ≡ true → node_number nodes name < length nodes
node_within nodes name h = rw (position_found (bytes_eq name) nodes h) (found_within (bytes_eq name) nodes h)

all_edges : (nodes : List (List ℕ)) (kinds : List Kind) (es : List NamedEdge) → AllIn nodes kinds es → AllCosts es → All (IsEdge (length nodes)) (map (numbered nodes kinds) es)
unfolding AllCosts
all_edges nodes kinds [] a c = All-nil (IsEdge (length nodes))
all_edges nodes kinds (e ∷ es) a c = All-cons (IsEdge (length nodes)) (numbered nodes kinds e) (map (numbered nodes kinds) es)
    (record { source = node_within nodes e.source a.0.source; target = node_within nodes e.target a.0.target; some_cost = omega (arith, c.0.0); low_cost = omega (arith, c.0.1) })
    (all_edges nodes kinds es a.1 c.1)

kind_within : (kinds : List Kind) (kind : Option Kind) → HasKind kinds kind → IfSome (option_and_then (λ k. position (same_kind k) kinds) kind) (λ m. m < length kinds)
kind_within kinds None h = tt
kind_within kinds (Some kind) h = rw (position_found (same_kind kind) kinds h) (found_within (same_kind kind) kinds h)

all_known : (nodes : List (List ℕ)) (kinds : List Kind) (es : List NamedEdge) → AllIn nodes kinds es → All (IsKnown (length kinds)) (map (numbered nodes kinds) es)
all_known nodes kinds [] a = All-nil (IsKnown (length kinds))
all_known nodes kinds (e ∷ es) a = All-cons (IsKnown (length kinds)) (numbered nodes kinds e) (map (numbered nodes kinds) es) (kind_within kinds e.kind a.0.kind) (all_known nodes kinds es a.1)

-- the graph of a configuration within the limits
pub is_graph : (lines : List EdgeLine) (bindings : List Binding) → IsWithinLimits lines → IsGraph (graph_of lines bindings)
is_graph lines bindings h =
    let es : List NamedEdge = named_edges lines bindings in
    record {
      rising = pairs_of (map (numbered (node_names es) (kinds_after [] es)) es) (subst (AllPairs (λ x y. x < y)) (sym (numbered_ordinals (node_names es) (kinds_after [] es) es)) (rises_named lines bindings h.rising));
      edges = all_edges (node_names es) (kinds_after [] es) es (all_named_in es) (costs_named lines bindings h.costs);
      known = all_known (node_names es) (kinds_after [] es) es (all_named_in es);
      names_differ = nodes_differ es;
      kinds_differ = modules_differ es;
      few = omega (arith, few_nodes es, length_named lines bindings, h.count);
    }

pub few_modules : (lines : List EdgeLine) (bindings : List Binding) → IsWithinLimits lines → length (graph_of lines bindings).kinds < 2 ^ 30
few_modules lines bindings h = omega (arith, few_kinds (named_edges lines bindings), length_named lines bindings, h.count)

-- what was drafted is that graph
pub drafted_graph : (lines : List EdgeLine) (bindings : List Binding) (d : Draft) (skipped : ℕ) → IsDraft (named_edges lines bindings) d → skipped ≡ skipped_lines lines bindings
    → record { nodes = d.names.keys; edges = d.edges.items; kinds = d.kinds.keys; skipped = skipped } ≡ graph_of lines bindings
drafted_graph lines bindings d skipped is counted =
    let make : List (List ℕ) → List Edge → List Kind → ℕ → Shape = λ n e k s. record { nodes = n; edges = e; kinds = k; skipped = s } in
    ap (λ n. make n d.edges.items d.kinds.keys skipped) is.nodes
    ∙ ap (λ e. make (graph_of lines bindings).nodes e d.kinds.keys skipped) is.edges
    ∙ ap (λ k. make (graph_of lines bindings).nodes (graph_of lines bindings).edges k skipped) is.kinds
    ∙ ap (make (graph_of lines bindings).nodes (graph_of lines bindings).edges (graph_of lines bindings).kinds) counted

pub targets_fit : (lines : List EdgeLine) (bindings : List Binding) → IsWithinLimits lines → (d : Draft) → IsDraft (named_edges lines bindings) d → All (λ (e : Edge). e.target < length d.names.keys) d.edges.items
targets_fit lines bindings h d is =
    subst (λ ns. All (λ (e : Edge). e.target < length ns) d.edges.items) (sym is.nodes)
    (subst (All (λ (e : Edge). e.target < length (graph_of lines bindings).nodes)) (sym is.edges) (λ k x fit. ((is_graph lines bindings h).edges k x fit).target))

-- with its edges by target it is indexed
pub indexed : (lines : List EdgeLine) (bindings : List Binding) → IsWithinLimits lines → (d : Draft) (skipped : ℕ) (lists : List (Vec Edge Global)) → IsDraft (named_edges lines bindings) d → skipped ≡ skipped_lines lines bindings → AreByTarget lists d.edges.items (length d.names.keys)
    → IsIndexed (record { nodes = d.names.keys; edges = d.edges.items; kinds = d.kinds.keys; skipped = skipped }) lists
indexed lines bindings h d skipped lists is counted sorted = record {
  graph = subst IsGraph (sym (drafted_graph lines bindings d skipped is counted)) (is_graph lines bindings h);
  sorted = sorted;
  few_kinds = subst (λ ks. length ks < 2 ^ 30) (sym is.kinds) (few_modules lines bindings h);
}

-- its nodes are the ends of its edges
pub node_ends : (lines : List EdgeLine) (bindings : List Binding) (d : Draft) → IsDraft (named_edges lines bindings) d → (name : List ℕ) → list_any (bytes_eq name) d.names.keys ≡ has_end (named_edges lines bindings) name
node_ends lines bindings d is name = ap (list_any (bytes_eq name)) is.nodes ∙ nodes_are_ends (named_edges lines bindings) name
