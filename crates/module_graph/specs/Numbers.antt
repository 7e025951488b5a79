-- The numbers of nodes and modules.
use Rattle.std.specs.Prelude.{ℕ, Bool, false, ◌&&◌, ◌||◌, if◌then◌else◌, List, [], ◌∷◌, ◌++◌, map, unwrap_or}
use Rattle.std.specs.List.{list_any, filter_map, flat_map, position}
use Rattle.std.specs.Option.{option_and_then}
use Rattle.std.specs.Str.{bytes_eq}
use Rattle.modules_conf.specs.declared.lines.EdgeLine.{EdgeLine}
use Rattle.modules_conf.specs.declared.bindings.Binding.{Binding}
use Rattle.modules_conf.specs.declared.kind.Kind.{Kind}
use Rattle.modules_conf.specs.declared.kind.Kind.TheVariants.{Table, Iso2022Jp, Recode}
use Rattle.module_graph.specs.declared.edge.Edge.{Edge}
use Rattle.module_graph.specs.Edges.{NamedEdge, named_edges, skipped_lines}
use Rattle.module_graph.specs.Graph.{Shape}

-- A list, and behind it the elements of another that are new, in the order of their first appearance.
abbrev pub with_new : {X : Type 0} → (X → X → Bool) → List X → List X → List X
with_new same seen [] = seen
with_new same seen (x ∷ xs) =
    with_new same (if list_any (same x) seen then seen else seen ++ x ∷ []) xs

-- Kinds are the same where they are of one sort and have the same charmap words.
abbrev pub same_kind : Kind → Kind → Bool
same_kind (Table a) (Table b) = bytes_eq a b
same_kind (Table _) (Iso2022Jp _ _) = false
same_kind (Table _) (Recode _ _) = false
same_kind (Iso2022Jp _ _) (Table _) = false
same_kind (Iso2022Jp a b) (Iso2022Jp c d) = bytes_eq a c && bytes_eq b d
same_kind (Iso2022Jp _ _) (Recode _ _) = false
same_kind (Recode _ _) (Table _) = false
same_kind (Recode _ _) (Iso2022Jp _ _) = false
same_kind (Recode a b) (Recode c d) = bytes_eq a c && bytes_eq b d

-- The nodes are the ends of the edges in the order of their first appearance, source before target.
abbrev pub node_names : List NamedEdge → List (List ℕ)
node_names edges = with_new bytes_eq [] (flat_map (λ e. e.source ∷ e.target ∷ []) edges)

-- One of these edges has the name as an end.
abbrev pub has_end : List NamedEdge → List ℕ → Bool
has_end edges name = list_any (λ e. bytes_eq name e.source || bytes_eq name e.target) edges

-- The modules are the kinds seen before, and behind them the new ones of the edges.
abbrev pub kinds_after : List Kind → List NamedEdge → List Kind
kinds_after seen edges = with_new same_kind seen (filter_map (λ e. e.kind) edges)

-- The number of a node is its place.
abbrev pub node_number : List (List ℕ) → List ℕ → ℕ
node_number nodes name = unwrap_or (position (bytes_eq name) nodes) 0

-- The edge with numbers in the place of names and kinds.
abbrev pub numbered : List (List ℕ) → List Kind → NamedEdge → Edge
numbered nodes kinds e = record {
  ordinal = e.ordinal;
  source = node_number nodes e.source;
  target = node_number nodes e.target;
  cost = e.cost;
  «module» = option_and_then (λ kind. position (same_kind kind) kinds) e.kind;
}

-- The graph of these edges.
abbrev pub shape_of : List NamedEdge → ℕ → Shape
shape_of edges skipped = record {
  nodes = node_names edges;
  edges = map (numbered (node_names edges) (kinds_after [] edges)) edges;
  kinds = kinds_after [] edges;
  skipped = skipped;
}

-- The graph of a configuration's module lines under its bindings.
abbrev pub graph_of : List EdgeLine → List Binding → Shape
graph_of lines bindings = shape_of (named_edges lines bindings) (skipped_lines lines bindings)
