-- Edges while they are numbered. No public clause cites it.
use Rattle.std.specs.Prelude.{◌≡◌, ℕ, ◌<◌, ◌^◌, List, length, Option, Some, None}
use Rattle.std.specs.List.{position_or_len}
use Rattle.indexmap.specs.IndexSet.{insert_key}
use Rattle.modules_conf.specs.declared.kind.Kind.{Kind}
use Rattle.module_graph.specs.declared.draft.Draft.{Draft}
use Rattle.module_graph.specs.Edges.{NamedEdge}
use Rattle.module_graph.specs.Numbers.{same_kind, shape_of}

-- A draft has the nodes, the edges and the modules of the graph of these edges.
pub record IsDraft (es : List NamedEdge) (d : Draft) : Type 0 where
  pub nodes : d.names.keys ≡ (shape_of es 0).nodes
  pub edges : d.edges.items ≡ (shape_of es 0).edges
  pub kinds : d.kinds.keys ≡ (shape_of es 0).kinds

-- There is room for an edge's numbers.
pub record IsRoomy (d : Draft) : Type 0 where
  pub nodes : length d.names.keys < 2 ^ 30
  pub kinds : length d.kinds.keys < 2 ^ 30

-- A kind, if there is one, gets its place as its number: it goes last where it is new.
abbrev pub NumbersKind : List Kind → List Kind → Option Kind → Option ℕ → Type 0
NumbersKind old new None number = (new ≡ old) × (number ≡ None)
NumbersKind old new (Some kind) number =
    (new ≡ insert_key same_kind old kind) × (number ≡ Some (position_or_len (same_kind kind) old))
