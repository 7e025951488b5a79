-- What a graph keeps beside its edges. No public clause cites it.
use Rattle.std.specs.Prelude.{◌≡◌, ℕ, ◌<◌, ◌^◌, List, length, slice_index_or}
use Rattle.std.specs.declared.vec.Vec.{Vec}
use Rattle.std.specs.declared.alloc.Global.{Global}
use Rattle.modules_conf.specs.declared.kind.Kind.{Kind}
use Rattle.module_graph.specs.declared.edge.Edge.{Edge}
use Rattle.module_graph.specs.Graph.{Shape, IsGraph, edges_into}

-- There is a list for each node, with the edges into it.
pub record AreByTarget (lists : List (Vec Edge Global)) (edges : List Edge) (nodes : ℕ) : Type 0 where
  pub count : length lists ≡ nodes
  pub each : (w : ℕ) (d : Vec Edge Global) → w < nodes
      → (slice_index_or lists w d).items ≡ edges_into edges w

-- The shape of these four parts.
abbrev pub shape : List (List ℕ) → List Edge → List Kind → ℕ → Shape
shape nodes edges kinds skipped =
    record { nodes = nodes; edges = edges; kinds = kinds; skipped = skipped }

-- A graph with the edges into each node.
pub record IsIndexed (g : Shape) (lists : List (Vec Edge Global)) : Type 0 where
  pub graph : IsGraph g
  pub sorted : AreByTarget lists g.edges (length g.nodes)
  pub few_kinds : length g.kinds < 2 ^ 30
