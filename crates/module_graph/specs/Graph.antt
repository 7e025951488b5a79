-- A graph as contracts see it.
use Rattle.std.specs.Prelude.{◌≢◌, ℕ, ◌<◌, ◌^◌, ◌==◌, List, length, filter, All, AllPairs, IfSome}
use Rattle.modules_conf.specs.declared.kind.Kind.{Kind}
use Rattle.module_graph.specs.declared.edge.Edge.{Edge}

-- A graph is its nodes by name, its edges by rising ordinal, its modules by kind, and the number of
-- module lines that gave no edge.
pub record Shape : Type 0 where
  pub nodes : List (List ℕ)
  pub edges : List Edge
  pub kinds : List Kind
  pub skipped : ℕ

-- The ends of an edge are nodes, and its cost is in range.
pub record IsEdge (nodes : ℕ) (e : Edge) : Type 0 where
  pub source : e.source < nodes
  pub target : e.target < nodes
  pub some_cost : 0 < e.cost
  pub low_cost : e.cost < 2 ^ 31

-- The module of an edge, if it has one, is one of so many.
abbrev pub IsKnown : ℕ → Edge → Type 0
IsKnown modules e = IfSome e.«module» (λ m. m < modules)

-- The ordinals rise, the edges are between the nodes and by the modules, no name is two nodes and no kind
-- two modules, and there are not too many nodes.
pub record IsGraph (g : Shape) : Type 0 where
  pub rising : AllPairs (λ e f. e.ordinal < f.ordinal) g.edges
  pub edges : All (IsEdge (length g.nodes)) g.edges
  pub known : All (IsKnown (length g.kinds)) g.edges
  pub names_differ : AllPairs (λ a b. a ≢ b) g.nodes
  pub kinds_differ : AllPairs (λ a b. a ≢ b) g.kinds
  pub few : length g.nodes < 2 ^ 30

-- The edges that lead to a node.
abbrev pub edges_into : List Edge → ℕ → List Edge
edges_into edges node = filter (λ e. e.target == node) edges
