-- What the search keeps. No public clause cites it.
use Rattle.std.specs.Prelude.{◌≡◌, ℕ, ◌+◌, ◌≤◌, ◌*◌, ◌^◌, Bool, true, ◌||◌, ◌==◌, if◌then◌else◌, List, [], ◌∷◌, length, count_by, filter, Option, Some, None, is_some, Contains}
use Rattle.module_graph.specs.declared.edge.Edge.{Edge}
use Rattle.module_graph.specs.Graph.{Shape}
use Rattle.chain_search.specs.declared.step.Step.{Step}
use Rattle.chain_search.specs.declared.frontier.Open.{Open}
use Rattle.chain_search.specs.Chains.{cost_of, IsLeastChain}
use Rattle.chain_search.specs.Steps.{step_at, step_by, HasAtMost}
use Rattle.chain_search.specs.Frontier.{Covers}

-- The rest of a least chain is known from the target and from settled nodes.
abbrev pub is_closed : ℕ → List (Option Step) → ℕ → Bool
is_closed target known v = v == target || is_some (step_at known v)

-- That rest.
abbrev pub rest_from : ℕ → (ℕ → List Edge) → ℕ → List Edge
rest_from target walk v = if v == target then [] else walk v

-- The step of an edge before a rest.
abbrev pub step_before : Edge → List Edge → Step
step_before e rest = step_by e (cost_of rest) (length rest)

-- A step stands for an edge from a node and the rest behind it.
pub record Stands (g : List Edge) (target : ℕ) (known : List (Option Step)) (walk : ℕ → List Edge)
    (v : ℕ) (s : Step) (es : List Edge) : Type 0 where
  pub edge : Edge
  pub of_graph : Contains g edge
  pub from : edge.source ≡ v
  pub closed : is_closed target known edge.target ≡ true
  pub whole : es ≡ edge ∷ rest_from target walk edge.target
  pub is : s ≡ step_before edge (rest_from target walk edge.target)

-- Settled steps are those of least chains; open steps are offers of edges to closed nodes, and the
-- best of them.
pub record Searched (g : List Edge) (target : ℕ) (known opened : List (Option Step)) : Type 0 where
  pub walk : ℕ → List Edge
  pub least : (v : ℕ) (s : Step) → step_at known v ≡ Some s → IsLeastChain g v target (walk v)
  pub told : (v : ℕ) (s : Step) → step_at known v ≡ Some s → Stands g target known walk v s (walk v)
  pub offers : (v : ℕ) (s : Step) → step_at opened v ≡ Some s
      → (es : List Edge) × Stands g target known walk v s es
  pub best : (e : Edge) → Contains g e → is_closed target known e.target ≡ true
      → HasAtMost (step_at opened e.source) (step_before e (rest_from target walk e.target))

-- Each settled step stands for the chain from its node.
abbrev pub AreTold : List Edge → ℕ → List (Option Step) → (ℕ → List Edge) → Type 0
AreTold g target known walk =
    (v : ℕ) (s : Step) → step_at known v ≡ Some s → Stands g target known walk v s (walk v)

-- A step is that of a settled node, in a table whose steps stand for chains.
pub record IsTold (known : List (Option Step)) (v : ℕ) (s : Step) : Type 0 where
  pub edges : List Edge
  pub target : ℕ
  pub walk : ℕ → List Edge
  pub told : AreTold edges target known walk
  pub here : step_at known v ≡ Some s

-- The steps of a table are of at most so many edges, and as dear as these can be.
abbrev pub IsBounded : ℕ → List (Option Step) → Type 0
IsBounded most table =
    (v : ℕ) (s : Step) → step_at table v ≡ Some s → (s.length ≤ most) × (s.cost ≤ s.length * 2 ^ 32)

-- How many nodes are settled.
abbrev pub settled_count : List (Option Step) → ℕ
settled_count known = count_by (λ o. is_some o) known

-- How many edges lead to closed nodes.
abbrev pub closed_edges : List Edge → ℕ → List (Option Step) → ℕ
closed_edges g target known = length (filter (λ e. is_closed target known e.target) g)

-- What holds at each turn of the search.
pub record Running (g : Shape) (source target start : ℕ) (known opened : List (Option Step))
    (queue : List Open) (steps : ℕ) : Type 0 where
  pub searched : Searched g.edges target known opened
  pub known_length : length known ≡ length g.nodes
  pub opened_length : length opened ≡ length g.nodes
  pub fresh : step_at known source ≡ None
  pub bounded : IsBounded (settled_count known + 1) opened
  pub covered : Covers known opened queue
  pub counted : steps ≤ start + closed_edges g.edges target known
