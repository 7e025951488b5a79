-- Steps of nodes, and offers of better ones. No public clause cites it.
use Rattle.std.specs.Prelude.{◌≡◌, ℕ, ◌+◌, ◌<◌, ◌≤◌, ◌⊎◌, List, length, slice_index_or, Option, Some, None, Contains}
use Rattle.module_graph.specs.declared.edge.Edge.{Edge}
use Rattle.chain_search.specs.declared.step.Step.{Step}

-- What a table has at a node.
abbrev pub step_at : List (Option Step) → ℕ → Option Step
step_at table v = slice_index_or table v None

-- The step that an edge makes before a rest of that cost and length.
abbrev pub step_by : Edge → ℕ → ℕ → Step
step_by e cost length = record {
  cost = e.cost + cost;
  length = length + 1;
  ordinal = e.ordinal;
  next = e.target;
}

-- Steps are ordered by cost, then by length, then by ordinal.
pub record NoGreater (s t : Step) : Type 0 where
  pub no_dearer : s.cost ≤ t.cost
  pub no_longer : s.cost ≡ t.cost → s.length ≤ t.length
  pub no_later : s.cost ≡ t.cost → s.length ≡ t.length → s.ordinal ≤ t.ordinal

-- There is a step, and it isn't greater.
abbrev pub HasAtMost : Option Step → Step → Type 0
HasAtMost None t = ⊥
HasAtMost (Some s) t = NoGreater s t

-- What the offers of a row of edges before a rest do to a table: no node's step gets greater, each
-- offer is met, and each step is an old one or an offer.
pub record Relaxes (old new : List (Option Step)) (row : List Edge) (cost len : ℕ) : Type 0 where
  pub same : length new ≡ length old
  pub kept : (v : ℕ) (s : Step) → step_at old v ≡ Some s → HasAtMost (step_at new v) s
  pub offered : (e : Edge) → Contains row e → e.source < length old
      → HasAtMost (step_at new e.source) (step_by e cost len)
  pub cause : (v : ℕ) (s : Step) → step_at new v ≡ Some s
      → (step_at old v ≡ Some s)
      ⊎ ((e : Edge) × Contains row e × (e.source ≡ v) × (s ≡ step_by e cost len))
