-- Open nodes and the queue of them. No public clause cites it.
use Rattle.std.specs.Prelude.{◌≡◌, ◌≢◌, ◌⊎◌, ℕ, ◌<◌, ◌≤◌, List, length, Option, Some, None, Contains}
use Rattle.chain_search.specs.declared.step.Step.{Step}
use Rattle.chain_search.specs.declared.frontier.Open.{Open}
use Rattle.chain_search.specs.Steps.{step_at}

-- A node is open by a step where the step was offered to it and the node isn't settled.
pub record IsOpen (known opened : List (Option Step)) (v : ℕ) (s : Step) : Type 0 where
  pub fresh : step_at known v ≡ None
  pub offer : step_at opened v ≡ Some s

-- The entry of an open step in the queue.
abbrev pub entry : ℕ → Step → Open
entry v s = record { cost = s.cost; node = v }

-- An entry stands for an open step where its cost is that step's.
abbrev pub IsOpenAt : List (Option Step) → List (Option Step) → Open → Step → Type 0
IsOpenAt known opened k s = IsOpen known opened k.node s × (s.cost ≡ k.cost)

-- A node has the cheapest open step.
pub record IsCheapest (known opened : List (Option Step)) (u : ℕ) (s : Step) : Type 0 where
  pub within : u < length known
  pub here : IsOpen known opened u s
  pub cheapest : (v : ℕ) (t : Step) → IsOpen known opened v t → s.cost ≤ t.cost

-- No node is open.
abbrev pub NoneOpen : List (Option Step) → List (Option Step) → Type 0
NoneOpen known opened = (v : ℕ) (t : Step) → IsOpen known opened v t → ⊥

-- Each open step has its entry in the queue.
abbrev pub Covers : List (Option Step) → List (Option Step) → List Open → Type 0
Covers known opened queue =
    (v : ℕ) (s : Step) → IsOpen known opened v s → Contains queue (entry v s)

-- Each open step but that of one node has.
abbrev pub CoversOthers : List (Option Step) → List (Option Step) → List Open → ℕ → Type 0
CoversOthers known opened queue u =
    (v : ℕ) (s : Step) → v ≢ u → IsOpen known opened v s → Contains queue (entry v s)

-- What offers do to a table and the queue: each step of the new table is an old one or has its entry in the
-- queue, and what stood in the queue stays there.
pub record AreQueued (old new : List (Option Step)) (before after : List Open) : Type 0 where
  pub entered : (v : ℕ) (s : Step) → step_at new v ≡ Some s
      → (step_at old v ≡ Some s) ⊎ Contains after (entry v s)
  pub kept : (k : Open) → Contains before k → Contains after k
