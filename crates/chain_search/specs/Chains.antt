-- Chains of edges, their order, and the least one.
use Rattle.std.specs.Prelude.{◌≡◌, ℕ, ◌+◌, ◌<◌, ◌≤◌, List, [], ◌∷◌, length, map, Contains}
use Rattle.module_graph.specs.declared.edge.Edge.{Edge}

-- A way leads from a to b by edges of g, each of which begins where the one before ends; without an
-- edge, a is b.
abbrev pub Way : List Edge → ℕ → ℕ → List Edge → Type 0
Way g a b [] = a ≡ b
Way g a b (e ∷ es) = Contains g e × (e.source ≡ a) × Way g e.target b es

-- A chain is a way of at least one edge.
pub record IsChain (g : List Edge) (a b : ℕ) (es : List Edge) : Type 0 where
  pub way : Way g a b es
  pub some : 0 < length es

-- The cost of edges is the sum of their costs.
abbrev pub cost_of : List Edge → ℕ
cost_of [] = 0
cost_of (e ∷ es) = e.cost + cost_of es

-- The ordinals of edges, in their order.
abbrev pub ordinals_of : List Edge → List ℕ
ordinals_of es = map (λ e. e.ordinal) es

-- One list of numbers is no later than another by the first place where they differ.
abbrev pub IsNoLater : List ℕ → List ℕ → Type 0
IsNoLater [] ys = Unit {0}
IsNoLater (x ∷ xs) [] = ⊥
IsNoLater (x ∷ xs) (y ∷ ys) = (x ≤ y) × (x ≡ y → IsNoLater xs ys)

-- One chain is at most another: it costs no more; at the same cost it is no longer; and at the same
-- cost and length its ordinals are no later.
pub record IsAtMost (es fs : List Edge) : Type 0 where
  pub no_dearer : cost_of es ≤ cost_of fs
  pub no_longer : cost_of es ≡ cost_of fs → length es ≤ length fs
  pub no_later : cost_of es ≡ cost_of fs → length es ≡ length fs
      → IsNoLater (ordinals_of es) (ordinals_of fs)

-- The least chain from a to b is a chain that is at most each chain from a to b.
pub record IsLeastChain (g : List Edge) (a b : ℕ) (es : List Edge) : Type 0 where
  pub chain : IsChain g a b es
  pub least : (fs : List Edge) → IsChain g a b fs → IsAtMost es fs

-- No chain leads from a to b.
abbrev pub NoChain : List Edge → ℕ → ℕ → Type 0
NoChain g a b = (es : List Edge) → IsChain g a b es → ⊥
