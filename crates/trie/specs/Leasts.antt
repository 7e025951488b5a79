-- The least of the paths so far that pass a test, by its place.
use Rattle.std.specs.Prelude.{◌≡◌, ℕ, ◌<◌, if◌then◌else◌, Bool, true, false, List, get_or, Option, Some, None}
use Rattle.trie.specs.Leaf.{Leaf}
use Rattle.trie.specs.Overlaps.{at_most}

-- The place of the least path among the first n that pass.
pub record IsLeastAt (test : List ℕ → Bool) (leaves : List Leaf) (n i : ℕ) : Type 0 where
  pub within : i < n
  pub passes : (d : Leaf) → test (get_or leaves i d).path ≡ true
  pub least : (j : ℕ) (d e : Leaf) → j < n → test (get_or leaves j d).path ≡ true →
      at_most (get_or leaves i e).path (get_or leaves j d).path ≡ true

-- The same, or that none passes.
abbrev pub IsLeastSoFar : (List ℕ → Bool) → List Leaf → ℕ → Option ℕ → Type 0
IsLeastSoFar test leaves n (Some i) = IsLeastAt test leaves n i
IsLeastSoFar test leaves n None = (j : ℕ) (d : Leaf) → j < n → test (get_or leaves j d).path ≡ false

-- The place that is kept of two.
abbrev pub lesser : List Leaf → Option ℕ → ℕ → Leaf → ℕ
lesser leaves None at d = at
lesser leaves (Some i) at d = if at_most (get_or leaves i d).path (get_or leaves at d).path then i else at
