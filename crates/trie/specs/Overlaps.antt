-- Strings that begin others.
use Rattle.std.specs.Prelude.{◌≡◌, ℕ, ◌<◌, ◌==◌, ◌&&◌, ◌||◌, nat_lt, Bool, true, false, List, [], ◌∷◌, length, slice_index_or, Contains}
use Rattle.std.specs.List.{list_any}
use Rattle.trie.specs.Leaf.{Leaf}
use Rattle.trie.specs.Fronts.{is_proper_prefix, paths}

-- Whether the first string stands before the second, or is the same.
abbrev pub at_most : List ℕ → List ℕ → Bool
at_most [] ys = true
at_most (x ∷ xs) [] = false
at_most (x ∷ xs) (y ∷ ys) = nat_lt x y || (x == y && at_most xs ys)

-- The least of the strings that pass a test.
pub record IsLeast (test : List ℕ → Bool) (strings : List (List ℕ)) (one : List ℕ) : Type 0 where
  pub there : Contains strings one
  pub passes : test one ≡ true
  pub least : (other : List ℕ) → Contains strings other → test other ≡ true → at_most one other ≡ true

-- Whether one of the strings goes on from this one.
abbrev pub is_prefix_of_one : List (List ℕ) → List ℕ → Bool
is_prefix_of_one strings front = list_any (is_proper_prefix front) strings

-- The least string that another one goes on from, and the least that goes on from it.
pub record IsLeastOverlap (strings : List (List ℕ)) (first second : List ℕ) : Type 0 where
  pub first_is : IsLeast (is_prefix_of_one strings) strings first
  pub second_is : IsLeast (is_proper_prefix first) strings second

-- No string goes on from another.
abbrev pub AreApart : List (List ℕ) → Type 0
AreApart strings = (one : List ℕ) → Contains strings one → is_prefix_of_one strings one ≡ false

-- The path of the leaf at a place.
abbrev pub path_at : List Leaf → ℕ → List ℕ
path_at leaves place = slice_index_or (paths leaves) place []

-- The least overlap of the paths, by the places of its two leaves.
pub record IsOverlapAt (leaves : List Leaf) (first second : ℕ) : Type 0 where
  pub first_within : first < length leaves
  pub second_within : second < length leaves
  pub least : IsLeastOverlap (paths leaves) (path_at leaves first) (path_at leaves second)
