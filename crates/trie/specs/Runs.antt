-- Runs of leaves: each leaf behind the first has a path and a word that are greater by one.
use Rattle.std.specs.Prelude.{ℕ, zero, suc, ◌+◌, Bool, ◌&&◌, ◌==◌, List, [], ◌∷◌, ◌++◌, map}
use Rattle.std.specs.List.{flat_map}
use Rattle.std.specs.Str.{bytes_eq}
use Rattle.trie.specs.Leaf.{Leaf}

-- A string whose last number is greater by n.
abbrev pub raised : ℕ → List ℕ → List ℕ
raised n [] = []
raised n (x ∷ []) = (x + n) ∷ []
raised n (x ∷ y ∷ ys) = x ∷ raised n (y ∷ ys)

-- The leaf n places on in a run: the last byte of its path and its word are greater by n.
abbrev pub later : ℕ → Leaf → Leaf
later n l = record { path = raised n l.path; word = l.word + n }

-- Whether the second leaf stands next to the first in a run.
abbrev pub is_next : Leaf → Leaf → Bool
is_next a b = bytes_eq b.path (raised 1 a.path) && b.word == a.word + 1

-- A leaf, and how many follow it in its run.
pub record Run : Type 0 where
  pub head : Leaf
  pub more : ℕ

-- So many leaves of a run, from its head on.
abbrev pub run_from : Leaf → ℕ → List Leaf
run_from head zero = []
run_from head (suc n) = run_from head n ++ later n head ∷ []

-- All leaves of some runs, one run after another.
abbrev pub all_of : List Run → List Leaf
all_of runs = flat_map (λ r. run_from r.head (suc r.more)) runs

-- The heads of some runs.
abbrev pub heads : List Run → List Leaf
heads runs = map (λ r. r.head) runs
