-- Lists of numbers, in any order.
use Rattle.std.specs.Prelude.{◌≡◌, ℕ, ◌+◌, List, [], ◌∷◌}

-- The sum of the weights of numbers.
abbrev pub weight : (ℕ → ℕ) → List ℕ → ℕ
weight of [] = 0
weight of (n ∷ ns) = of n + weight of ns

-- Two lists have the same numbers, each as often, where their sums are the same for all weights.
abbrev pub AreSame : List ℕ → List ℕ → Type 0
AreSame xs ys = (of : ℕ → ℕ) → weight of xs ≡ weight of ys

-- the most numbers that a board takes
abbrev pub most_numbers : ℕ
most_numbers = 4096
