-- Points read from UTF-8, by where each one's bytes end.
use Rattle.std.specs.Prelude.{◌≡◌, ℕ, ◌+◌, List, [], ◌∷◌, take, drop}
use Rattle.step_unicode.specs.Utf8.{utf8}
use Rattle.wide_lanes.specs.Words.{count_of}

-- where each begins, the first one at s
abbrev pub shifted : ℕ → List ℕ → List ℕ
shifted s [] = []
shifted s (e ∷ ends) = s ∷ shifted e ends

-- each ends as many bytes behind the one before it as its point has, the first one behind s
abbrev pub Follow : ℕ → List ℕ → List ℕ → Type 0
Follow s [] [] = Unit {0}
Follow s (e ∷ ends) (p ∷ q) = (e ≡ s + count_of p) × Follow e ends q
Follow s _ _ = ⊥

-- each four bytes begin with the UTF-8 of their point
abbrev pub Shows : List ℕ → List ℕ → Type 0
Shows [] v = Unit {0}
Shows (p ∷ q) v = (take (count_of p) v ≡ utf8 p) × Shows q (drop 4 v)
