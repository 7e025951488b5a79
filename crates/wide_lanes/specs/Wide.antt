-- Points below 10000 hex, none a surrogate, and their units of two bytes.
use Rattle.std.specs.Prelude.{ℕ, ◌<◌, ◌/◌, ◌%◌, List, [], ◌∷◌}
use Rattle.std.specs.List.{AllByRecursion, flat_map}
use Rattle.step_unicode.specs.Points.{IsPoint}
use Rattle.step_unicode.specs.Utf16.{little_bytes, big_bytes}

-- a point below 10000 hex
abbrev pub IsWide : ℕ → Type 0
IsWide p = (p < 0x10000) × IsPoint p

-- such points
abbrev pub AreWide : List ℕ → Type 0
AreWide q = AllByRecursion IsWide q

-- numbers as pairs of bytes, low ones first
abbrev pub low_first : List ℕ → List ℕ
low_first q = flat_map little_bytes q

-- numbers as pairs of bytes, high ones first
abbrev pub high_first : List ℕ → List ℕ
high_first q = flat_map big_bytes q

-- each pair of bytes the other way round
abbrev pub swapped : List ℕ → List ℕ
swapped [] = []
swapped (a ∷ []) = a ∷ []
swapped (a ∷ b ∷ bytes) = b ∷ a ∷ swapped bytes

-- numbers of 16 bits as four bytes each, highest ones first
abbrev pub in_fours : List ℕ → List ℕ
in_fours q = flat_map (λ p. 0 ∷ 0 ∷ (p / 256) ∷ (p % 256) ∷ []) q

-- two 0 before each pair of bytes, and the pair the other way round
abbrev pub widened : List ℕ → List ℕ
widened (a ∷ b ∷ bytes) = 0 ∷ 0 ∷ b ∷ a ∷ widened bytes
widened _ = []
