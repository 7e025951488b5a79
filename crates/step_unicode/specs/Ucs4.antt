-- UCS-4: four bytes, the point as a number whose highest byte comes first.
use Rattle.std.specs.Prelude.{◌≡◌, ℕ, ◌+◌, ◌*◌, ◌/◌, ◌%◌, List, [], ◌∷◌}
use Rattle.step_unicode.specs.Points.{IsByte, IsPoint}

-- the bytes are the point p
abbrev pub IsUcs4Unit : List ℕ → ℕ → Type 0
IsUcs4Unit (a ∷ b ∷ c ∷ d ∷ []) p = IsByte a × IsByte b × IsByte c × IsByte d × IsPoint p
    × (p ≡ a * 16777216 + b * 65536 + c * 256 + d)
IsUcs4Unit _ p = ⊥

-- how UCS-4 spells a point
abbrev pub ucs4 : ℕ → List ℕ
ucs4 p = (p / 16777216) ∷ (p / 65536 % 256) ∷ (p / 256 % 256) ∷ (p % 256) ∷ []
