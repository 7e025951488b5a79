-- UTF-8: the Unicode Standard, Table 3-7, Well-Formed UTF-8 Byte Sequences.
use Rattle.std.specs.Prelude.{◌≡◌, ℕ, ◌+◌, ◌*◌, ◌/◌, ◌%◌, ◌≤◌, List, [], ◌∷◌, nat_lt, if◌then◌else◌}
use Rattle.step_unicode.specs.Points.{InRange}

-- a byte after the second one, and most second ones
abbrev pub IsTail : ℕ → Type 0
IsTail b = InRange 0x80 0xBF b

-- a second byte after the first byte a: the table's second column
abbrev pub IsSecond : ℕ → ℕ → Type 0
IsSecond a b = IsTail b × (a ≡ 0xE0 → 0xA0 ≤ b) × (a ≡ 0xED → b ≤ 0x9F)
    × (a ≡ 0xF0 → 0x90 ≤ b) × (a ≡ 0xF4 → b ≤ 0x8F)

-- the bytes are the well-formed sequence of the point p
abbrev pub IsUtf8Unit : List ℕ → ℕ → Type 0
IsUtf8Unit (a ∷ []) p = (a ≤ 0x7F) × (p ≡ a)
IsUtf8Unit (a ∷ b ∷ []) p = InRange 0xC2 0xDF a × IsSecond a b
    × (p + 0xC0 * 64 + 0x80 ≡ a * 64 + b)
IsUtf8Unit (a ∷ b ∷ c ∷ []) p = InRange 0xE0 0xEF a × IsSecond a b × IsTail c
    × (p + 0xE0 * 4096 + 0x80 * 64 + 0x80 ≡ a * 4096 + b * 64 + c)
IsUtf8Unit (a ∷ b ∷ c ∷ d ∷ []) p = InRange 0xF0 0xF4 a × IsSecond a b × IsTail c × IsTail d
    × (p + 0xF0 * 262144 + 0x80 * 4096 + 0x80 * 64 + 0x80 ≡ a * 262144 + b * 4096 + c * 64 + d)
IsUtf8Unit _ p = ⊥

-- how UTF-8 spells a point
abbrev pub utf8 : ℕ → List ℕ
utf8 p =
    if nat_lt p 0x80 then p ∷ []
    else if nat_lt p 0x800 then (0xC0 + p / 64) ∷ (0x80 + p % 64) ∷ []
    else if nat_lt p 0x10000 then (0xE0 + p / 4096) ∷ (0x80 + p / 64 % 64) ∷ (0x80 + p % 64) ∷ []
    else (0xF0 + p / 262144) ∷ (0x80 + p / 4096 % 64) ∷ (0x80 + p / 64 % 64) ∷ (0x80 + p % 64) ∷ []
