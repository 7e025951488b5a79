-- UTF-16 (RFC 2781): one number of 16 bits for a point up to FFFF, else a pair of surrogates.
use Rattle.std.specs.Prelude.{◌≡◌, ◌≢◌, ℕ, ◌+◌, ◌-◌, ◌*◌, ◌/◌, ◌%◌, ◌⊎◌, List, [], ◌∷◌, ◌++◌, Option, Some, None, nat_lt, if◌then◌else◌}
use Rattle.std.specs.List.{flat_map}
use Rattle.step_unicode.specs.Points.{InRange, IsByte, IsPoint, IsStatelessUnit}
use Rattle.step_unicode.specs.declared.set.State.{State}
use Rattle.step_unicode.specs.declared.set.State.TheVariants.{Plain, Little, Big}

-- the number that two bytes are in the little order
abbrev pub little : ℕ → ℕ → ℕ
little a b = a + 256 * b

-- the number that two bytes are in the big order
abbrev pub big : ℕ → ℕ → ℕ
big a b = 256 * a + b

-- the bytes are the point p in an order
abbrev pub IsUtf16Unit : (ℕ → ℕ → ℕ) → List ℕ → ℕ → Type 0
IsUtf16Unit number (a ∷ b ∷ []) p = IsByte a × IsByte b × IsPoint p × (p ≡ number a b)
IsUtf16Unit number (a ∷ b ∷ c ∷ d ∷ []) p = IsByte a × IsByte b × IsByte c × IsByte d
    × InRange 0xD800 0xDBFF (number a b) × InRange 0xDC00 0xDFFF (number c d)
    × (p + 0xD800 * 1024 + 0xDC00 ≡ 0x10000 + number a b * 1024 + number c d)
IsUtf16Unit number _ p = ⊥

-- the bytes of a number in the little order
abbrev pub little_bytes : ℕ → List ℕ
little_bytes n = (n % 256) ∷ (n / 256) ∷ []

-- the bytes of a number in the big order
abbrev pub big_bytes : ℕ → List ℕ
big_bytes n = (n / 256) ∷ (n % 256) ∷ []

-- how UTF-16 spells a point in an order
abbrev pub utf16 : (ℕ → List ℕ) → ℕ → List ℕ
utf16 bytes p =
    if nat_lt p 0x10000 then bytes p
    else bytes (0xD800 + (p - 0x10000) / 1024) ++ bytes (0xDC00 + (p - 0x10000) % 1024)

-- the mark of the big order
abbrev pub big_mark : List ℕ
big_mark = 0xFE ∷ 0xFF ∷ []

-- the mark of the little order
abbrev pub little_mark : List ℕ
little_mark = 0xFF ∷ 0xFE ∷ []

-- the first unit of a text of UTF-16: a mark, which gives no point, or a unit of the little order
abbrev pub IsFirstUnit : List ℕ → Option ℕ → State → Type 0
IsFirstUnit u q t =
    ((u ≡ big_mark) × (q ≡ None) × (t ≡ Big))
    ⊎ ((u ≡ little_mark) × (q ≡ None) × (t ≡ Little))
    ⊎ ((u ≢ big_mark) × (u ≢ little_mark) × ((p : ℕ) × IsUtf16Unit little u p × (q ≡ Some p)) × (t ≡ Little))

-- a unit of the set UTF-16 in each of its states
abbrev pub IsUtf16SetUnit : State → List ℕ → Option ℕ → State → Type 0
IsUtf16SetUnit Plain u q t = IsFirstUnit u q t
IsUtf16SetUnit Little u q t = IsStatelessUnit (IsUtf16Unit little) Little u q t
IsUtf16SetUnit Big u q t = IsStatelessUnit (IsUtf16Unit big) Big u q t
IsUtf16SetUnit _ u q t = ⊥

-- how UTF-16 spells a list: with a mark before the first point, where no order was set
abbrev pub marked : State → List ℕ → List ℕ
marked Plain [] = []
marked Plain (p ∷ q) = little_mark ++ flat_map (utf16 little_bytes) (p ∷ q)
marked Big q = flat_map (utf16 big_bytes) q
marked _ q = flat_map (utf16 little_bytes) q

-- the order that a list leaves
abbrev pub after_marked : State → List ℕ → State
after_marked Plain [] = Plain
after_marked Plain (p ∷ q) = Little
after_marked s q = s
