-- Points, bytes, and units that leave the state.
use Rattle.std.specs.Prelude.{◌≡◌, ℕ, ◌<◌, ◌≤◌, List, Option, Some}
use Rattle.step_unicode.specs.declared.set.State.{State}

-- a number from low to high, both included
abbrev pub InRange : ℕ → ℕ → ℕ → Type 0
InRange low high n = (low ≤ n) × (n ≤ high)

-- a byte
abbrev pub IsByte : ℕ → Type 0
IsByte b = b ≤ 0xFF

-- a point is a Unicode scalar value: up to 10FFFF, and no surrogate
abbrev pub IsPoint : ℕ → Type 0
IsPoint p = (p ≤ 0x10FFFF) × (0xD800 ≤ p → 0xDFFF < p)

-- where codes stand for points in every state alike, a unit is a code: it gives the code's point, and the
-- state stays
abbrev pub IsStatelessUnit : (List ℕ → ℕ → Type 0) → State → List ℕ → Option ℕ → State → Type 0
IsStatelessUnit IsCode s u q t = (p : ℕ) × IsCode u p × (q ≡ Some p) × (t ≡ s)
