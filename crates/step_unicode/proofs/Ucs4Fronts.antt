-- The fronts of units of UCS-4: more bytes make each of them a unit.
use Rattle.std.proofs.Common.{◌≡◌, ◌≢◌, ℕ, ◌+◌, ◌*◌, ◌<◌, ◌≤◌, List, [], ◌∷◌, ◌++◌, length, get_or, arith, inl, inr}
use Rattle.std.proofs.lemmas.Bool.{cases_lt}
use Rattle.step_unicode.specs.Points.{InRange, IsByte}
use Rattle.step_unicode.specs.Ucs4.{IsUcs4Unit}

-- bytes that go on to a unit
pub record GoesOn (x : List ℕ) : Type 0 where
  pub more : List ℕ
  pub some : more ≢ []
  pub point : ℕ
  pub unit : IsUcs4Unit (x ++ more) point

some_byte : (b : ℕ) (bs : List ℕ) → b ∷ bs ≢ []
some_byte b bs e = cc

-- the first byte
pub one : (x : List ℕ) → 0 < length x → length x < 2 → get_or x 0 0 ≡ 0 → GoesOn x
one [] l h a = absurd (omega arith)
one (a ∷ []) l h zero_a = record {
  more = 0 ∷ 0 ∷ 0 ∷ [];
  some = some_byte _ _;
  point = 0;
  unit = (omega arith, omega arith, omega arith, omega arith, (omega arith, λ h. omega arith), omega arith);
}
one (a ∷ b ∷ x) l h zero_a = absurd (omega arith)

-- two bytes
pub two : (x : List ℕ) → 2 ≤ length x → length x < 3 → get_or x 0 0 ≡ 0 → get_or x 1 0 ≤ 0x10 → GoesOn x
two [] l h a b = absurd (omega arith)
two (a ∷ []) l h zero_a plane = absurd (omega arith)
two (a ∷ b ∷ []) l h zero_a plane = record {
  more = 0 ∷ 0 ∷ [];
  some = some_byte _ _;
  point = b * 65536;
  unit = (omega arith, omega arith, omega arith, omega arith, (omega arith, λ h. omega arith), omega arith);
}
two (a ∷ b ∷ c ∷ x) l h zero_a plane = absurd (omega arith)

-- a row behind no surrogate's bytes
above : (b c : ℕ) → b ≤ 0x10 → ¬ ((b ≡ 0) × InRange 0xD8 0xDF c) → 0xD800 ≤ b * 65536 + c * 256 → 0xDFFF < b * 65536 + c * 256
above b c plane none h = elim (cases_lt 0xDFFF (b * 65536 + c * 256)) [
  | inl over ↦ over
  | inr under ↦ absurd (none (omega arith, (omega arith, omega arith)))
]

-- three bytes
pub three : (x : List ℕ) → 3 ≤ length x → length x < 4 → get_or x 0 0 ≡ 0 → get_or x 1 0 ≤ 0x10 → IsByte (get_or x 2 0) →
    ¬ ((get_or x 1 0 ≡ 0) × InRange 0xD8 0xDF (get_or x 2 0)) → GoesOn x
three [] l h a b c d = absurd (omega arith)
three (a ∷ []) l h zero_a plane row none = absurd (omega arith)
three (a ∷ b ∷ []) l h zero_a plane row none = absurd (omega arith)
three (a ∷ b ∷ c ∷ []) l h zero_a plane row none = record {
  more = 0 ∷ [];
  some = some_byte _ _;
  point = b * 65536 + c * 256;
  unit = (omega arith, omega arith, row, omega arith, (omega arith, above b c plane none), omega arith);
}
three (a ∷ b ∷ c ∷ d ∷ x) l h zero_a plane row none = absurd (omega arith)
