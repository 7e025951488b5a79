-- The fronts of units of UTF-8: more bytes make each of them a unit.
use Rattle.std.proofs.Common.{◌≢◌, inl, inr, ℕ, ◌+◌, ◌-◌, ◌*◌, ◌<◌, ◌≤◌, List, [], ◌∷◌, ◌++◌, length, get_or, arith}
use Rattle.std.proofs.lemmas.Bool.{cases_eq, cases_lt}
use Rattle.step_unicode.specs.Utf8.{IsTail, IsSecond, IsUtf8Unit}
use Rattle.step_unicode.specs.Points.{InRange}

-- bytes that go on to a unit
pub record GoesOn (x : List ℕ) : Type 0 where
  pub more : List ℕ
  pub some : more ≢ []
  pub point : ℕ
  pub unit : IsUtf8Unit (x ++ more) point

some_byte : (b : ℕ) (bs : List ℕ) → b ∷ bs ≢ []
some_byte b bs e = cc

from_three : (a b c : ℕ) → InRange 0xF0 0xF4 a → IsSecond a b → IsTail c → GoesOn (a ∷ b ∷ c ∷ [])
from_three a b c first second third = record {
  more = 0x80 ∷ [];
  some = some_byte _ _;
  point = a * 262144 + b * 4096 + c * 64 + 0x80 - (0xF0 * 262144 + 0x80 * 4096 + 0x80 * 64 + 0x80);
  unit = (first, second, third, (omega arith, omega arith), omega arith);
}

from_two : (a b : ℕ) → InRange 0xE0 0xF4 a → IsSecond a b → GoesOn (a ∷ b ∷ [])
from_two a b first second = elim (cases_lt a 0xF0) [
  | inl short ↦ record {
    more = 0x80 ∷ [];
    some = some_byte _ _;
    point = a * 4096 + b * 64 + 0x80 - (0xE0 * 4096 + 0x80 * 64 + 0x80);
    unit = ((omega arith, omega arith), second, (omega arith, omega arith), omega arith);
  }
  | inr long ↦
      let next : GoesOn (a ∷ b ∷ 0x80 ∷ []) = from_three a b 0x80 (omega arith, omega arith) second (omega arith, omega arith) in
      record { more = 0x80 ∷ next.more; some = some_byte _ _; point = next.point; unit = next.unit }
]

second_of : (a : ℕ) → (b : ℕ) × IsSecond a b
second_of a = elim (cases_eq a 0xE0) [
  | inl e ↦ (0xA0, ((omega arith, omega arith), (λ _. omega arith), (λ h. omega arith), (λ h. omega arith), (λ h. omega arith)))
  | inr ne ↦ elim (cases_eq a 0xF0) [
    | inl f ↦ (0x90, ((omega arith, omega arith), (λ h. omega arith), (λ h. omega arith), (λ h. omega arith), (λ h. omega arith)))
    | inr nf ↦ (0x80, ((omega arith, omega arith), (λ h. absurd (ne h)), (λ h. omega arith), (λ h. absurd (nf h)), (λ h. omega arith)))
  ]
]

from_one : (a : ℕ) → InRange 0xC2 0xF4 a → GoesOn (a ∷ [])
from_one a first =
    let b : (b : ℕ) × IsSecond a b = second_of a in
    elim (cases_lt a 0xE0) [
      | inl short ↦ record {
        more = b.0 ∷ [];
        some = some_byte _ _;
        point = a * 64 + b.0 - (0xC0 * 64 + 0x80);
        unit = ((omega arith, omega arith), b.1, omega arith);
      }
      | inr long ↦
          let next : GoesOn (a ∷ b.0 ∷ []) = from_two a b.0 (omega arith, omega arith) b.1 in
          record { more = b.0 ∷ next.more; some = some_byte _ _; point = next.point; unit = next.unit }
    ]

-- the same of a list by its places
pub one : (x : List ℕ) → 0 < length x → length x < 2 → InRange 0xC2 0xF4 (get_or x 0 0) → GoesOn x
one [] l h first = absurd (omega arith)
one (a ∷ []) l h first = from_one a first
one (a ∷ b ∷ x) l h first = absurd (omega arith)

pub two : (x : List ℕ) → 2 ≤ length x → length x < 3 → InRange 0xE0 0xF4 (get_or x 0 0) → IsSecond (get_or x 0 0) (get_or x 1 0) → GoesOn x
two [] l h first second = absurd (omega arith)
two (a ∷ []) l h first second = absurd (omega arith)
two (a ∷ b ∷ []) l h first second = from_two a b first second
two (a ∷ b ∷ c ∷ x) l h first second = absurd (omega arith)

pub three : (x : List ℕ) → 3 ≤ length x → length x < 4 → InRange 0xF0 0xF4 (get_or x 0 0) → IsSecond (get_or x 0 0) (get_or x 1 0) → IsTail (get_or x 2 0) → GoesOn x
three [] l h first second third = absurd (omega arith)
three (a ∷ []) l h first second third = absurd (omega arith)
three (a ∷ b ∷ []) l h first second third = absurd (omega arith)
three (a ∷ b ∷ c ∷ []) l h first second third = from_three a b c first second third
three (a ∷ b ∷ c ∷ d ∷ x) l h first second third = absurd (omega arith)
