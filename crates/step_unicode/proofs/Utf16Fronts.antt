-- The fronts of units of UTF-16: more bytes make each of them a unit.
use Rattle.std.proofs.Common.{◌≢◌, ℕ, ◌+◌, ◌-◌, ◌*◌, ◌<◌, ◌≤◌, List, [], ◌∷◌, ◌++◌, length, get_or, arith, inl, inr}
use Rattle.std.proofs.lemmas.Bool.{cases_lt}
use Rattle.step_unicode.specs.Points.{InRange, IsByte}
use Rattle.step_unicode.specs.Utf16.{little, big, IsUtf16Unit}

-- bytes that go on to a unit
pub record GoesOn (number : ℕ → ℕ → ℕ) (x : List ℕ) : Type 0 where
  pub more : List ℕ
  pub some : more ≢ []
  pub point : ℕ
  pub unit : IsUtf16Unit number (x ++ more) point

some_byte : (b : ℕ) (bs : List ℕ) → b ∷ bs ≢ []
some_byte b bs e = cc

-- one byte, low byte first
pub little_one : (x : List ℕ) → 0 < length x → length x < 2 → IsByte (get_or x 0 0) → GoesOn little x
little_one [] l h a = absurd (omega arith)
little_one (a ∷ []) l h byte = record {
  more = 0 ∷ [];
  some = some_byte _ _;
  point = a;
  unit = (byte, omega arith, (omega arith, λ h. omega arith), omega arith);
}
little_one (a ∷ b ∷ x) l h byte = absurd (omega arith)

-- a high surrogate, low byte first, and perhaps a byte more
pub little_two : (x : List ℕ) → 2 ≤ length x → length x < 4 → IsByte (get_or x 0 0) → IsByte (get_or x 1 0) → IsByte (get_or x 2 0) →
    InRange 0xD800 0xDBFF (get_or x 0 0 + 256 * get_or x 1 0) → GoesOn little x
little_two [] l h a b c high = absurd (omega arith)
little_two (a ∷ []) l h byte byte2 byte3 high = absurd (omega arith)
little_two (a ∷ b ∷ []) l h byte byte2 byte3 high = record {
  more = 0 ∷ 0xDC ∷ [];
  some = some_byte _ _;
  point = 0x10000 + (a + 256 * b - 0xD800) * 1024;
  unit = (byte, byte2, omega arith, omega arith, high, (omega arith, omega arith), omega arith);
}
little_two (a ∷ b ∷ c ∷ []) l h byte byte2 byte3 high = record {
  more = 0xDC ∷ [];
  some = some_byte _ _;
  point = 0x10000 + (a + 256 * b - 0xD800) * 1024 + c;
  unit = (byte, byte2, byte3, omega arith, high, (omega arith, omega arith), omega arith);
}
little_two (a ∷ b ∷ c ∷ d ∷ x) l h byte byte2 byte3 high = absurd (omega arith)

-- one byte that begins no low surrogate, high byte first
pub big_one : (x : List ℕ) → 0 < length x → length x < 2 → IsByte (get_or x 0 0) → ¬ (InRange 0xDC 0xDF (get_or x 0 0)) → GoesOn big x
big_one [] l h byte none = absurd (omega arith)
big_one (a ∷ []) l h byte none = elim (cases_lt a 0xD8) [
  | inl low ↦ record {
    more = 0 ∷ [];
    some = some_byte _ _;
    point = 256 * a;
    unit = (byte, omega arith, (omega arith, λ h. omega arith), omega arith);
  }
  | inr high ↦ elim (cases_lt a 0xE0) [
    | inl pair ↦ elim (cases_lt a 0xDC) [
      | inr below ↦ absurd (none (below, omega arith))
      | inl pair_lead ↦ record {
        more = 0 ∷ 0xDC ∷ 0 ∷ [];
        some = some_byte _ _;
        point = 0x10000 + (256 * a - 0xD800) * 1024;
        unit = (byte, omega arith, omega arith, omega arith, (omega arith, omega arith), (omega arith, omega arith), omega arith);
      }
    ]
    | inr above ↦ record {
      more = 0 ∷ [];
      some = some_byte _ _;
      point = 256 * a;
      unit = (byte, omega arith, (omega arith, λ h. omega arith), omega arith);
    }
  ]
]
big_one (a ∷ b ∷ x) l h byte none = absurd (omega arith)

-- a surrogate whose first byte begins no low one
pub high_of : (a b : ℕ) → IsByte b → ¬ (InRange 0xDC 0xDF a) → 0xD800 ≤ 256 * a + b → 256 * a + b ≤ 0xDFFF → InRange 0xD800 0xDBFF (256 * a + b)
high_of a b byte none low high = elim (cases_lt a 0xDC) [
  | inl below ↦ (low, omega arith)
  | inr above ↦ absurd (none (above, omega arith))
]

-- a high surrogate, high byte first
pub big_two : (x : List ℕ) → 2 ≤ length x → length x < 3 → IsByte (get_or x 0 0) → IsByte (get_or x 1 0) →
    InRange 0xD800 0xDBFF (256 * get_or x 0 0 + get_or x 1 0) → GoesOn big x
big_two [] l h byte byte2 high = absurd (omega arith)
big_two (a ∷ []) l h byte byte2 high = absurd (omega arith)
big_two (a ∷ b ∷ []) l h byte byte2 high = record {
  more = 0xDC ∷ 0 ∷ [];
  some = some_byte _ _;
  point = 0x10000 + (256 * a + b - 0xD800) * 1024;
  unit = (byte, byte2, omega arith, omega arith, high, (omega arith, omega arith), omega arith);
}
big_two (a ∷ b ∷ c ∷ x) l h byte byte2 high = absurd (omega arith)

-- a high surrogate and the first byte of a low one, high byte first
pub big_three : (x : List ℕ) → 3 ≤ length x → length x < 4 → IsByte (get_or x 0 0) → IsByte (get_or x 1 0) → InRange 0xDC 0xDF (get_or x 2 0) →
    InRange 0xD800 0xDBFF (256 * get_or x 0 0 + get_or x 1 0) → GoesOn big x
big_three [] l h byte byte2 low high = absurd (omega arith)
big_three (a ∷ []) l h byte byte2 low high = absurd (omega arith)
big_three (a ∷ b ∷ []) l h byte byte2 low high = absurd (omega arith)
big_three (a ∷ b ∷ c ∷ []) l h byte byte2 low high = record {
  more = 0 ∷ [];
  some = some_byte _ _;
  point = 0x10000 + (256 * a + b - 0xD800) * 1024 + (256 * c - 0xDC00);
  unit = (byte, byte2, omega arith, omega arith, high, (omega arith, omega arith), omega arith);
}
big_three (a ∷ b ∷ c ∷ d ∷ x) l h byte byte2 low high = absurd (omega arith)
