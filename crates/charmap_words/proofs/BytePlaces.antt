-- A spelled byte read place by place.
use Rattle.std.proofs.Common.{◌≡◌, ℕ, ◌+◌, ◌*◌, ◌<◌, ◌≤◌, Bool, true, cond, eqb, leb, ◌&&◌, ◌||◌, List, [], ◌∷◌, length, Some, None, refl, sym, ap, inl, inr, arith}
use Rattle.std.proofs.lemmas.Bool.{cases_Bool, cases_lt, lt-ltb, le-leb, lt-leb, leb-true, and_parts, or_cases}
use Rattle.charmap_words.specs.Digits.{is_octal, is_decimal, is_hex, digit}
use Rattle.charmap_words.specs.Spelling.{two_digits, two_taken, three_taken, byte_of, byte_at}
use Rattle.charmap_words.specs.Places.{small, hex_byte, decimal_byte, octal_byte, byte_in}

-- The value of a digit is below 16.
abbrev AreSmall : (ℕ → Bool) → Type 0
AreSmall p = (x : ℕ) → p x ≡ true → digit x < 16

decimal_small : AreSmall is_decimal
unfolding digit
decimal_small x t =
    let le : x ≤ 57 = leb-true x 57 (and_parts (leb 48 x) (leb x 57) t).1 in
    rw (le-leb x 57 le) (omega arith)

octal_small : AreSmall is_octal
unfolding digit
octal_small x t =
    let le : x ≤ 55 = leb-true x 55 (and_parts (leb 48 x) (leb x 55) t).1 in
    let more : x ≤ 57 = omega arith in
    rw (le-leb x 57 more) (omega arith)

digit_small : (x : ℕ) → x ≤ 102 → (57 < x → 65 ≤ x) → (70 < x → 97 ≤ x) → digit x < 16
unfolding digit
digit_small x le a b = elim (cases_lt 57 x) [
  | inr low ↦ rw (le-leb x 57 low) (omega arith)
  | inl high ↦ elim (cases_lt 70 x) [
    | inr mid ↦ rw (lt-leb x 57 high, le-leb x 70 mid) (omega arith)
    | inl top ↦ rw (lt-leb x 57 high, lt-leb x 70 top) (omega arith)
  ]
]

hex_small : AreSmall is_hex
hex_small x t = elim (or_cases (is_decimal x || (leb 65 x && leb x 70)) (leb 97 x && leb x 102) t) [
  | inr low ↦
      let k = and_parts (leb 97 x) (leb x 102) low in
      digit_small x (leb-true x 102 k.1) (λ _. omega (arith, leb-true 97 x k.0))
      (λ _. leb-true 97 x k.0)
  | inl more ↦ elim (or_cases (is_decimal x) (leb 65 x && leb x 70) more) [
    | inl d ↦ decimal_small x d
    | inr up ↦
        let k = and_parts (leb 65 x) (leb x 70) up in
        digit_small x (omega (arith, leb-true x 70 k.1)) (λ _. leb-true 65 x k.0)
        (λ h. absurd (omega (arith, leb-true x 70 k.1)))
  ]
]

-- A byte of two digits.
two_of : (base before : ℕ) (p : ℕ → Bool) → AreSmall p →
    ((x y : ℕ) → x < 16 → y < 16 → base * x + y < 256) → (a b : ℕ) →
    byte_of base before (two_digits p a b)
    ≡ cond (p a && p b) (Some (base * digit a + digit b, before + 2)) None
two_of base before p are room a b = elim (cases_Bool (p a)) [
  | inr f ↦ rw f refl
  | inl t ↦ elim (cases_Bool (p b)) [
    | inr g ↦ rw (t, g) refl
    | inl s ↦
        let low : base * digit a + digit b < 256 = room (digit a) (digit b) (are a t) (are b s) in
        let same : base * (base * 0 + digit a) + digit b ≡ base * digit a + digit b =
        ap (λ n. base * n + digit b) (omega arith) in
        rw (t, s, same, lt-ltb (base * digit a + digit b) 256 low) refl
  ]
]

-- A byte of three digits, or of two.
three_of : (base before : ℕ) (p : ℕ → Bool) → AreSmall p →
    ((x y : ℕ) → x < 16 → y < 16 → base * x + y < 256) → (a b c : ℕ) (more : List ℕ) →
    byte_of base before (three_taken p (a ∷ b ∷ c ∷ more))
    ≡ cond (p a && p b && p c) (small (base * (base * digit a + digit b) + digit c) (before + 3))
    (cond (p a && p b) (Some (base * digit a + digit b, before + 2)) None)
three_of base before p are room a b c more = elim (cases_Bool (p a && p b && p c)) [
  | inl t ↦
      let same : base * (base * (base * 0 + digit a) + digit b) + digit c
      ≡ base * (base * digit a + digit b) + digit c =
      ap (λ n. base * (base * n + digit b) + digit c) (omega arith) in
      rw (t, same) refl
  | inr f ↦ rw f (two_of base before p are room a b)
]

-- More bytes than some are at least as many.
at_least : (n : ℕ) (text : List ℕ) → n ≤ length text → leb n (length text) ≡ true
at_least n text h = le-leb n (length text) h

hex_here : (e f : ℕ) (text : List ℕ) →
    hex_byte (e ∷ f ∷ text) ≡ byte_of 16 2 (two_taken is_hex text)
unfolding hex_byte
hex_here e f [] = refl
hex_here e f (a ∷ []) = refl
hex_here e f (a ∷ b ∷ more) =
    rw (at_least 4 (e ∷ f ∷ a ∷ b ∷ more) (omega arith))
    (sym (two_of 16 2 is_hex hex_small (λ x y h k. omega arith) a b))

decimal_here : (e f : ℕ) (text : List ℕ) →
    decimal_byte (e ∷ f ∷ text) ≡ byte_of 10 2 (three_taken is_decimal text)
unfolding decimal_byte
decimal_here e f [] = refl
decimal_here e f (a ∷ []) = refl
decimal_here e f (a ∷ b ∷ []) =
    sym (two_of 10 2 is_decimal decimal_small (λ x y h k. omega arith) a b)
decimal_here e f (a ∷ b ∷ c ∷ more) =
    rw (
      at_least 5 (e ∷ f ∷ a ∷ b ∷ c ∷ more) (omega arith),
      at_least 4 (e ∷ f ∷ a ∷ b ∷ c ∷ more)
          (omega arith),
    )
    (sym (three_of 10 2 is_decimal decimal_small (λ x y h k. omega arith) a b c more))

octal_here : (e : ℕ) (text : List ℕ) →
    octal_byte (e ∷ text) ≡ byte_of 8 1 (three_taken is_octal text)
unfolding octal_byte
octal_here e [] = refl
octal_here e (a ∷ []) = refl
octal_here e (a ∷ b ∷ []) = sym (two_of 8 1 is_octal octal_small (λ x y h k. omega arith) a b)
octal_here e (a ∷ b ∷ c ∷ more) =
    rw (
      at_least 4 (e ∷ a ∷ b ∷ c ∷ more) (omega arith),
      at_least 3 (e ∷ a ∷ b ∷ c ∷ more)
          (omega arith),
    )
    (sym (three_of 8 1 is_octal octal_small (λ x y h k. omega arith) a b c more))

-- A spelled byte is read place by place.
pub byte_places : (escape : ℕ) (text : List ℕ) → byte_in escape text ≡ byte_at escape text
unfolding byte_in
byte_places escape [] = refl
byte_places escape (e ∷ []) =
    elim (cases_Bool (eqb e escape)) [ inl t ↦ rw t refl | inr f ↦ rw f refl ]
byte_places escape (e ∷ f ∷ more) =
    rw (
      at_least 2 (e ∷ f ∷ more) (omega arith),
      hex_here e f more,
      decimal_here e f more,
      octal_here e (f ∷ more),
    ) refl
