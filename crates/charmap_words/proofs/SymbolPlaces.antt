-- A symbol read place by place.
use Rattle.std.proofs.Common.{◌≡◌, ℕ, ◌+◌, ◌*◌, ◌<◌, Bool, true, false, cond, eqb, ◌&&◌, List, [], ◌∷◌, length, take, drop, Option, Some, None, refl, sym, ap, ◌∙◌, inl, inr, arith}
use Rattle.std.proofs.lemmas.Bool.{cases_eq, ne_eqb, eq-eqb}
use Rattle.std.proofs.lemmas.List.{drop_all}
use Rattle.code_pairs.specs.Tables.{is_point}
use Rattle.charmap_words.specs.Digits.{is_hex, digit}
use Rattle.charmap_words.specs.Symbols.{symbol, span, dotted}
use Rattle.charmap_words.specs.Places.{four, eight, number_in, as_point}

eqb_comm : (a b : ℕ) → eqb a b ≡ eqb b a
eqb_comm a b = elim (cases_eq a b) [
  | inl e ↦ eq-eqb a b e ∙ sym (eq-eqb b a (sym e))
  | inr n ↦ ne_eqb a b n ∙ sym (ne_eqb b a (λ e. n (sym e)))
]

-- Four tests before others.
pub four_tests : (a b c d rest : Bool) →
    (a && (b && (c && (d && rest)))) ≡ (a && b && c && d) && rest
four_tests false b c d rest = refl
four_tests true false c d rest = refl
four_tests true true false d rest = refl
four_tests true true true false rest = refl
four_tests true true true true rest = refl

-- A number behind tests, of four digits.
one_number : (x y z h : Bool) (n m : ℕ) → n ≡ m →
    cond ((((x && (y && true)) && (h && true)) && z) && is_point n) (Some n) None
    ≡ as_point (cond ((x && y) && z) (cond h (Some m) None) None)
one_number false y z h n m e = refl
one_number true false z h n m e = refl
one_number true true false false n m e = refl
one_number true true false true n m e = refl
one_number true true true false n m e = refl
one_number true true true true n m e = ap (λ k. as_point (Some k)) e

-- A number behind tests, of eight digits.
two_numbers : (x y z h l : Bool) (n high low : ℕ) → n ≡ 65536 * high + low →
    cond ((((x && (y && true)) && (h && (l && true))) && z) && is_point n) (Some n) None
    ≡ as_point (cond ((x && y) && z) (eight (cond h (Some high) None) (cond l (Some low) None)) None)
two_numbers false y z h l n high low e = refl
two_numbers true false z h l n high low e = refl
two_numbers true true false false l n high low e = refl
two_numbers true true false true false n high low e = refl
two_numbers true true false true true n high low e = refl
two_numbers true true true false l n high low e = refl
two_numbers true true true true false n high low e = refl
two_numbers true true true true true n high low e = ap (λ k. as_point (Some k)) e

abbrev tested : Bool → Bool → Bool → Bool → ℕ → Option ℕ
tested x y z h n = cond ((((x && (y && true)) && h) && z) && is_point n) (Some n) None

seven : (a b c d e f g : ℕ) →
    symbol (a ∷ b ∷ c ∷ d ∷ e ∷ f ∷ g ∷ []) ≡ as_point (number_in (a ∷ b ∷ c ∷ d ∷ e ∷ f ∷ g ∷ []))
unfolding number_in four
seven a b c d e f g =
    let n = 16 * (16 * (16 * (16 * 0 + digit c) + digit d) + digit e) + digit f in
    let m = 4096 * digit c + 256 * digit d + 16 * digit e + digit f in
    let h = is_hex c && is_hex d && is_hex e && is_hex f in
    ap (λ x. tested x (eqb 85 b) (eqb g 62)
    (is_hex c && (is_hex d && (is_hex e && (is_hex f && true)))) n) (eqb_comm 60 a)
    ∙ ap (λ y. tested (eqb a 60) y (eqb g 62)
    (is_hex c && (is_hex d && (is_hex e && (is_hex f && true)))) n) (eqb_comm 85 b)
    ∙ ap (λ t. tested (eqb a 60) (eqb b 85) (eqb g 62) t n)
    (four_tests (is_hex c) (is_hex d) (is_hex e) (is_hex f) true)
    ∙ one_number (eqb a 60) (eqb b 85) (eqb g 62) h n m (omega arith)

eleven : (a b c d e f g h i j k : ℕ) →
    symbol (a ∷ b ∷ c ∷ d ∷ e ∷ f ∷ g ∷ h ∷ i ∷ j ∷ k ∷ [])
    ≡ as_point (number_in (a ∷ b ∷ c ∷ d ∷ e ∷ f ∷ g ∷ h ∷ i ∷ j ∷ k ∷ []))
unfolding number_in four
eleven a b c d e f g h i j k =
    let n = 16 * (16 * (16 *
    (16 * (16 * (16 * (16 * (16 * 0 + digit c) + digit d) + digit e) + digit f) + digit g) +
    digit h) + digit i) + digit j in
    let high = 4096 * digit c + 256 * digit d + 16 * digit e + digit f in
    let low = 4096 * digit g + 256 * digit h + 16 * digit i + digit j in
    let p = is_hex c && is_hex d && is_hex e && is_hex f in
    let q = is_hex g && is_hex h && is_hex i && is_hex j in
    let later = is_hex g && (is_hex h && (is_hex i && (is_hex j && true))) in
    ap (λ x. tested x (eqb 85 b) (eqb k 62)
    (is_hex c && (is_hex d && (is_hex e && (is_hex f && later)))) n) (eqb_comm 60 a)
    ∙ ap (λ y. tested (eqb a 60) y (eqb k 62)
    (is_hex c && (is_hex d && (is_hex e && (is_hex f && later)))) n) (eqb_comm 85 b)
    ∙ ap (λ t. tested (eqb a 60) (eqb b 85) (eqb k 62) t n)
    (four_tests (is_hex c) (is_hex d) (is_hex e) (is_hex f) later
    ∙ ap (λ t. p && t) (four_tests (is_hex g) (is_hex h) (is_hex i) (is_hex j) true))
    ∙ two_numbers (eqb a 60) (eqb b 85) (eqb k 62) p q n high low (omega arith)

of_seven : (w : List ℕ) → length w ≡ 7 → symbol w ≡ as_point (number_in w)
of_seven [] z = absurd (omega arith)
of_seven (a ∷ []) z = absurd (omega arith)
of_seven (a ∷ b ∷ []) z = absurd (omega arith)
of_seven (a ∷ b ∷ c ∷ []) z = absurd (omega arith)
of_seven (a ∷ b ∷ c ∷ d ∷ []) z = absurd (omega arith)
of_seven (a ∷ b ∷ c ∷ d ∷ e ∷ []) z = absurd (omega arith)
of_seven (a ∷ b ∷ c ∷ d ∷ e ∷ f ∷ []) z = absurd (omega arith)
of_seven (a ∷ b ∷ c ∷ d ∷ e ∷ f ∷ g ∷ []) z = seven a b c d e f g
of_seven (a ∷ b ∷ c ∷ d ∷ e ∷ f ∷ g ∷ x ∷ xs) z = absurd (omega arith)

of_eleven : (w : List ℕ) → length w ≡ 11 → symbol w ≡ as_point (number_in w)
of_eleven [] z = absurd (omega arith)
of_eleven (a ∷ []) z = absurd (omega arith)
of_eleven (a ∷ b ∷ []) z = absurd (omega arith)
of_eleven (a ∷ b ∷ c ∷ []) z = absurd (omega arith)
of_eleven (a ∷ b ∷ c ∷ d ∷ []) z = absurd (omega arith)
of_eleven (a ∷ b ∷ c ∷ d ∷ e ∷ []) z = absurd (omega arith)
of_eleven (a ∷ b ∷ c ∷ d ∷ e ∷ f ∷ []) z = absurd (omega arith)
of_eleven (a ∷ b ∷ c ∷ d ∷ e ∷ f ∷ g ∷ []) z = absurd (omega arith)
of_eleven (a ∷ b ∷ c ∷ d ∷ e ∷ f ∷ g ∷ h ∷ []) z = absurd (omega arith)
of_eleven (a ∷ b ∷ c ∷ d ∷ e ∷ f ∷ g ∷ h ∷ i ∷ []) z = absurd (omega arith)
of_eleven (a ∷ b ∷ c ∷ d ∷ e ∷ f ∷ g ∷ h ∷ i ∷ j ∷ []) z = absurd (omega arith)
of_eleven (a ∷ b ∷ c ∷ d ∷ e ∷ f ∷ g ∷ h ∷ i ∷ j ∷ k ∷ []) z = eleven a b c d e f g h i j k
of_eleven (a ∷ b ∷ c ∷ d ∷ e ∷ f ∷ g ∷ h ∷ i ∷ j ∷ k ∷ x ∷ xs) z = absurd (omega arith)

of_neither : (w : List ℕ) → (length w ≡ 7 → ⊥) → (length w ≡ 11 → ⊥) →
    symbol w ≡ as_point (number_in w)
unfolding number_in
of_neither w n m = rw (ne_eqb (length w) 7 n, ne_eqb (length w) 11 m) refl

-- A symbol is read place by place.
pub symbol_places : (w : List ℕ) → symbol w ≡ as_point (number_in w)
symbol_places w = elim (cases_eq (length w) 7) [
  | inl e ↦ of_seven w e
  | inr n ↦ elim (cases_eq (length w) 11) [ inl e ↦ of_eleven w e | inr m ↦ of_neither w n m ]
]

no_span : (o : Option ℕ) → span o None ≡ None
no_span None = refl
no_span (Some first) = refl

-- A word with fewer bytes than its first symbol has no span.
pub dotted_short : (n : ℕ) (w : List ℕ) → length w < n → None ≡ dotted n w
dotted_short n w lt = let none : drop n w ≡ [] = drop_all n w (omega arith) in
    rw none (sym (no_span (symbol (take n w))))
