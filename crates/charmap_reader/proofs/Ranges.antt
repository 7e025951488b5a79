-- Points between two points, and codes behind a code.
use Rattle.std.proofs.Common.{◌≡◌, ℕ, zero, suc, ◌+◌, ◌-◌, ◌*◌, ◌%◌, ◌^◌, ◌<◌, ◌≤◌, Bool, true, false, ltb, leb, ◌&&◌, List, length, refl, ap, ◌∙◌, inl, inr, ◌⊎◌, arith}
use Rattle.std.specs.List.{list_all, range_with_len}
use Rattle.std.proofs.lemmas.Bool.{lt-ltb, le-ltb, le-leb, lt-leb, ltb-true, leb-true, or_cases, and_parts, or_right, and_from}
use Rattle.std.proofs.Math.Nat.{pow-le-pow_right, mod-eq_of_lt}
use Rattle.std.proofs.lemmas.List.Folds.{list_all_at}
use Rattle.std.proofs.lemmas.List.FromFn.{length-range_with_len, get_or-range_with_len}
use Rattle.code_pairs.specs.Bytes.{value_of}
use Rattle.code_pairs.specs.Tables.{is_point}
use Rattle.code_pairs.proofs.Codes.{pow-eight}
use Rattle.charmap_words.specs.declared.Span.{Span}
use Rattle.charmap_reader.specs.Mapping.{is_range}

-- A test that holds of each number from one on, so many, holds of the list of them.
all_of : (p : ℕ → Bool) (a n : ℕ) → ((x : ℕ) → a ≤ x → x < a + n → p x ≡ true) →
    list_all p (range_with_len a n) ≡ true
all_of p a zero each = refl
all_of p a (suc n) each =
    rw (each a (omega arith) (omega arith))
    (all_of p (a + 1) n (λ x low high. each x (omega arith) (omega arith)))

low_point : (x : ℕ) → x < 0xD800 → is_point x ≡ true
low_point x h = rw (lt-ltb x 0xD800 h) refl

high_point : (x : ℕ) → 0xE000 ≤ x → x ≤ 0x10FFFF → is_point x ≡ true
high_point x a b = or_right (ltb x 0xD800) (leb 0xE000 x && leb x 0x10FFFF)
    (and_from (leb 0xE000 x) (leb x 0x10FFFF) (le-leb 0xE000 x a) (le-leb x 0x10FFFF b))

no_point : (x : ℕ) → 0xD800 ≤ x → x < 0xE000 → is_point x ≡ false
no_point x a b = rw (le-ltb x 0xD800 a, lt-leb 0xE000 x b) refl

-- A point is at most 10FFFF.
pub point_below : (x : ℕ) → is_point x ≡ true → x ≤ 0x10FFFF
point_below x t = elim (or_cases (ltb x 0xD800) (leb 0xE000 x && leb x 0x10FFFF) t) [
  | inl l ↦ omega (arith, ltb-true x 0xD800 l)
  | inr h ↦ leb-true x 0x10FFFF (and_parts (leb 0xE000 x) (leb x 0x10FFFF) h).1
]

-- A point stands before the surrogates or behind them.
point_side : (x : ℕ) → is_point x ≡ true → (x < 0xD800) ⊎ (0xE000 ≤ x)
point_side x t = elim (or_cases (ltb x 0xD800) (leb 0xE000 x && leb x 0x10FFFF) t) [
  | inl l ↦ inl (ltb-true x 0xD800 l)
  | inr h ↦ inr (leb-true 0xE000 x (and_parts (leb 0xE000 x) (leb x 0x10FFFF) h).0)
]

-- Where the surrogates don't stand between two points, all numbers between them are points.
points_between : (first last : ℕ) → is_point first ≡ true → is_point last ≡ true → first ≤ last →
    (first < 0xD800 → 0xE000 ≤ last → ⊥) →
    list_all is_point (range_with_len first (last - first + 1)) ≡ true
points_between first last f l le apart = elim (point_side last l) [
  | inl low ↦ all_of is_point first (last - first + 1) (λ x a b. low_point x (omega arith))
  | inr high ↦ elim (point_side first f) [
    | inl below ↦ absurd (apart below high)
    | inr above ↦ all_of is_point first (last - first + 1)
        (λ x a b. high_point x (omega arith) (omega (arith, point_below last l)))
  ]
]

-- Where they do, one of the numbers is none.
points_across : (first last : ℕ) → first < 0xD800 → 0xE000 ≤ last →
    list_all is_point (range_with_len first (last - first + 1)) ≡ false
points_across first last below high =
    list_all_at is_point (range_with_len first (last - first + 1)) (0xD800 - first) 0
    (omega (arith, length-range_with_len first (last - first + 1)))
    (ap is_point (get_or-range_with_len first (last - first + 1) (0xD800 - first) 0 (omega arith)
    ∙ here))
  where
    here : first + (0xD800 - first) ≡ 0xD800
    here = omega arith

-- A span that ends before it begins is no range.
pub range_backward : (span : Span) (code : List ℕ) → span.last < span.first →
    false ≡ is_range span code
range_backward span code lt = rw (lt-leb span.first span.last lt) refl

-- A span over the surrogates is no range.
pub range_across : (span : Span) (code : List ℕ) → span.first ≤ span.last → span.first < 0xD800 →
    0xE000 ≤ span.last → false ≡ is_range span code
range_across span code le below high =
    rw (le-leb span.first span.last le, points_across span.first span.last below high) refl

-- Another span is a range where the code of its last point is no longer.
pub range_between : (span : Span) (code : List ℕ) → is_point span.first ≡ true →
    is_point span.last ≡ true → span.first ≤ span.last →
    (span.first < 0xD800 → 0xE000 ≤ span.last → ⊥) →
    ltb (value_of code + (span.last - span.first)) (256 ^ length code) ≡ is_range span code
range_between span code f l le apart =
    rw (le-leb span.first span.last le, points_between span.first span.last f l le apart) refl

-- The numbers below which the codes of so many bytes stand, as the code computes them.
pub code_limit : (n : ℕ) → n ≤ 4 → 1 * 2 ^ (n * 8) % 18446744073709551616 ≡ 256 ^ n
code_limit n le =
    let small : 256 ^ n ≤ 256 ^ 4 = pow-le-pow_right (omega arith) le in
    let eight : 1 * 2 ^ (n * 8) ≡ 256 ^ n = omega (arith, pow-eight n) in
    ap (λ x. x % 18446744073709551616) eight ∙ mod-eq_of_lt (omega arith)
