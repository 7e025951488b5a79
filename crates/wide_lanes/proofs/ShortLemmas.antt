-- Points below 800 hex in UTF-8: pairs of bytes, of which the first counts, and the second where its bit is set.
use Rattle.std.proofs.Common.{◌≡◌, ℕ, ◌+◌, ◌*◌, ◌/◌, ◌%◌, ◌^◌, ◌≤◌, ◌<◌, Bool, true, false, cond, leb, List, [], ◌∷◌, ◌++◌, map, length, take, drop, get_or, count_ones, replicate, refl, sym, ap, ◌∙◌, arith, w8, w16}
use Rattle.std.specs.Prelude.{nat_eq, nat_le, nat_lt, if◌then◌else◌}
use Rattle.std.specs.List.{AllByRecursion, flat_map}
use Rattle.std.proofs.lemmas.Bool.Decides.{nat_tests}
use Rattle.std.proofs.lemmas.List.{length-map}
use Rattle.std.proofs.lemmas.Simd.{swz_l, tops_compared, zip2_splat_left, mask_l-mod}
use lib.Lanes.{zip2, mask_l, top}
use lib.Count.{ones}
use Rattle.step_unicode.specs.Utf8.{utf8}
use Rattle.wide_lanes.specs.Wide.{low_first}
use Rattle.wide_lanes.specs.Words.{front_short}
use Rattle.wide_lanes.specs.Ends.{by_bits, both_or_first}
use Rattle.wide_lanes.specs.declared.short.TheConstants.{ROWS}
use Rattle.wide_lanes.proofs.LaneLemmas.{none_pass}
use Rattle.wide_lanes.proofs.WindowLemmas.{spelled, listed}
use Rattle.wide_lanes.proofs.PickLemmas.{Each, each, first_eight}

-- the bytes that count
abbrev pub counting : ℕ → List ℕ → List ℕ
counting mask bytes = by_bits both_or_first mask bytes

abbrev pub Packs : List ℕ → List ℕ → ℕ → Type 0
Packs none xs m = take (4 + count_ones m) (first_eight (swz_l w8 16 xs 0 (get_or ROWS m none))) ≡ counting m (take 8 xs)

pub packs : (none : List ℕ) (m : ℕ) → m < 16 → (xs : List ℕ) → length xs ≡ 16 → Packs none xs m
unfolding ones
packs none m lt = spelled (λ xs. Packs none xs m) 16 (λ f. each (Packs none (listed f 16)) 16 m
    (refl, (refl, (refl, (refl, (refl, (refl, (refl, (refl, (refl, (refl, (refl, (refl, (refl, (refl, (refl, (refl, tt)))))))))))))))) lt)

-- the bits of numbers that a constant doesn't exceed
pub from_bits : (y : ℕ) (v : List ℕ) → length v ≡ 8 → mask_l (map (top 15) (zip2 (λ a b. cond (leb a b) 65535 0) (replicate 8 y) v)) % 2 ^ 64 ≡ mask_l (map (leb y) v)
from_bits y v long =
    ap (λ ms. mask_l ms % 2 ^ 64) (tops_compared w16 leb (replicate 8 y) v ∙ zip2_splat_left leb y 8 v long)
    ∙ mask_l-mod (map (leb y) v) 64 (omega (arith, length-map v (leb y), long))

below : (y : ℕ) (v : List ℕ) → AllByRecursion (λ x. leb y x ≡ false) v → AllByRecursion (λ x. x < y) v
below y [] none = tt
below y (x ∷ v) none = (grind (arith, nat_tests, none.0), below y v none.1)

-- where the test sets no bit, each point is below 800 hex
pub all_short : (v : List ℕ) → length v ≡ 8 → mask_l (map (top 15) (zip2 (λ a b. cond (leb a b) 65535 0) (replicate 8 2048) v)) % 2 ^ 64 ≡ 0 → AllByRecursion (λ p. p < 0x800) v
all_short v long none = below 2048 v (none_pass (leb 2048) v (sym (from_bits 2048 v long) ∙ none))

-- the bytes that count of one point
one_short : (p : ℕ) → p < 0x800 → both_or_first (nat_le 0x80 p) (front_short p % 256) (front_short p / 256) ≡ utf8 p
one_short p small = go (nat_lt p 0x80) refl
  where
    go : (t : Bool) → nat_lt p 0x80 ≡ t → both_or_first (nat_le 0x80 p) (front_short p % 256) (front_short p / 256) ≡ utf8 p
    go true e =
        let lt : p < 0x80 = grind (arith, nat_tests, e) in
        let no : nat_le 0x80 p ≡ false = grind (arith, nat_tests, lt) in
        let low : p % 256 ≡ p = omega (arith, lt) in
        rw (e, no) (ap (λ b. b ∷ []) low)
    go false e =
        let ge : 0x80 ≤ p = grind (arith, nat_tests, e) in
        let yes : nat_le 0x80 p ≡ true = grind (arith, nat_tests, ge) in
        let less : nat_lt p 0x800 ≡ true = grind (arith, nat_tests, small) in
        let low : (0xC0 + p / 64 + 256 * (0x80 + p % 64)) % 256 ≡ 0xC0 + p / 64 = omega (arith, small) in
        let high : (0xC0 + p / 64 + 256 * (0x80 + p % 64)) / 256 ≡ 0x80 + p % 64 = omega (arith, small) in
        rw (e, yes, less) (λ i. low i ∷ high i ∷ [])

-- the bytes that count of many
pub all_counting : (q : List ℕ) → AllByRecursion (λ p. p < 0x800) q → counting (mask_l (map (leb 0x80) q)) (low_first (map front_short q)) ≡ flat_map utf8 q
all_counting [] short = refl
all_counting (p ∷ q) short = go (all_counting q short.1) (nat_le 0x80 p) (one_short p short.0)
  where
    go : counting (mask_l (map (leb 0x80) q)) (low_first (map front_short q)) ≡ flat_map utf8 q → (t : Bool) →
        both_or_first t (front_short p % 256) (front_short p / 256) ≡ utf8 p →
        counting (cond t 1 0 + 2 * mask_l (map (leb 0x80) q)) ((front_short p % 256) ∷ (front_short p / 256) ∷ low_first (map front_short q)) ≡ utf8 p ++ flat_map utf8 q
    go rest true one =
        let odd : (1 + 2 * mask_l (map (leb 0x80) q)) % 2 ≡ 1 = omega arith in
        let half : (1 + 2 * mask_l (map (leb 0x80) q)) / 2 ≡ mask_l (map (leb 0x80) q) = omega arith in
        rw (odd, half) ((λ i. one i ++ rest i))
    go rest false one =
        let even : (0 + 2 * mask_l (map (leb 0x80) q)) % 2 ≡ 0 = omega arith in
        let half : (0 + 2 * mask_l (map (leb 0x80) q)) / 2 ≡ mask_l (map (leb 0x80) q) = omega arith in
        rw (even, half) ((λ i. one i ++ rest i))
