-- Pairs of bytes that are kept, written as four bytes each.
use Rattle.std.proofs.Common.{◌≡◌, ℕ, ◌*◌, ◌/◌, ◌%◌, ◌<◌, Bool, true, false, List, [], ◌∷◌, ◌++◌, length, take, get_or, count_ones, refl, ap, ◌∙◌, w8}
use Rattle.std.specs.Prelude.{nat_eq, if◌then◌else◌}
use Rattle.std.proofs.lemmas.Simd.{swz_l}
use lib.Count.{ones}
use Rattle.wide_lanes.specs.Wide.{low_first, in_fours}
use Rattle.wide_lanes.specs.Ends.{picked, by_bits, four_or_none}
use Rattle.wide_lanes.specs.declared.fours.TheConstants.{ROWS}
use Rattle.wide_lanes.proofs.WindowLemmas.{spelled, listed}
use Rattle.wide_lanes.proofs.PickLemmas.{Each, each}

abbrev pub Packs : List ℕ → List ℕ → ℕ → Type 0
Packs none xs m = take (4 * count_ones m) (swz_l w8 16 xs 0 (get_or ROWS m none)) ≡ by_bits four_or_none m (take 8 xs)

pub packs : (none : List ℕ) (m : ℕ) → m < 16 → (xs : List ℕ) → length xs ≡ 16 → Packs none xs m
unfolding ones
packs none m lt = spelled (λ xs. Packs none xs m) 16 (λ f. each (Packs none (listed f 16)) 16 m
    (refl, (refl, (refl, (refl, (refl, (refl, (refl, (refl, (refl, (refl, (refl, (refl, (refl, (refl, (refl, (refl, tt)))))))))))))))) lt)

fours_length : (m : ℕ) → m < 16 → (v : List ℕ) → length v ≡ 8 → length (by_bits four_or_none m v) ≡ 4 * count_ones m
unfolding ones
fours_length m lt = spelled (λ v. length (by_bits four_or_none m v) ≡ 4 * count_ones m) 8 (λ f. each (λ m. length (by_bits four_or_none m (listed f 8)) ≡ 4 * count_ones m) 16 m
    (refl, (refl, (refl, (refl, (refl, (refl, (refl, (refl, (refl, (refl, (refl, (refl, (refl, (refl, (refl, (refl, tt)))))))))))))))) lt)

-- so many bytes have those at four bits
pub fours_count : (left m : ℕ) → m < 16 → (v : List ℕ) → length v ≡ 8 → m ≡ left % 16 → length (by_bits four_or_none m v) ≡ 4 * count_ones (left % 16)
fours_count left m lt v long e = fours_length m lt v long ∙ ap (λ k. 4 * count_ones k) e

-- pairs of one number each
pub picked_fours : (m : ℕ) (q : List ℕ) → by_bits four_or_none m (low_first q) ≡ in_fours (picked m q)
picked_fours m [] = refl
picked_fours m (p ∷ q) = go (picked_fours (m / 2) q) (nat_eq (m % 2) 1)
  where
    go : by_bits four_or_none (m / 2) (low_first q) ≡ in_fours (picked (m / 2) q) → (t : Bool) →
        four_or_none t (p % 256) (p / 256) ++ by_bits four_or_none (m / 2) (low_first q) ≡ in_fours (if t then p ∷ picked (m / 2) q else picked (m / 2) q)
    go rest true = ap (λ z. 0 ∷ 0 ∷ (p / 256) ∷ (p % 256) ∷ z) rest
    go rest false = rest
