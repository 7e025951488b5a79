use Rattle.std.proofs.Common.{◌≡◌, ℕ, List, [], ◌∷◌, ◌++◌, replicate, refl, subst}
use Rattle.std.proofs.lemmas.Simd.{pick_l_whole}
use lib.Lanes.{pick_l}
use Rattle.ascii_lanes.specs.Plain.{low_first}
use Rattle.ascii_lanes.proofs.low_first.Goals as goal

-- the places that the shuffle picks
places : List ℕ
places = 0 ∷ 16 ∷ 1 ∷ 17 ∷ 2 ∷ 18 ∷ 3 ∷ 19 ∷ 4 ∷ 20 ∷ 5 ∷ 21 ∷ 6 ∷ 22 ∷ 7 ∷ 23 ∷ 8 ∷ 24 ∷ 9 ∷ 25 ∷ 10 ∷ 26 ∷ 11 ∷ 27 ∷ 12 ∷ 28 ∷ 13 ∷ 29 ∷ 14 ∷ 30 ∷ 15 ∷ 31 ∷ []

pub returns-clause-value : goal.returns-clause-value
unfolding places
returns-clause-value c =
    subst (λ (v : List ℕ). pick_l 0 (v ++ replicate 16 0) places ≡ low_first v) (pick_l_whole 0 c.args.points 16 c.fits-points.0) refl
