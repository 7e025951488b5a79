use Rattle.std.proofs.Common.{◌≡◌, ℕ, List, [], ◌∷◌, ◌++◌, replicate, refl, subst}
use Rattle.std.proofs.lemmas.Simd.{pick_l_whole}
use lib.Lanes.{pick_l}
use Rattle.ascii_lanes.specs.Plain.{high_first}
use Rattle.ascii_lanes.proofs.high_first.Goals as goal

-- the places that the shuffle picks
places : List ℕ
places = 16 ∷ 0 ∷ 17 ∷ 1 ∷ 18 ∷ 2 ∷ 19 ∷ 3 ∷ 20 ∷ 4 ∷ 21 ∷ 5 ∷ 22 ∷ 6 ∷ 23 ∷ 7 ∷ 24 ∷ 8 ∷ 25 ∷ 9 ∷ 26 ∷ 10 ∷ 27 ∷ 11 ∷ 28 ∷ 12 ∷ 29 ∷ 13 ∷ 30 ∷ 14 ∷ 31 ∷ 15 ∷ []

pub returns-clause-value : goal.returns-clause-value
unfolding places
returns-clause-value c =
    subst (λ (v : List ℕ). pick_l 0 (v ++ replicate 16 0) places ≡ high_first v) (pick_l_whole 0 c.args.points 16 c.fits-points.0) refl
