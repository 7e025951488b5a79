use Rattle.std.proofs.Common.{◌≡◌, ℕ, List, [], ◌∷◌, ◌++◌, replicate, refl, subst}
use Rattle.std.proofs.lemmas.Simd.{pick_l_whole}
use lib.Lanes.{pick_l}
use Rattle.ascii_lanes.specs.Plain.{last_of_four}
use Rattle.ascii_lanes.proofs.last_of_four.Goals as goal

-- the places that the shuffle picks
places : List ℕ
places = 16 ∷ 16 ∷ 16 ∷ 0 ∷ 16 ∷ 16 ∷ 16 ∷ 1 ∷ 16 ∷ 16 ∷ 16 ∷ 2 ∷ 16 ∷ 16 ∷ 16 ∷ 3 ∷ 16 ∷ 16 ∷ 16 ∷ 4 ∷ 16 ∷ 16 ∷ 16 ∷ 5 ∷ 16 ∷ 16 ∷ 16 ∷ 6 ∷ 16 ∷ 16 ∷ 16 ∷ 7 ∷ 16 ∷ 16 ∷ 16 ∷ 8 ∷ 16 ∷ 16 ∷ 16 ∷ 9 ∷ 16 ∷ 16 ∷ 16 ∷ 10 ∷ 16 ∷ 16 ∷ 16 ∷ 11 ∷ 16 ∷ 16 ∷ 16 ∷ 12 ∷ 16 ∷ 16 ∷ 16 ∷ 13 ∷ 16 ∷ 16 ∷ 16 ∷ 14 ∷ 16 ∷ 16 ∷ 16 ∷ 15 ∷ []

pub returns-clause-value : goal.returns-clause-value
unfolding places
returns-clause-value c =
    subst (λ (v : List ℕ). pick_l 0 (v ++ replicate 16 0) places ≡ last_of_four v) (pick_l_whole 0 c.args.points 16 c.fits-points.0) refl
