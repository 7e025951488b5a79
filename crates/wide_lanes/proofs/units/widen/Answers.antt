use Rattle.std.proofs.Common.{◌≡◌, ℕ, List, [], ◌∷◌, ◌++◌, replicate, refl, subst}
use Rattle.std.proofs.lemmas.Simd.{pick_l_whole}
use lib.Lanes.{pick_l}
use Rattle.wide_lanes.specs.Wide.{widened}
use Rattle.wide_lanes.proofs.units.widen.Goals as goal

-- the places that the shuffle picks
places : List ℕ
places = 16 ∷ 16 ∷ 1 ∷ 0 ∷ 16 ∷ 16 ∷ 3 ∷ 2 ∷ 16 ∷ 16 ∷ 5 ∷ 4 ∷ 16 ∷ 16 ∷ 7 ∷ 6 ∷ 16 ∷ 16 ∷ 9 ∷ 8 ∷ 16 ∷ 16 ∷ 11 ∷ 10 ∷ 16 ∷ 16 ∷ 13 ∷ 12 ∷ 16 ∷ 16 ∷ 15 ∷ 14 ∷ []

pub returns-clause-value : goal.returns-clause-value
unfolding places
returns-clause-value c = subst (λ (v : List ℕ). pick_l 0 (v ++ replicate 16 0) places ≡ widened v) (pick_l_whole 0 c.args.bytes 16 c.fits-bytes.0) refl
