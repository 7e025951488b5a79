use Rattle.std.proofs.Common.{◌≡◌, ℕ, List, [], ◌∷◌, ◌++◌, refl, subst}
use Rattle.std.proofs.lemmas.Simd.{pick_l_whole}
use lib.Lanes.{pick_l}
use Rattle.wide_lanes.specs.Wide.{swapped}
use Rattle.wide_lanes.proofs.units.swap.Goals as goal

-- the places that the shuffle picks
places : List ℕ
places = 1 ∷ 0 ∷ 3 ∷ 2 ∷ 5 ∷ 4 ∷ 7 ∷ 6 ∷ 9 ∷ 8 ∷ 11 ∷ 10 ∷ 13 ∷ 12 ∷ 15 ∷ 14 ∷ []

pub returns-clause-value : goal.returns-clause-value
unfolding places
returns-clause-value c = subst (λ (v : List ℕ). pick_l 0 (v ++ v) places ≡ swapped v) (pick_l_whole 0 c.args.bytes 16 c.fits-bytes.0) refl
