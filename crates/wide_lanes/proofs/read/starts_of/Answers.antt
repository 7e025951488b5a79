use Rattle.std.proofs.Common.{◌≡◌, ℕ, List, [], ◌∷◌, ◌++◌, replicate, refl, subst}
use Rattle.std.proofs.lemmas.Simd.{pick_l_whole}
use lib.Lanes.{pick_l}
use Rattle.wide_lanes.specs.Read.{shifted}
use Rattle.wide_lanes.proofs.read.starts_of.Goals as goal

-- the places that the shuffle picks
places : List ℕ
places = 0 ∷ 8 ∷ 9 ∷ 10 ∷ 11 ∷ 12 ∷ 13 ∷ 14 ∷ []

pub returns-clause-value : goal.returns-clause-value
unfolding places
returns-clause-value c = subst (λ (v : List ℕ). pick_l 0 (replicate 8 0 ++ v) places ≡ shifted 0 v) (pick_l_whole 0 c.args.ends 8 c.fits-ends.0) refl
