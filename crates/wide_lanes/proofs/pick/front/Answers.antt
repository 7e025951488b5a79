use Rattle.std.proofs.Common.{◌≡◌, ℕ, List, [], ◌∷◌, ◌++◌, take, drop, refl}
use lib.Lanes.{pick_l}
use Rattle.wide_lanes.proofs.WindowLemmas.{spelled}
use Rattle.wide_lanes.proofs.pick.front.Goals as goal

-- the places that the shuffle picks
abbrev places : List ℕ
places = 0 ∷ 1 ∷ 2 ∷ 3 ∷ 4 ∷ 5 ∷ 6 ∷ 7 ∷ 8 ∷ 9 ∷ 10 ∷ 11 ∷ 12 ∷ 13 ∷ 14 ∷ 15 ∷ []

pub returns : goal.returns
returns c = spelled (λ v. pick_l 0 (v ++ v) places ≡ take 16 v) 32 (λ f. refl) c.args.bytes c.fits-bytes.0
