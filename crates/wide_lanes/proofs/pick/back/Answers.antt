use Rattle.std.proofs.Common.{◌≡◌, ℕ, List, [], ◌∷◌, ◌++◌, take, drop, refl}
use lib.Lanes.{pick_l}
use Rattle.wide_lanes.proofs.WindowLemmas.{spelled}
use Rattle.wide_lanes.proofs.pick.back.Goals as goal

-- the places that the shuffle picks
abbrev places : List ℕ
places = 16 ∷ 17 ∷ 18 ∷ 19 ∷ 20 ∷ 21 ∷ 22 ∷ 23 ∷ 24 ∷ 25 ∷ 26 ∷ 27 ∷ 28 ∷ 29 ∷ 30 ∷ 31 ∷ []

pub returns : goal.returns
returns c = spelled (λ v. pick_l 0 (v ++ v) places ≡ drop 16 v) 32 (λ f. refl) c.args.bytes c.fits-bytes.0
