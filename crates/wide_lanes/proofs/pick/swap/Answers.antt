use Rattle.std.proofs.Common.{◌≡◌, ℕ, List, [], ◌∷◌, ◌++◌, refl}
use lib.Lanes.{pick_l}
use Rattle.wide_lanes.specs.Wide.{swapped}
use Rattle.wide_lanes.proofs.WindowLemmas.{spelled}
use Rattle.wide_lanes.proofs.pick.swap.Goals as goal

-- the places that the shuffle picks
abbrev places : List ℕ
places = 1 ∷ 0 ∷ 3 ∷ 2 ∷ 5 ∷ 4 ∷ 7 ∷ 6 ∷ 9 ∷ 8 ∷ 11 ∷ 10 ∷ 13 ∷ 12 ∷ 15 ∷ 14 ∷ 17 ∷ 16 ∷ 19 ∷ 18 ∷ 21 ∷ 20 ∷ 23 ∷ 22 ∷ 25 ∷ 24 ∷ 27 ∷ 26 ∷ 29 ∷ 28 ∷ 31 ∷ 30 ∷ []

pub returns : goal.returns
returns c = spelled (λ v. pick_l 0 (v ++ v) places ≡ swapped v) 32 (λ f. refl) c.args.bytes c.fits-bytes.0
