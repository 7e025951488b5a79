use Rattle.std.proofs.Common.{◌≡◌, ℕ, List, [], ◌∷◌, ◌++◌, refl, subst}
use Rattle.std.proofs.lemmas.Simd.{pick_l_whole}
use Rattle.std.specs.List.{range_with_len}
use lib.Lanes.{pick_l}
use Rattle.wide_lanes.specs.Words.{turns}
use Rattle.wide_lanes.proofs.words.in_turns.Goals as goal

-- the places that the shuffle picks
places : List ℕ
places = 0 ∷ 8 ∷ 1 ∷ 9 ∷ 2 ∷ 10 ∷ 3 ∷ 11 ∷ 4 ∷ 12 ∷ 5 ∷ 13 ∷ 6 ∷ 14 ∷ 7 ∷ 15 ∷ []

pub returns : goal.returns
unfolding places
returns c =
    let a = pick_l 0 c.args.first (range_with_len 0 8) in
    subst (λ (v : List ℕ). pick_l 0 (v ++ c.args.second) places ≡ turns v c.args.second) (pick_l_whole 0 c.args.first 8 c.fits-first.0)
    (subst (λ (v : List ℕ). pick_l 0 (a ++ v) places ≡ turns a v) (pick_l_whole 0 c.args.second 8 c.fits-second.0) refl)
