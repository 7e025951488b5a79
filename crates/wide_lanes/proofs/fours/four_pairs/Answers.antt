use Rattle.std.proofs.Common.{◌≡◌, ℕ, ◌*◌, List, [], ◌∷◌, ◌++◌, take, drop, refl, sym, ap, ◌∙◌, arith}
use lib.Lanes.{pick_l}
use Rattle.wide_lanes.proofs.WindowLemmas.{spelled}
use Rattle.wide_lanes.proofs.fours.four_pairs.Goals as goal

last_eight : (v : List ℕ) → List ℕ
last_eight v = pick_l 0 (v ++ v) (24 ∷ 25 ∷ 26 ∷ 27 ∷ 28 ∷ 29 ∷ 30 ∷ 31 ∷ [])

pub returns : goal.returns
unfolding last_eight
returns c =
    let last : c.args.i ≡ 3 = omega (arith, c.requires, c.if-i-eq0.false, c.if-i-eq1.false, c.if-i-eq2.false) in
    spelled (λ v. last_eight v ≡ take 8 (drop 24 v)) 32 (λ f. refl) c.args.bytes c.fits-bytes.0
    ∙ ap (λ k. take 8 (drop (8 * k) c.args.bytes)) (sym last)
