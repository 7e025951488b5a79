use Rattle.std.proofs.Common.{◌≡◌, ℕ, List, [], ◌∷◌, ◌++◌, refl, sym, ap, ◌∙◌, subst, true, false}
use Rattle.std.proofs.lemmas.Simd.{pick_l_whole}
use lib.Lanes.{pick_l}
use Rattle.ascii_lanes.specs.Runs.{high_bytes}
use Rattle.ascii_lanes.proofs.runs.high_bytes.Goals as goal

-- the places of the first bytes
firsts : List ℕ
firsts = 0 ∷ 2 ∷ 4 ∷ 6 ∷ 8 ∷ 10 ∷ 12 ∷ 14 ∷ []

-- the places of the second ones
seconds : List ℕ
seconds = 1 ∷ 3 ∷ 5 ∷ 7 ∷ 9 ∷ 11 ∷ 13 ∷ 15 ∷ []

pub returns-then-big : goal.returns-then-big
unfolding firsts
returns-then-big c =
    subst (λ (v : List ℕ). pick_l 0 (v ++ v) firsts ≡ high_bytes true v) (pick_l_whole 0 c.args.bytes 16 c.fits-bytes.0) refl
    ∙ ap (λ b. high_bytes b c.args.bytes) (sym c.if-big.true)

pub returns : goal.returns
unfolding seconds
returns c =
    subst (λ (v : List ℕ). pick_l 0 (v ++ v) seconds ≡ high_bytes false v) (pick_l_whole 0 c.args.bytes 16 c.fits-bytes.0) refl
    ∙ ap (λ b. high_bytes b c.args.bytes) (sym c.if-big.false)
