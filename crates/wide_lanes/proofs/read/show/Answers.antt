use Rattle.std.proofs.Common.{◌≡◌, ℕ, Bool, List, leb, cond, ◌*◌, length, map, replicate, sym, ap, ◌∙◌, arith, eqb-true, w8}
use Rattle.std.specs.List.{flat_map}
use Rattle.std.proofs.lemmas.List.{length-map}
use Rattle.std.proofs.lemmas.Simd.{tops_compared, zip2_splat_left, length-sel_l}
use lib.Lanes.{zip2, top, sel_l}
use Rattle.wide_lanes.specs.Words.{slot, keep}
use Rattle.wide_lanes.proofs.ReadLemmas.{none_differ, shown, kept}
use Rattle.wide_lanes.proofs.read.show.Goals as goal

pub returns : goal.returns
returns c = λ yes.
    let q = c.args.points in
    let fours = c.args.fours in
    let made = c.slots-made.result in
    let keeps = c.keeps.result in
    let masks : map (top 7) (zip2 (λ a b. cond (leb a b) 255 0) (replicate 32 128) keeps) ≡ kept keeps =
    tops_compared w8 leb (replicate 32 128) keeps ∙ zip2_splat_left leb 128 32 keeps c.keeps.ensures.long in
    let long : length (kept keeps) ≡ 32 = length-map keeps (λ x. leb 128 x) ∙ c.keeps.ensures.long in
    let size : length (sel_l (kept keeps) fours made) ≡ 32 = length-sel_l (kept keeps) fours made (long ∙ sym c.fits-fours.0) (long ∙ sym c.slots-made.ensures.long) ∙ long in
    let there : length (sel_l (map (top 7) (zip2 (λ a b. cond (leb a b) 255 0) (replicate 32 128) keeps)) fours made) ≡ 32 =
    ap (λ (m : List Bool). length (sel_l m fours made)) masks ∙ size in
    let same = none_differ w8 32 (omega arith) (sel_l (map (top 7) (zip2 (λ a b. cond (leb a b) 255 0) (replicate 32 128) keeps)) fours made) made there c.slots-made.ensures.long (eqb-true _ 0 yes) in
    let fine : sel_l (kept keeps) fours made ≡ made = ap (λ (m : List Bool). sel_l m fours made) (sym masks) ∙ same in
    let all : sel_l (kept (flat_map keep q)) fours (flat_map slot q) ≡ flat_map slot q =
    ap (λ (k : List ℕ). sel_l (kept k) fours (flat_map slot q)) (sym c.keeps.ensures.value) ∙ ap (λ (m : List ℕ). sel_l (kept keeps) fours m) (sym c.slots-made.ensures.value)
    ∙ fine ∙ c.slots-made.ensures.value in
    let bytes : length fours ≡ 4 * length q = omega (arith, c.fits-fours.0, c.fits-points.0) in
    shown q fours c.requires bytes all
