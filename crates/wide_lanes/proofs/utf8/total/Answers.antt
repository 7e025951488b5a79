use Rattle.std.proofs.Common.{◌≡◌, ◌+◌, ◌≤◌, suc, length, take, get_or, ap, sym, ◌∙◌, arith, length-append, refl}
use Rattle.std.specs.List.{flat_map}
use Rattle.std.proofs.lemmas.List.{length-map}
use Rattle.step_unicode.specs.Utf8.{utf8}
use Rattle.wide_lanes.specs.Words.{count_of}
use Rattle.wide_lanes.proofs.Utf8Lemmas.{next_of}
use Rattle.wide_lanes.proofs.utf8.total.Goals as goal

pub loop-i-init : goal.loop-i-init
loop-i-init c = record { within = omega arith; made = refl; few = omega arith }

pub loop-i-preserved : goal.loop-i-preserved
loop-i-preserved c =
    let q = c.args.wide.points in
    let i = c.loop-i.i in
    let counts = c.counts.result in
    let long : length q ≡ 8 = sym (length-map q count_of) ∙ sym (ap length c.counts.ensures.value) ∙ c.counts.ensures.long in
    let next = next_of q i c.requires (omega (arith, c.loop-i-test.true, long)) in
    let size : get_or counts i 0 ≡ count_of next.point = ap (λ v. get_or v i 0) c.counts.ensures.value ∙ next.size in
    let grown : length (flat_map utf8 (take (suc i) q)) ≡ length (flat_map utf8 (take i q)) + length (utf8 next.point) =
    ap length next.grown ∙ length-append (flat_map utf8 (take i q)) (utf8 next.point) in
    let there : length (flat_map utf8 (take (suc i) q)) ≡ length (flat_map utf8 (take (i + 1) q)) =
    ap (λ k. length (flat_map utf8 (take k q))) (let e : suc i ≡ i + 1 = omega arith in e) in
    let count : length (utf8 next.point) ≡ count_of next.point = next.slotted.count in
    let small : count_of next.point ≤ 3 = next.slotted.few in
    let made : c.loop-i.made ≡ length (flat_map utf8 (take i q)) = c.loop-i.invariant.made in
    record {
      within = omega (arith, c.loop-i-test.true);
      made = omega (arith, made, size, grown, there, count);
      few = omega (arith, c.loop-i.invariant.few, size, small);
    }
