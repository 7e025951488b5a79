use Rattle.std.proofs.Common.{◌≡◌, ◌+◌, ◌*◌, ◌++◌, ◌≤◌, ℕ, suc, List, length, take, drop, get_or, ap, sym, subst, ◌∙◌, arith}
use Rattle.std.specs.List.{flat_map}
use Rattle.std.proofs.lemmas.List.{length-map}
use Rattle.step_unicode.specs.Utf8.{utf8}
use Rattle.wide_lanes.specs.Words.{count_of, slot}
use Rattle.wide_lanes.proofs.Utf8Lemmas.{IsLaid, laid_none, laid_more, next_of}
use Rattle.wide_lanes.proofs.utf8.put_slots.Goals as goal

pub loop-i-init : goal.loop-i-init
loop-i-init c = record { within = omega arith; few = omega arith; laid = laid_none c.args.output.now c.args.at }

pub loop-i-preserved : goal.loop-i-preserved
loop-i-preserved c =
    let q = c.args.wide.points in
    let i = c.loop-i.i in
    let old = c.args.output.now in
    let mid = c.loop-i.output in
    let new = c.put_four.new.output in
    let end = c.loop-i.end in
    let counts = c.counts.result in
    let long : length q ≡ 8 = sym (length-map q count_of) ∙ sym (ap length c.counts.ensures.value) ∙ c.counts.ensures.long in
    let next = next_of q i c.requires.points (omega (arith, c.loop-i-test.true, long)) in
    let size : count_of next.point ≡ get_or counts i 0 = sym (ap (λ v. get_or v i 0) c.counts.ensures.value ∙ next.size) in
    let small : count_of next.point ≤ 3 = next.slotted.few in
    let four : take 4 (drop (4 * i) c.slots.result) ≡ slot next.point = ap (λ v. take 4 (drop (4 * i) v)) c.slots.ensures.value ∙ next.four in
    let whole : flat_map utf8 (take i q) ++ utf8 next.point ≡ flat_map utf8 (take (i + 1) q) =
    sym next.grown ∙ ap (λ k. flat_map utf8 (take k q)) (let e : suc i ≡ i + 1 = omega arith in e) in
    let laid : IsLaid old new c.args.at (end + count_of next.point) (flat_map utf8 (take i q) ++ utf8 next.point) =
    laid_more old mid new (flat_map utf8 (take i q)) c.args.at end next.point next.slotted
    (omega (arith, c.requires.room, c.loop-i.invariant.few, c.loop-i-test.true, c.loop-i.auto.output)) c.loop-i.invariant.laid
    (c.put_four.ensures.front ∙ ap (λ z. take end mid ++ z) four) c.put_four.ensures.rest in
    record {
      within = omega (arith, c.loop-i-test.true);
      few = omega (arith, c.loop-i.invariant.few, size, small);
      laid = subst (λ (k : ℕ). IsLaid old new c.args.at (end + k) (flat_map utf8 (take (i + 1) q))) size
          (subst (λ (w : List ℕ). IsLaid old new c.args.at (end + count_of next.point) w) whole laid);
    }
