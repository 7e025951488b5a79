use Rattle.std.proofs.Common.{◌≡◌, ◌+◌, ◌++◌, ◌∙◌, sym, ap, subst, arith, take, drop, ℕ}
use Rattle.std.specs.List.{flat_map}
use Rattle.step_unicode.specs.Utf8.{utf8}
use Rattle.wide_lanes.proofs.Utf8Lemmas.{put_back}
use Rattle.wide_lanes.proofs.utf8.put_utf8.Goals as goal

pub returns-clause-front : goal.returns-clause-front
returns-clause-front c =
    let old = c.args.output.now in
    let new = c.put_four-2.new.output in
    let end = c.put_slots-end.result in
    let w = flat_map utf8 c.args.wide.points in
    let same : end ≡ c.args.at + c.total-made.result = omega (arith, c.put_slots-end.ensures.value, c.total-made.ensures.value) in
    let two = put_back old c.put_slots-end.new.output new _ w c.args.at end (omega (arith, c.requires.room, c.total-made.ensures.few, same, c.put_slots-end.auto.output))
    (record { place = c.put_slots-end.ensures.value; front = c.put_slots-end.ensures.front; rest = c.put_slots-end.ensures.rest })
    (c.put_four.ensures.front ∙ ap (λ k. take 4 (drop k old)) (sym same)) c.put_four-2.ensures.front c.put_four-2.ensures.rest in
    subst (λ (k : ℕ). take k new ≡ take c.args.at old ++ w) same two.0

pub returns-clause-rest : goal.returns-clause-rest
returns-clause-rest c =
    let old = c.args.output.now in
    let new = c.put_four-2.new.output in
    let end = c.put_slots-end.result in
    let w = flat_map utf8 c.args.wide.points in
    let same : end ≡ c.args.at + c.total-made.result = omega (arith, c.put_slots-end.ensures.value, c.total-made.ensures.value) in
    let two = put_back old c.put_slots-end.new.output new _ w c.args.at end (omega (arith, c.requires.room, c.total-made.ensures.few, same, c.put_slots-end.auto.output))
    (record { place = c.put_slots-end.ensures.value; front = c.put_slots-end.ensures.front; rest = c.put_slots-end.ensures.rest })
    (c.put_four.ensures.front ∙ ap (λ k. take 4 (drop k old)) (sym same)) c.put_four-2.ensures.front c.put_four-2.ensures.rest in
    subst (λ (k : ℕ). drop k new ≡ drop k old) same two.1
