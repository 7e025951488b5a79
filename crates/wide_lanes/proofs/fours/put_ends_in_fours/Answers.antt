use Rattle.std.proofs.Common.{◌≡◌, ◌+◌, ◌++◌, ℕ, take, drop, ap, sym, ◌∙◌, subst, arith}
use Rattle.wide_lanes.specs.Ends.{by_bits, four_or_none}
use Rattle.wide_lanes.proofs.PickLemmas.{put_again}
use Rattle.wide_lanes.proofs.FourLemmas.{picked_fours}
use Rattle.wide_lanes.proofs.fours.put_ends_in_fours.Goals as goal

pub returns-clause-front : goal.returns-clause-front
returns-clause-front c =
    let old = c.args.output.now in
    let new = c.put_sixteen.new.output in
    let end = c.put_rows-end.result in
    let w = by_bits four_or_none c.args.ends.mask c.bytes_of-bytes.result in
    let same : end ≡ c.args.at + c.total-made.result = omega (arith, c.put_rows-end.ensures.value, c.total-made.ensures.value) in
    let two = put_again 16 old c.put_rows-end.new.output new c.sixteen_at-kept.result w c.args.at end (omega (arith, c.requires, c.total-made.ensures.few, same, c.put_rows-end.auto.output))
    (record { place = c.put_rows-end.ensures.value; front = c.put_rows-end.ensures.front; rest = c.put_rows-end.ensures.rest })
    (c.sixteen_at-kept.ensures.value ∙ ap (λ k. take 16 (drop k old)) (sym same)) c.put_sixteen.ensures.front c.put_sixteen.ensures.rest in
    subst (λ (k : ℕ). take k new ≡ take c.args.at old ++ w) same two.0
    ∙ ap (λ z. take c.args.at old ++ z) (ap (by_bits four_or_none c.args.ends.mask) c.bytes_of-bytes.ensures.value ∙ picked_fours c.args.ends.mask c.args.ends.numbers)

pub returns-clause-rest : goal.returns-clause-rest
returns-clause-rest c =
    let old = c.args.output.now in
    let new = c.put_sixteen.new.output in
    let end = c.put_rows-end.result in
    let w = by_bits four_or_none c.args.ends.mask c.bytes_of-bytes.result in
    let same : end ≡ c.args.at + c.total-made.result = omega (arith, c.put_rows-end.ensures.value, c.total-made.ensures.value) in
    let two = put_again 16 old c.put_rows-end.new.output new c.sixteen_at-kept.result w c.args.at end (omega (arith, c.requires, c.total-made.ensures.few, same, c.put_rows-end.auto.output))
    (record { place = c.put_rows-end.ensures.value; front = c.put_rows-end.ensures.front; rest = c.put_rows-end.ensures.rest })
    (c.sixteen_at-kept.ensures.value ∙ ap (λ k. take 16 (drop k old)) (sym same)) c.put_sixteen.ensures.front c.put_sixteen.ensures.rest in
    subst (λ (k : ℕ). drop k new ≡ drop k old) same two.1
