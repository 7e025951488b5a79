use Rattle.std.proofs.Common.{◌≡◌, ◌+◌, ◌/◌, ◌%◌, ◌++◌, ℕ, take, drop, ap, sym, ◌∙◌, arith}
use Rattle.wide_lanes.specs.Ends.{both_or_none, picked_pairs}
use Rattle.wide_lanes.proofs.PickLemmas.{two_put, two_eights}
use Rattle.wide_lanes.proofs.pick.put_pairs.Goals as goal

pub returns-clause-front : goal.returns-clause-front
returns-clause-front c =
    let old = c.args.output.now in
    let mask = c.args.mask in
    (two_put 16 old c.put_sixteen.new.output c.put_sixteen-2.new.output c.put_sixteen-3.new.output c.packed.result c.packed-2.result c.sixteen_at-kept.result _ _ c.args.at c.size-first.result c.size.result
    (omega (arith, c.requires.room)) c.put_sixteen.auto.output (c.put_sixteen-2.auto.output ∙ c.put_sixteen.auto.output)
    c.packed.ensures.long c.size-first.ensures.few (ap (λ k. take k c.packed.result) c.size-first.ensures.value ∙ c.packed.ensures.value ∙ ap (picked_pairs (mask % 256)) c.front.ensures) c.put_sixteen.ensures.front c.put_sixteen.ensures.rest
    c.packed-2.ensures.long c.size.ensures.few (ap (λ k. take k c.packed-2.result) c.size.ensures.value ∙ c.packed-2.ensures.value ∙ ap (picked_pairs (mask / 256 % 256)) c.back.ensures) c.put_sixteen-2.ensures.front c.put_sixteen-2.ensures.rest
    c.sixteen_at-kept.ensures.value c.put_sixteen-3.ensures.front c.put_sixteen-3.ensures.rest).0
    ∙ ap (λ z. take c.args.at old ++ z) (sym (two_eights both_or_none mask c.args.bytes c.fits-bytes.0))

pub returns-clause-rest : goal.returns-clause-rest
returns-clause-rest c =
    let old = c.args.output.now in
    let mask = c.args.mask in
    (two_put 16 old c.put_sixteen.new.output c.put_sixteen-2.new.output c.put_sixteen-3.new.output c.packed.result c.packed-2.result c.sixteen_at-kept.result _ _ c.args.at c.size-first.result c.size.result
    (omega (arith, c.requires.room)) c.put_sixteen.auto.output (c.put_sixteen-2.auto.output ∙ c.put_sixteen.auto.output)
    c.packed.ensures.long c.size-first.ensures.few (ap (λ k. take k c.packed.result) c.size-first.ensures.value ∙ c.packed.ensures.value ∙ ap (picked_pairs (mask % 256)) c.front.ensures) c.put_sixteen.ensures.front c.put_sixteen.ensures.rest
    c.packed-2.ensures.long c.size.ensures.few (ap (λ k. take k c.packed-2.result) c.size.ensures.value ∙ c.packed-2.ensures.value ∙ ap (picked_pairs (mask / 256 % 256)) c.back.ensures) c.put_sixteen-2.ensures.front c.put_sixteen-2.ensures.rest
    c.sixteen_at-kept.ensures.value c.put_sixteen-3.ensures.front c.put_sixteen-3.ensures.rest).1
