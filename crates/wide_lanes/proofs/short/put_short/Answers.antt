use Rattle.std.proofs.Common.{◌≡◌, ◌+◌, ◌/◌, ◌%◌, ◌++◌, ℕ, map, take, drop, ap, sym, ◌∙◌, arith}
use Rattle.std.specs.List.{flat_map}
use Rattle.step_unicode.specs.Utf8.{utf8}
use Rattle.wide_lanes.specs.Wide.{low_first}
use Rattle.wide_lanes.specs.Words.{front_short}
use Rattle.wide_lanes.specs.Ends.{both_or_first}
use Rattle.wide_lanes.proofs.PickLemmas.{two_put, two_fours}
use Rattle.wide_lanes.proofs.ShortLemmas.{counting, all_counting}
use Rattle.wide_lanes.proofs.short.put_short.Goals as goal

pub returns-clause-front : goal.returns-clause-front
returns-clause-front c =
    let old = c.args.output.now in
    let bytes = c.bytes_of-bytes.result in
    let mask = c.twos_at-mask.result in
    let are : counting mask bytes ≡ flat_map utf8 c.args.points =
    ap (counting mask) (c.bytes_of-bytes.ensures.value ∙ ap low_first c.short_fronts.ensures)
    ∙ ap (λ (k : ℕ). counting k (low_first (map front_short c.args.points))) c.twos_at-mask.ensures
    ∙ all_counting c.args.points c.requires.short in
    (two_put 8 old c.put_eight.new.output c.put_eight-2.new.output c.put_eight-3.new.output c.packed.result c.packed-2.result c.eight_at-kept.result _ _ c.args.at c.size-first.result c.size.result
    (omega (arith, c.requires.room)) c.put_eight.auto.output (c.put_eight-2.auto.output ∙ c.put_eight.auto.output)
    c.packed.ensures.long c.size-first.ensures.few (ap (λ k. take k c.packed.result) c.size-first.ensures.value ∙ c.packed.ensures.value) c.put_eight.ensures.front c.put_eight.ensures.rest
    c.packed-2.ensures.long c.size.ensures.few (ap (λ k. take k c.packed-2.result) c.size.ensures.value ∙ c.packed-2.ensures.value ∙ ap (counting (mask / 16 % 16)) c.last_eight.ensures) c.put_eight-2.ensures.front c.put_eight-2.ensures.rest
    c.eight_at-kept.ensures.value c.put_eight-3.ensures.front c.put_eight-3.ensures.rest).0
    ∙ ap (λ z. take c.args.at old ++ z) (sym (two_fours both_or_first mask bytes c.bytes_of-bytes.ensures.long) ∙ are)

pub returns-clause-rest : goal.returns-clause-rest
returns-clause-rest c =
    let old = c.args.output.now in
    let mask = c.twos_at-mask.result in
    (two_put 8 old c.put_eight.new.output c.put_eight-2.new.output c.put_eight-3.new.output c.packed.result c.packed-2.result c.eight_at-kept.result _ _ c.args.at c.size-first.result c.size.result
    (omega (arith, c.requires.room)) c.put_eight.auto.output (c.put_eight-2.auto.output ∙ c.put_eight.auto.output)
    c.packed.ensures.long c.size-first.ensures.few (ap (λ k. take k c.packed.result) c.size-first.ensures.value ∙ c.packed.ensures.value) c.put_eight.ensures.front c.put_eight.ensures.rest
    c.packed-2.ensures.long c.size.ensures.few (ap (λ k. take k c.packed-2.result) c.size.ensures.value ∙ c.packed-2.ensures.value ∙ ap (counting (mask / 16 % 16)) c.last_eight.ensures) c.put_eight-2.ensures.front c.put_eight-2.ensures.rest
    c.eight_at-kept.ensures.value c.put_eight-3.ensures.front c.put_eight-3.ensures.rest).1
