use Rattle.std.proofs.Common.{◌+◌, ◌-◌, ◌*◌, ◌%◌, ◌^◌, ◌<◌, ◌≤◌, ◌∙◌, ltb, ap, arith}
use Rattle.code_pairs.specs.Bytes.{value_of}
use Rattle.charmap_reader.proofs.Ranges.{range_backward, range_across, range_between, code_limit}
use Rattle.charmap_reader.proofs.members.is_range.Goals as goal

pub returns-then-span : goal.returns-then-span
returns-then-span c = range_backward c.args.span c.args.code c.if-span.true

pub returns-then-span-ge57344 : goal.returns-then-span-ge57344
returns-then-span-ge57344 c =
    range_across c.args.span c.args.code c.if-span.false c.if-span-lt55296.true
    c.if-span-ge57344.true

pub returns : goal.returns
returns c =
    let code = c.args.code in
    let more = c.args.span.last - c.args.span.first in
    let few : c.len.result ≤ 4 = omega (arith, c.len.ensures.form.few, c.len.ensures.value) in
    ap (λ v. ltb (v + more) (1 * 2 ^ (c.len.result * 8) % 18446744073709551616))
    c.value.ensures.value
    ∙ ap (λ n. ltb (value_of code + more) n) (code_limit c.len.result few)
    ∙ ap (λ n. ltb (value_of code + more) (256 ^ n)) c.len.ensures.value
    ∙ range_between c.args.span code c.requires.first c.requires.last c.if-span.false (apart c)
  where
    apart : (d : goal.After-len) → d.args.span.first < 55296 → 57344 ≤ d.args.span.last → ⊥
    apart d a b = omega (arith, d.else-span-lt55296.either)
