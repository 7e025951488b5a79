use Rattle.std.proofs.Common.{◌-◌, ◌*◌, ◌/◌, ◌%◌, ◌^◌, ◌<◌, ◌∙◌, arith, sym, ap, refl, get_or}
use Rattle.std.proofs.lemmas.Grind.{and_numeral}
use Rattle.code_pairs.proofs.Codes.{counted, get_or-big_endian, pow-eight}
use Rattle.code_pairs.proofs.code.Code.byte.Goals as goal

pub overflow_sub-shift-2 : goal.overflow_sub-shift-2
overflow_sub-shift-2 c = omega (arith, counted c.self.inside.count c.self.inside.value c.args.self.now c.self.view_is, c.requires)

pub returns : goal.returns
returns c =
    let count = c.self.inside.count in
    let value = c.self.inside.value in
    let place = c.args.place in
    let within : place < count = omega (arith, counted count value c.args.self.now c.self.view_is, c.requires) in
    and_numeral (value / 2 ^ ((count - 1 - place) * 8)) 254 refl ∙ ap (λ d. value / d % 256) (pow-eight (count - 1 - place))
    ∙ sym (get_or-big_endian count value place within) ∙ ap (λ u. get_or u place 0) c.self.view_is
