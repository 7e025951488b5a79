use Rattle.std.proofs.Common.{arith, refl, Some}
use Rattle.step_unicode.specs.Utf16.{little}
use Rattle.step_unicode.proofs.Utf16Fronts.{GoesOn, little_one, little_two}
use Rattle.step_unicode.proofs.utf16.read_little.Goals as goal

pub returns-then-input-lt2 : goal.returns-then-input-lt2
returns-then-input-lt2 c =
    let x = c.args.input.now in
    let on : GoesOn little x = little_one x (omega arith) (omega arith) (omega (arith, c.type_inv.input 0)) in
    (on.more, Some on.point, c.args.state, on.some, (on.point, on.unit, refl, refl))

pub returns-then-input-lt4 : goal.returns-then-input-lt4
returns-then-input-lt4 c =
    let x = c.args.input.now in
    let on : GoesOn little x = little_two x (omega arith) (omega arith) (omega (arith, c.type_inv.input 0)) (omega (arith, c.type_inv.input 1)) (omega (arith, c.type_inv.input 2)) (omega arith, omega arith) in
    (on.more, Some on.point, c.args.state, on.some, (on.point, on.unit, refl, refl))
