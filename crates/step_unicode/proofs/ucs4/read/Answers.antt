use Rattle.std.proofs.Common.{arith, refl, Some}
use Rattle.std.proofs.lemmas.Bool.{false≢true}
use Rattle.step_unicode.proofs.Ucs4Fronts.{GoesOn, one, two, three}
use Rattle.step_unicode.proofs.ucs4.read.Goals as goal

pub returns-then-input-lt2 : goal.returns-then-input-lt2
returns-then-input-lt2 c =
    let x = c.args.input.now in
    let on : GoesOn x = one x (omega arith) (omega arith) (omega arith) in
    (on.more, Some on.point, c.args.state, on.some, (on.point, on.unit, refl, refl))

pub returns-then-input-lt3 : goal.returns-then-input-lt3
returns-then-input-lt3 c =
    let x = c.args.input.now in
    let on : GoesOn x = two x (omega arith) (omega arith) (omega arith) (omega arith) in
    (on.more, Some on.point, c.args.state, on.some, (on.point, on.unit, refl, refl))

pub returns-then-input-lt4 : goal.returns-then-input-lt4
returns-then-input-lt4 c =
    let x = c.args.input.now in
    let on : GoesOn x = three x (omega arith) (omega arith) (omega arith) (omega arith) (omega (arith, c.type_inv.input 2)) (λ h. false≢true (c.if-is_surrogate.ensures.1 h)) in
    (on.more, Some on.point, c.args.state, on.some, (on.point, on.unit, refl, refl))
