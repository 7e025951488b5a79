use Rattle.std.proofs.Common.{arith, refl, Some}
use Rattle.step_unicode.proofs.Utf8Fronts.{GoesOn, one}
use Rattle.step_unicode.proofs.utf8.read.Goals as goal

pub returns-then-input-lt2 : goal.returns-then-input-lt2
returns-then-input-lt2 c =
    let on : GoesOn c.args.input.now = one c.args.input.now (omega arith) (omega arith) (omega arith, omega arith) in
    (on.more, Some on.point, c.args.state, on.some, (on.point, on.unit, refl, refl))
