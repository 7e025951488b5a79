use Rattle.std.proofs.Common.{arith, refl, Some, rules}
use Rattle.step_unicode.proofs.Utf8Fronts.{GoesOn, two}
use Rattle.step_unicode.proofs.utf8.read_three.Goals as goal

pub returns-then-input-lt3 : goal.returns-then-input-lt3
returns-then-input-lt3 c =
    let on : GoesOn c.args.input.now = two c.args.input.now (omega arith) (omega arith) (omega arith, omega arith) (search rules) in
    (on.more, Some on.point, c.args.state, on.some, (on.point, on.unit, refl, refl))
