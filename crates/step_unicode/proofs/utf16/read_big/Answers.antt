use Rattle.std.proofs.Common.{arith, refl, Some}
use Rattle.std.proofs.lemmas.Bool.{false≢true}
use Rattle.step_unicode.specs.Utf16.{big}
use Rattle.step_unicode.proofs.Utf16Fronts.{GoesOn, big_one, big_two, big_three, high_of}
use Rattle.step_unicode.proofs.utf16.read_big.Goals as goal

pub returns-then-input-lt2 : goal.returns-then-input-lt2
returns-then-input-lt2 c =
    let x = c.args.input.now in
    let on : GoesOn big x = big_one x (omega arith) (omega arith) (omega (arith, c.type_inv.input 0)) (λ h. false≢true (c.if-leads_low.ensures.1 h)) in
    (on.more, Some on.point, c.args.state, on.some, (on.point, on.unit, refl, refl))

pub returns-then-input-lt3 : goal.returns-then-input-lt3
returns-then-input-lt3 c =
    let x = c.args.input.now in
    let on : GoesOn big x = big_two x (omega arith) (omega arith) (omega (arith, c.type_inv.input 0)) (omega (arith, c.type_inv.input 1)) (high_of _ _ (omega (arith, c.type_inv.input 1)) (λ h. false≢true (c.if-leads_low.ensures.1 h)) c.if-first-lt55296.false c.if-first-gt57343.false) in
    (on.more, Some on.point, c.args.state, on.some, (on.point, on.unit, refl, refl))

pub returns-then-input-lt4 : goal.returns-then-input-lt4
returns-then-input-lt4 c =
    let x = c.args.input.now in
    let on : GoesOn big x = big_three x (omega arith) (omega arith) (omega (arith, c.type_inv.input 0)) (omega (arith, c.type_inv.input 1)) (c.if-not-leads_low.ensures.0 refl) (high_of _ _ (omega (arith, c.type_inv.input 1)) (λ h. false≢true (c.if-leads_low.ensures.1 h)) c.if-first-lt55296.false c.if-first-gt57343.false) in
    (on.more, Some on.point, c.args.state, on.some, (on.point, on.unit, refl, refl))
