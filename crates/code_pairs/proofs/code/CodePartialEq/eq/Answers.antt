use Rattle.std.proofs.Common.{◌∙◌, sym, ap, eqb, ◌&&◌}
use Rattle.std.proofs.lemmas.Bool.{eq-eqb, ne_eqb}
use Rattle.code_pairs.proofs.Codes.{same_codes}
use Rattle.code_pairs.proofs.code.CodePartialEq.eq.Goals as goal

pub returns-then-self-other : goal.returns-then-self-other
returns-then-self-other c =
    let a = c.self.inside in
    let b = c.other.inside in
    sym (ap (λ t. t && eqb a.value b.value) (eq-eqb a.count b.count c.if-self-other.true))
    ∙ same_codes a.count b.count a.value b.value c.args.self.now c.args.other.now c.self.invariant.2 c.other.invariant.2 c.self.view_is c.other.view_is

pub returns-else-self-other : goal.returns-else-self-other
returns-else-self-other c =
    let a = c.self.inside in
    let b = c.other.inside in
    ne_eqb a.count b.count c.if-self-other.false ∙ sym (ap (λ t. t && eqb a.value b.value) (ne_eqb a.count b.count c.if-self-other.false))
    ∙ same_codes a.count b.count a.value b.value c.args.self.now c.args.other.now c.self.invariant.2 c.other.invariant.2 c.self.view_is c.other.view_is
