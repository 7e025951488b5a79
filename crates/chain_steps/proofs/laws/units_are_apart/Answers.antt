use Rattle.std.proofs.Common.{◌≤◌, ◌<◌, ◌++◌, length, arith, length-append}
use Rattle.unit_relations.specs.Units.{AreApart, HaveBytes, AreShort}
use Rattle.unit_relations.proofs.Room.{some_length}
use Rattle.chain_steps.proofs.SetLaws.{of_units}
use Rattle.chain_steps.proofs.laws.units_are_apart.Goals as goal

pub returns-clause-apart : goal.returns-clause-apart
returns-clause-apart c =
    of_units AreApart c.units_are_apart.ensures.apart c.units_are_apart-2.ensures.apart (λ r k _ _. c.units_are_apart-3.ensures.apart r k)

pub returns-clause-some : goal.returns-clause-some
returns-clause-some c =
    of_units HaveBytes c.units_are_apart.ensures.bytes c.units_are_apart-2.ensures.bytes (λ r k _ _. c.units_are_apart-3.ensures.bytes r k)

pub returns-clause-few : goal.returns-clause-few
returns-clause-few c =
    of_units AreShort c.units_are_apart.ensures.few c.units_are_apart-2.ensures.few c.units_are_apart-3.ensures.few

pub returns-clause-cut : goal.returns-clause-cut
returns-clause-cut c = λ ts set s x well (more, q, t, have, unit).
    let all : length (x ++ more) ≤ 8 = returns-clause-few c ts set well s (x ++ more) q t unit in
    let one : 0 < length more = some_length more have in
    omega (arith, length-append x more)
