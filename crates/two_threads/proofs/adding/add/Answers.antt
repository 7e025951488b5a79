use Rattle.std.proofs.Common.{rules, ℕ, ◌+◌, ◌<◌, ◌^◌, sym, ◌∙◌, subst}
use Rattle.history_core.specs.Tokens.{number, front}
use Rattle.two_threads.proofs.Totals.{total-append, amounts_of-leave, amounts_of-commit}
use Rattle.two_threads.proofs.adding.add.Goals as goal

pub returns-then-seen-clause-added : goal.returns-then-seen-clause-added
returns-then-seen-clause-added g c = search (rules, amounts_of-leave)

pub returns-in-None-clause-added : goal.returns-in-None-clause-added
returns-in-None-clause-added g c = search (rules, amounts_of-leave)

pub returns-in-Some-clause-added : goal.returns-in-Some-clause-added
returns-in-Some-clause-added g c = search (rules, amounts_of-commit)

pub commit-requires-clause-stands : goal.commit-requires-clause-stands
commit-requires-clause-stands g c =
    let t = c.turn-turn.result in
    let sum = c.in-Some.ensures in
    let stands = c.turn-turn.ensures.took.stands in
    sum.1 ∙ ((λ i. (c.value-value.ensures.now ∙ stands) i + sym c.of.ensures i)
    ∙ sym
    (total-append (front t.pass.now) (number t.pass.now, record { amount = c.of.result })))

pub commit-requires-clause-legal : goal.commit-requires-clause-legal
commit-requires-clause-legal g c =
    let sum = c.in-Some.ensures in
    let P : ℕ → Type 0 = λ n. n < 2 ^ 64 in
    let e = commit-requires-clause-stands g c in subst P (sym sum.1 ∙ e) sum.0
