use Rattle.std.proofs.Common.{◌≡◌, ◌∷◌, [], ◌++◌, ap, ◌∙◌, subst, arith}
use Rattle.history_core.specs.Tokens.{front}
use Rattle.two_threads.proofs.Totals.{range-next}
use Rattle.two_threads.specs.Amounts.{amounts_of}
use Rattle.two_threads.proofs.adding.add_all.Goals as goal

pub loop-amount-preserved : goal.loop-amount-preserved
loop-amount-preserved g c =
    let inv = c.loop-amount.invariant in
    let n = inv.1 in
    let a = c.if-not-add.ensures in
    let small = c.loop-amount-test.true in (
      a.pass,
      a.number ∙ n,
      omega arith,
      omega arith,
      subst (λ m. amounts_of m (front c.add.new.pass) ≡ amounts_of m (front c.loop-amount.pass)
          ++ c.loop-amount.amount ∷ []) n a.added
          ∙ (ap (λ l. l ++ c.loop-amount.amount ∷ []) inv.4
          ∙ range-next c.loop-amount.amount inv.2),
    )
