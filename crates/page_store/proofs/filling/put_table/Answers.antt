use Rattle.std.proofs.Common.{arith, ap, sym, ◌∙◌, subst, ◌<◌}
use Rattle.history_core.specs.Tokens.{IsTurnOf, filled}
use Rattle.page_store.proofs.Fills.{next_page}
use Rattle.page_store.proofs.filling.put_table.Goals as goal

pub loop-page-preserved : goal.loop-page-preserved
loop-page-preserved g c =
    let inv = c.loop-page.invariant in
    let f = c.put_page.ensures in
    let small = c.loop-page-test.true in
    let within = subst (λ n. c.loop-page.page < n) (c.pages-count.ensures ∙ sym c.requires.count)
    small in (
      subst (λ h. IsTurnOf h c.put_page.new.turn) (ap (λ h. h.now) inv.2) f.turn,
      f.same.0 ∙ inv.1,
      f.same.1 ∙ inv.2,
      f.same.2 ∙ inv.3,
      f.pass.0 ∙ inv.4,
      f.pass.1 ∙ inv.5,
      omega arith,
      next_page c.args.table.now c.args.pages.now c.loop-page.page
          (filled c.loop-page.turn.pass.now) (filled c.put_page.new.turn.pass.now) c.requires.apart
          within inv.7 f.filled f.others,
      (λ place off. f.others place (λ k few. off c.loop-page.page k within few) ∙ inv.8 place off),
    )
