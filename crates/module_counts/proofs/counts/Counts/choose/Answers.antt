use Rattle.std.proofs.Common.{◌≡◌, ◌≤◌, ◌+◌, ◌∙◌, ℕ, List, length, ap, sym, subst, arith}
use Rattle.runtime_histories.specs.Entries.{deeds}
use Rattle.runtime_histories.specs.Places.{all_pages, all_needs, places, lowest, free}
use Rattle.module_counts.specs.Stocks.{seat_pages, kept_seats}
use Rattle.module_counts.specs.Counting.{Booked}
use Rattle.module_counts.proofs.Asking.{pages_are}
use Rattle.module_counts.proofs.Tidying.{length-lowest}
use Rattle.module_counts.proofs.counts.Counts.choose.Goals as goal

pub returns-in-Ok : goal.returns-in-Ok
returns-in-Ok c =
    let log = deeds c.self.inside.journal.items in
    let s = c.self.inside.stock in
    let all : seat_pages (kept_seats s.ages s.homes) ≡ all_pages (places s.pages log) = pages_are _ s log c.self.invariant.stock in
    let chosen : c.in-Ok.pages.items ≡ lowest s.pages (all_pages (places s.pages log)) c.args.need = c.in-Ok.ensures ∙ ap (λ (z : List ℕ). lowest s.pages z c.args.need) all in
    let fits : c.args.need ≤ free c.args.self.now.pages (deeds c.args.self.now.journal) = (let f = c.free_pages-free.ensures in let n = c.if-need-free.false in omega arith) in
    let within : c.args.need ≤ free s.pages log = subst (λ (z : Booked). c.args.need ≤ free z.pages (deeds z.journal)) (sym c.self.view_is) fits in
    let tidy = c.self.invariant.stock.tidy in
    let room : c.args.need + all_needs (places s.pages log) ≤ s.pages = (let t = tidy.within in omega (arith, within, t)) in (
      subst (λ (z : Booked). c.in-Ok.pages.items ≡ lowest z.pages (all_pages (places z.pages (deeds z.journal))) c.args.need) c.self.view_is chosen,
      fits,
      ap length chosen ∙ length-lowest s.pages c.args.need (places s.pages log) tidy.fits room,
      (let n = c.if-need-free.false in omega arith),
    )
