use Rattle.std.proofs.Common.{◌≡◌, ◌-◌, ◌^◌, ◌<◌, ℕ, ap, subst, arith}
use Rattle.std.proofs.lemmas.Grind.{common_steps}
use Rattle.runtime_histories.specs.Entries.{deeds}
use Rattle.runtime_histories.specs.Places.{all_needs, places, free}
use Rattle.module_counts.specs.Counting.{Booked}
use Rattle.module_counts.proofs.Asking.{taken_is}
use Rattle.module_counts.proofs.counts.Counts.free_pages.Goals as goal

pub overflow_sub-result : goal.overflow_sub-result
overflow_sub-result c =
    let log = deeds c.self.inside.journal.items in let s = c.self.inside.stock in
    let t = taken_is _ s log c.self.invariant.stock in let w = c.self.invariant.stock.tidy.within in
    let r = c.taken_pages-taken.ensures in omega arith

pub returns : goal.returns
returns c =
    let log = deeds c.self.inside.journal.items in let s = c.self.inside.stock in
    let t = taken_is _ s log c.self.invariant.stock in let w = c.self.invariant.stock.tidy.within in
    let small : s.pages < 2 ^ 32 = grind (arith, common_steps) in
    let r = c.taken_pages-taken.ensures in
    subst (λ (z : Booked). s.pages - c.taken_pages-taken.result ≡ free z.pages (deeds z.journal)) c.self.view_is
    (let all : c.taken_pages-taken.result ≡ all_needs (places s.pages log) = omega arith in ap (λ (n : ℕ). s.pages - n) all)
