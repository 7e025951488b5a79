use Rattle.std.proofs.Common.{◌≡◌, ◌≤◌, ℕ, arith, ap, ◌∙◌}
use Rattle.std.specs.List.{range_with_len}
use Rattle.two_threads.proofs.ShelfLaws.{next_page}
use Rattle.two_threads.proofs.paging.first_pages.Goals as goal

last : (k n : ℕ) → k ≤ n → n ≤ k → k ≡ n
last k n le out = omega arith

pub loop-page-preserved : goal.loop-page-preserved
loop-page-preserved c = let inv = c.loop-page.invariant in let lt = c.loop-page-test.true in
    (c.in_ok-push.ensures.items ∙ next_page _ c.loop-page.page inv.0, omega arith)

pub returns : goal.returns
returns c = let inv = c.loop-page.invariant in
    inv.0 ∙ ap (range_with_len 0) (last c.loop-page.page c.pages-count.result inv.1
    c.loop-page-test.false ∙ c.pages-count.ensures)
