use Rattle.std.proofs.Common.{◌≡◌, ◌≤◌, ◌<◌, ◌+◌, ◌-◌, ◌∙◌, ℕ, false, arith, sym, ap, subst, get_or, take, length, add-one}
use Rattle.trie.specs.Leaf.{Leaf}
use Rattle.trie.specs.Runs.{Run, all_of, later}
use Rattle.trie.specs.Stages.{some_behind}
use Rattle.trie.specs.Words.{front_page}
use Rattle.trie.proofs.Walks.{AreBytes}
use Rattle.trie.proofs.Fills.{NoneBefore, none_step}
use Rattle.trie.proofs.RunLaws.{start, run_at, next_start, starts_within}
use Rattle.trie.proofs.overlap.none_goes_on.Goals as goal

pub loop-run-preserved : goal.loop-run-preserved
loop-run-preserved c =
    let runs = c.args.runs.now in
    let leaves = all_of runs in
    let first = c.args.first in
    let ws = c.args.words.now in
    let k = c.loop-run.run-index in
    let r : Run = c.run-item.result in
    let h = r.head in
    let i = start runs k in
    let n = r.more + 1 in
    let here : r ≡ get_or runs k r = c.run-item.is in
    let p = c.path-path.result.now in
    let path : p ≡ h.path = c.path-path.ensures.value in
    let fits : AreBytes p = λ j. omega (arith, c.path-path.items_fit j) in
    let few : length h.path ≡ length h.path - 1 + 1 = omega (arith, ap length path, c.path-path.ensures.some) in
    let short : length h.path - 1 ≤ 3 = omega (arith, ap length path, c.path-path.ensures.few) in
    let room : get_or h.path (length h.path - 1) 0 + n ≤ 256 =
    subst (λ q. get_or q (length q - 1) 0 + n ≤ 256) path (omega (arith, c.path-path.ensures.room)) in
    let more : (get_or runs k r).more ≡ r.more = ap (λ (x : Run). x.more) (sym here) in
    let next : start runs (k + 1) ≡ i + n =
    ap (start runs) (add-one k) ∙ next_start runs k r (omega arith)
    ∙ ap (λ j. i + (j + 1)) more in
    let within : i + n ≤ length leaves = omega (arith, starts_within runs (k + 1), next) in
    let each : (j : ℕ) (d : Leaf) → j < n → get_or leaves (i + j) d ≡ later j h = λ j d lt.
    run_at runs k j r d (omega arith) (omega (arith, more, lt))
    ∙ ap (λ (x : Run). later j x.head) (sym here) in
    let none : some_behind ws (front_page ws first (take (length h.path - 1) h.path))
    (get_or h.path (length h.path - 1) 0) n ≡ false =
    ap (λ q. some_behind ws (front_page ws first (take (length q - 1) q)) (get_or q (length q - 1) 0) n) (sym path)
    ∙ ap (λ o. some_behind ws o (get_or p (length p - 1) 0) n) (sym c.front_page-page.ensures)
    ∙ ap (some_behind ws c.front_page-page.result (get_or p (length p - 1) 0)) (sym c.count.ensures)
    ∙ sym c.is_some_behind.ensures ∙ c.if-is_some_behind.false in
    subst (NoneBefore leaves) (sym next)
    (none_step leaves first i (length h.path - 1) n h ws c.requires.short c.requires.stage
    (subst AreBytes path fits) few short room within each none c.loop-run.invariant)
