use Rattle.std.proofs.Common.{◌≡◌, ◌≤◌, ◌<◌, ◌+◌, ◌-◌, ◌*◌, ◌^◌, ◌∙◌, ℕ, List, arith, sym, ap, subst, get_or, take, length, add-one}
use Rattle.trie.specs.Fronts.{pages}
use Rattle.trie.specs.Runs.{Run, all_of, later}
use Rattle.trie.specs.Stages.{put_run, Holds}
use Rattle.trie.specs.Words.{front_page}
use Rattle.trie.proofs.Walks.{AreBytes}
use Rattle.trie.proofs.Fills.{RunPut, run_step}
use Rattle.trie.proofs.RunLaws.{start, run_at, next_start, starts_within}
use Rattle.trie.proofs.fill.fill.Goals as goal

-- The words with one run more.
abbrev with_run : List ℕ → ℕ → List ℕ → ℕ → ℕ → List ℕ
with_run ws first p w n =
    put_run ws (front_page ws first (take (length p - 1) p)) (get_or p (length p - 1) 0) (2 ^ 62 + w) n

pub loop-run-preserved : goal.loop-run-preserved
loop-run-preserved c =
    let runs = c.args.runs.now in
    let leaves = all_of runs in
    let first = c.args.first in
    let ws = c.loop-run.words.items in
    let k = c.loop-run.run-index in
    let r : Run = c.run-item.result in
    let h = r.head in
    let i = start runs k in
    let n = r.more + 1 in
    let here : r ≡ get_or runs k r = c.run-item.is in
    let p = c.path-path.result.now in
    let path : p ≡ h.path = c.path-path.ensures.value in
    let fits : AreBytes p = λ j. omega (arith, c.path-path.items_fit j) in
    let few : length h.path ≡ length h.path - 1 + 1 = omega (arith, ap length path, c.path-path.ensures.some) in
    let short : length h.path - 1 ≤ 3 = omega (arith, ap length path, c.path-path.ensures.few) in
    let room : get_or h.path (length h.path - 1) 0 + n ≤ 256 =
    subst (λ q. get_or q (length q - 1) 0 + n ≤ 256) path (omega (arith, c.path-path.ensures.room)) in
    let more : (get_or runs k r).more ≡ r.more = ap (λ (x : Run). x.more) (sym here) in
    let next : start runs (k + 1) ≡ i + n =
    ap (start runs) (add-one k) ∙ next_start runs k r (omega arith)
    ∙ ap (λ j. i + (j + 1)) more in
    let within : i + n ≤ length leaves = omega (arith, starts_within runs (k + 1), next) in
    let each : (j : ℕ) → j < n → get_or leaves (i + j) h ≡ later j h = λ j lt.
    run_at runs k j r h (omega arith) (omega (arith, more, lt))
    ∙ ap (λ (x : Run). later j x.head) (sym here) in
    let size : length ws ≡ 256 * (first + length (pages leaves)) = c.loop-run.invariant.size
    ∙ c.requires.size in
    let step : RunPut leaves first i n ws (with_run ws first h.path h.word n) =
    run_step leaves first i (length h.path - 1) n h ws c.requires.short c.requires.apart
    (subst AreBytes path fits) few short room within each size c.loop-run.invariant.holds in
    let new : c.put_run.new.words.items ≡ with_run ws first h.path h.word n =
    c.put_run.ensures
    ∙ ap (λ o. put_run ws o (get_or p (length p - 1) 0) (2 ^ 62 + c.word.result) c.count.result)
    (c.front_page-page.ensures
    ∙ ap (λ x. front_page x first (take (length p - 1) p)) c.as_slice.ensures.value)
    ∙ ap (λ x. with_run ws first x c.word.result c.count.result) path
    ∙ ap (λ w. with_run ws first h.path w c.count.result) c.word.ensures.value
    ∙ ap (with_run ws first h.path h.word) c.count.ensures in
    record {
      holds = subst (λ j. Holds (take j leaves) leaves first c.put_run.new.words.items) (sym next)
          (subst (λ x. Holds (take (i + n) leaves) leaves first x) (sym new) step.holds);
      size = ap length new ∙ step.size ∙ c.loop-run.invariant.size;
      same = ap (take (256 * first)) new ∙ step.same ∙ c.loop-run.invariant.same;
    }
