use Rattle.std.proofs.Common.{◌≡◌, ◌+◌, ◌∙◌, Some, arith, sym, ap, subst, get_or, length}
use Rattle.trie.specs.Leaf.{Leaf}
use Rattle.trie.specs.Fronts.{is_front}
use Rattle.trie.specs.Stages.{leads_on}
use Rattle.trie.specs.Leasts.{IsLeastSoFar, lesser}
use Rattle.trie.proofs.Entries.{leaf_is}
use Rattle.trie.proofs.Walks.{AreBytes}
use Rattle.trie.proofs.Fills.{front_is}
use Rattle.trie.proofs.Leasts.{least_more, least_stays, lesser_below, same_some}
use Rattle.trie.proofs.overlap.least_front.Goals.{then-leads_on, else-leads_on}
use Rattle.trie.proofs.overlap.least_front.Goals as goal

pub loop-at-preserved : goal.loop-at-preserved
loop-at-preserved g c =
    let leaves = g.L.Leaves.leaves c.args.leaves.now in
    let test = is_front leaves in
    let i = c.loop-at.at in
    let d = c.leaf-entry.result in
    let path : c.path-path.result.now ≡ (get_or leaves i d).path = c.path-path.ensures.value
    ∙ ap (λ (l : Leaf). l.path) (leaf_is leaves i d c.leaf-entry.ensures) in
    let fits : AreBytes c.path-path.result.now = λ j. omega (arith, c.path-path.items_fit j) in
    let goes : c.leads_on.result ≡ test (get_or leaves i d).path =
    c.leads_on.ensures ∙ ap (leads_on c.args.words.now c.args.first) path
    ∙ front_is leaves c.args.first i d c.args.words.now c.requires.short c.requires.stage (omega arith)
    (subst AreBytes path fits) (omega (arith, ap length path, c.path-path.ensures.some))
    (omega (arith, ap length path, c.path-path.ensures.few)) in
    elim c.if-leads_on.branch [
      | then-leads_on w ↦
          let is : c.if-leads_on.best ≡ Some (lesser leaves c.loop-at.best i d) = w.best-is
          ∙ ap Some (w.lesser.ensures d) in
          record {
            least = subst (IsLeastSoFar test leaves (i + 1)) (sym is)
                (least_more test leaves i d c.loop-at.best (omega arith) c.loop-at.invariant.least
                (sym goes ∙ w.if-leads_on.true));
            within = λ x e. let s = same_some (sym is ∙ e) in
                omega (arith, s, lesser_below leaves c.loop-at.best i d c.loop-at.invariant.within);
          }
      | else-leads_on w ↦
          record {
            least = subst (IsLeastSoFar test leaves (i + 1)) (sym w.best-is)
                (least_stays test leaves i d c.loop-at.best (omega arith) c.loop-at.invariant.least
                (sym goes ∙ w.if-leads_on.false));
            within = λ x e. omega (arith, c.loop-at.invariant.within x (sym w.best-is ∙ e));
          }
    ]
