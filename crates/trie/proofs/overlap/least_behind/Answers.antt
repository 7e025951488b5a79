use Rattle.std.proofs.Common.{◌≡◌, ◌+◌, ◌∙◌, Some, arith, sym, ap, subst, get_or}
use Rattle.trie.specs.Leaf.{Leaf}
use Rattle.trie.specs.Fronts.{is_proper_prefix}
use Rattle.trie.specs.Leasts.{IsLeastSoFar, lesser}
use Rattle.trie.proofs.Entries.{leaf_is}
use Rattle.trie.proofs.Leasts.{least_more, least_stays, lesser_below, same_some}
use Rattle.trie.proofs.overlap.least_behind.Goals.{then-is_proper_prefix, else-is_proper_prefix}
use Rattle.trie.proofs.overlap.least_behind.Goals as goal

pub loop-at-preserved : goal.loop-at-preserved
loop-at-preserved g c =
    let leaves = g.L.Leaves.leaves c.args.leaves.now in
    let test = is_proper_prefix c.args.front.now in
    let i = c.loop-at.at in
    let d = c.leaf-entry.result in
    let path : c.path-path.result.now ≡ (get_or leaves i d).path = c.path-path.ensures.value
    ∙ ap (λ (l : Leaf). l.path) (leaf_is leaves i d c.leaf-entry.ensures) in
    let goes : c.is_proper_prefix.result ≡ test (get_or leaves i d).path = c.is_proper_prefix.ensures
    ∙ ap test path in
    elim c.if-is_proper_prefix.branch [
      | then-is_proper_prefix w ↦
          let is : c.if-is_proper_prefix.best ≡ Some (lesser leaves c.loop-at.best i d) = w.best-is
          ∙ ap Some (w.lesser.ensures d) in
          record {
            least = subst (IsLeastSoFar test leaves (i + 1)) (sym is)
                (least_more test leaves i d c.loop-at.best (omega arith) c.loop-at.invariant.least
                (sym goes ∙ w.if-is_proper_prefix.true));
            within = λ x e. let s = same_some (sym is ∙ e) in
                omega (arith, s, lesser_below leaves c.loop-at.best i d c.loop-at.invariant.within);
          }
      | else-is_proper_prefix w ↦
          record {
            least = subst (IsLeastSoFar test leaves (i + 1)) (sym w.best-is)
                (least_stays test leaves i d c.loop-at.best (omega arith) c.loop-at.invariant.least
                (sym goes ∙ w.if-is_proper_prefix.false));
            within = λ x e. omega (arith, c.loop-at.invariant.within x (sym w.best-is ∙ e));
          }
    ]
