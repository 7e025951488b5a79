use Rattle.std.proofs.Common.{◌≡◌, ◌<◌, ◌*◌, ◌∙◌, arith, ap, sym, subst, get_or, take, length}
use Rattle.std.proofs.lemmas.List.{get_or-map, length-map}
use Rattle.trie.specs.Leaf.{Leaf}
use Rattle.trie.specs.Fronts.{level}
use Rattle.trie.specs.Runs.{heads, Run}
use Rattle.trie.specs.Stages.{marked_with}
use Rattle.trie.specs.Words.{front_page}
use Rattle.trie.proofs.Walks.{AreBytes}
use Rattle.trie.proofs.Marking.{mark_step, short_step, unmarked_children}
use Rattle.trie.proofs.marks.marks.Goals.{then-path-depth, else-path-depth}
use Rattle.trie.proofs.marks.marks.Goals as goal

pub loop-run-init : goal.loop-run-init
loop-run-init c =
    let leaves = heads c.args.runs.now in
    c.in_ok-marked.ensures.items_if_clones_equal (λ y h. h)
    ∙ unmarked_children (level leaves c.args.depth) (c.args.count * 256) (omega (arith, c.requires.count))

pub loop-run-preserved : goal.loop-run-preserved
loop-run-preserved c =
    let runs = c.args.runs.now in
    let leaves = heads runs in
    let n = c.args.depth in
    let i = c.loop-run.run-index in
    let r : Run = c.run-item.result in
    let d = r.head in
    let here : r ≡ get_or runs i r = c.run-item.is in
    let within : i < length leaves = omega (arith, length-map runs (λ (x : Run). x.head)) in
    let path : c.path-path.result.now ≡ (get_or leaves i d).path =
    c.path-path.ensures.value ∙ ap (λ (l : Leaf). l.path) (ap (λ (x : Run). x.head) here
    ∙ sym (get_or-map (λ (x : Run). x.head) runs i r d (omega arith))) in
    elim c.if-path-depth.branch [
      | then-path-depth w ↦
          let fits : AreBytes c.path-path.result.now = λ j. omega (arith, c.path-path.items_fit j) in
          ap (λ v. v.items) w.marked-is ∙ w.mark.ensures
          ∙ ap (λ o. marked_with c.loop-run.marked.items o c.args.base (get_or c.path-path.result.now n 0))
          w.front_page.ensures
          ∙ ap (λ p. marked_with c.loop-run.marked.items
          (front_page c.args.words.now c.args.first (take n p)) c.args.base (get_or p n 0)) path
          ∙ ap (λ b. marked_with c.loop-run.marked.items
          (front_page c.args.words.now c.args.first (take n (get_or leaves i d).path)) b
          (get_or (get_or leaves i d).path n 0)) c.requires.base
          ∙ mark_step leaves c.args.first n c.args.words.now i d c.loop-run.marked.items c.requires.depth
          c.requires.short c.requires.stage within (subst AreBytes path fits)
          (omega (arith, ap length path)) c.loop-run.invariant
      | else-path-depth w ↦
          ap (λ v. v.items) w.marked-is
          ∙ short_step leaves n i d c.loop-run.marked.items within
          (omega (arith, ap length path)) c.loop-run.invariant
    ]
