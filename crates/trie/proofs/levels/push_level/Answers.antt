use Rattle.std.proofs.Common.{◌≡◌, ◌+◌, ◌-◌, ◌*◌, ◌^◌, ◌≤◌, ◌++◌, ◌∙◌, ℕ, suc, Bool, false, List, take, replicate, arith, sym, ap, subst, map, length, length-append, add-one}
use Rattle.std.specs.List.{flat_map}
use Rattle.std.specs.Vec.{vec_len}
use Rattle.std.specs.Prelude.{count_by}
use Rattle.std.proofs.lemmas.List.{length-map, take_all}
use Rattle.trie.specs.Fronts.{is_front, children, level, fronts}
use Rattle.trie.specs.Leaf.{Leaf}
use Rattle.trie.specs.Runs.{heads}
use Rattle.trie.specs.Stages.{numbered, IsStage}
use Rattle.trie.proofs.Numbers.{stage_next, count_marks, length-numbered}
use Rattle.trie.proofs.Marking.{none_longer_marked}
use Rattle.trie.proofs.RunLaws.{numbered_none, no_longer}
use Rattle.trie.proofs.Distinct.{length-all_children}
use Rattle.trie.proofs.levels.push_level.Goals as goal

-- How many pages the next level has is the count of the marks.
counted : (leaves : List Leaf) (n next : ℕ) (ms ns : List Bool) → next ≡ count_by (λ m. m) ns → ns ≡ ms →
    ms ≡ map (is_front leaves) (flat_map children (level leaves n)) → next ≡ length (level leaves (n + 1))
counted leaves n next ms ns is same marks =
    rw (add-one n) (is ∙ ap (count_by (λ m. m)) (same ∙ marks)
    ∙ count_marks (is_front leaves) (flat_map children (level leaves n)))

pub returns-then-longest-depth-clause-stage : goal.returns-then-longest-depth-clause-stage
returns-then-longest-depth-clause-stage c =
    let leaves = heads c.args.runs.now in
    let n = c.args.depth in
    let first = c.args.first in
    let ws = c.args.words.now.items in
    let next = first + length (fronts leaves (suc n)) in
    let reserved = c.reserve_exact.new.self in
    let many : c.len.result + c.args.count * 256 - vec_len reserved ≡ c.args.count * 256 =
    omega (arith, c.len.ensures) in
    let whole : take (c.len.result + c.args.count * 256) ws ≡ ws =
    take_all (c.len.result + c.args.count * 256) ws (omega (arith, c.len.ensures)) in
    let added : c.resize.new.self.items ≡ ws ++ numbered next (replicate (c.args.count * 256) false) =
    c.in_ok-resize.ensures.items
    ∙ ap (λ xs. take (c.len.result + c.args.count * 256) xs
    ++ replicate (c.len.result + c.args.count * 256 - vec_len reserved) 0) c.reserve_exact.ensures.items
    ∙ ap (λ xs. xs ++ replicate (c.len.result + c.args.count * 256 - vec_len reserved) 0) whole
    ∙ ap (λ k. ws ++ replicate k 0) many
    ∙ ap (λ xs. ws ++ xs) (sym (numbered_none next (c.args.count * 256))) in
    let few : first + length (fronts leaves (suc (suc n))) ≤ 2 ^ 32 =
    omega (
      arith,
      c.requires.few,
      c.requires.base,
      c.requires.count,
      no_longer leaves n c.args.longest c.requires.longest c.if-longest-depth.true,
      length-append (fronts leaves n) (level leaves n),
      length-append (fronts leaves (suc n)) (level leaves (suc n)),
    ) in
    rw (add-one n) (subst (λ x. IsStage leaves first (suc n) x) (sym added)
    (stage_next leaves first n ws (replicate (c.args.count * 256) false) c.requires.depth c.requires.short
    c.requires.stage (c.requires.size ∙ ap (λ b. 256 * b) c.requires.base)
    (none_longer_marked leaves n c.args.longest (c.args.count * 256) c.requires.longest
    c.if-longest-depth.true (omega (arith, c.requires.count))) few))

pub returns-then-longest-depth-clause-count : goal.returns-then-longest-depth-clause-count
returns-then-longest-depth-clause-count c =
    rw (add-one c.args.depth)
    (sym (no_longer (heads c.args.runs.now) c.args.depth c.args.longest c.requires.longest c.if-longest-depth.true))

pub returns-clause-stage : goal.returns-clause-stage
returns-clause-stage c =
    let leaves = heads c.args.runs.now in
    let n = c.args.depth in
    let first = c.args.first in
    let ws = c.args.words.now.items in
    let ms = c.in_ok-marked.marked.items in
    let count : c.in-Ok.next ≡ length (level leaves (n + 1)) =
    counted leaves n c.in-Ok.next ms c.as_slice-2.result.now
    (c.in-Ok.ensures.1 ∙ c.mark_count-next.ensures) c.as_slice-2.ensures.value c.in_ok-marked.ensures in
    let next : c.args.base + c.args.count ≡ first + length (fronts leaves (suc n)) =
    omega (arith, c.requires.base, c.requires.count, length-append (fronts leaves n) (level leaves n)) in
    let few : first + length (fronts leaves (suc (suc n))) ≤ 2 ^ 32 =
    omega (
      arith,
      c.if-base-count.false,
      count,
      next,
      ap (λ m. length (level leaves m))
          (add-one n),
      length-append (fronts leaves (suc n)) (level leaves (suc n)),
    ) in
    let added : c.push_numbered.new.words.items ≡ ws ++ numbered (c.args.base + c.args.count) ms =
    c.in_ok-push_numbered.ensures
    ∙ ap (λ xs. ws ++ numbered (c.args.base + c.args.count) xs) c.as_slice-3.ensures.value in
    rw (add-one n) (subst (λ x. IsStage leaves first (suc n) x)
    (sym (added ∙ ap (λ k. ws ++ numbered k ms) next))
    (stage_next leaves first n ws ms c.requires.depth c.requires.short c.requires.stage
    (c.requires.size ∙ ap (λ b. 256 * b) c.requires.base) c.in_ok-marked.ensures few))

pub returns-clause-count : goal.returns-clause-count
returns-clause-count c =
    counted (heads c.args.runs.now) c.args.depth c.in-Ok.next c.in_ok-marked.marked.items
    c.as_slice-2.result.now
    (c.in-Ok.ensures.1 ∙ c.mark_count-next.ensures) c.as_slice-2.ensures.value c.in_ok-marked.ensures

pub returns-clause-size : goal.returns-clause-size
returns-clause-size c =
    let leaves = heads c.args.runs.now in
    let n = c.args.depth in
    let ws = c.args.words.now.items in
    let ms = c.in_ok-marked.marked.items in
    let many : length ms ≡ 256 * c.args.count = ap length c.in_ok-marked.ensures
    ∙ length-map (flat_map children (level leaves n)) (is_front leaves)
    ∙ length-all_children (level leaves n) ∙ ap (λ k. 256 * k) (sym c.requires.count) in
    let added : c.push_numbered.new.words.items ≡ ws ++ numbered (c.args.base + c.args.count) ms =
    c.in_ok-push_numbered.ensures
    ∙ ap (λ xs. ws ++ numbered (c.args.base + c.args.count) xs) c.as_slice-3.ensures.value in
    ap length added ∙ length-append ws (numbered (c.args.base + c.args.count) ms)
    ∙ omega (arith, length-numbered ms (c.args.base + c.args.count), many, c.requires.size)
