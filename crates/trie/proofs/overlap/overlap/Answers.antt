use Rattle.std.proofs.Common.{◌≡◌, ◌∙◌, [], sym, ap, get_or}
use Rattle.trie.specs.Leaf.{Leaf}
use Rattle.trie.specs.Fronts.{is_front}
use Rattle.trie.specs.Overlaps.{path_at}
use Rattle.trie.proofs.Entries.{leaf_is}
use Rattle.trie.proofs.Overlapping.{path_is, overlap_is, some_beyond, none_longer}
use Rattle.trie.proofs.overlap.overlap.Goals as goal

pub unreachable-requires : goal.unreachable-requires
unreachable-requires g c =
    let leaves = g.L.Leaves.leaves c.args.leaves.now in
    let i = c.in_ok-front.front in
    let d = c.leaf-entry.result in
    let path : c.path.result.now ≡ (get_or leaves i d).path = c.path.ensures.value
    ∙ ap (λ (l : Leaf). l.path) (leaf_is leaves i d c.leaf-entry.ensures) in
    some_beyond leaves c.path.result.now (ap (is_front leaves) path ∙ c.in_ok-front.ensures.passes d)
    (λ j e lt. c.in-None.ensures j e lt)

pub returns : goal.returns
returns g c =
    let leaves = g.L.Leaves.leaves c.args.leaves.now in
    let i = c.in_ok-front.front in
    let d = c.leaf-entry.result in
    let path : c.path.result.now ≡ path_at leaves i =
    c.path.ensures.value ∙ ap (λ (l : Leaf). l.path) (leaf_is leaves i d c.leaf-entry.ensures)
    ∙ sym (path_is leaves i d [] c.in_ok-front.ensures.within) in
    overlap_is leaves i c.in-Some.beyond c.path.result.now path c.in_ok-front.ensures c.in-Some.ensures

pub returns-then-lengths : goal.returns-then-lengths
returns-then-lengths g c =
    none_longer c.args.lengths.longest c.args.lengths.shortest
    (g.L.Leaves.leaves c.args.leaves.now) c.if-lengths.true c.requires.longest c.requires.shortest
