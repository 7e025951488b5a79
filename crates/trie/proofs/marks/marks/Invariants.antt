use Rattle.std.proofs.Common.{◌≡◌, take, map}
use Rattle.std.specs.List.{flat_map}
use Rattle.trie.specs.Fronts.{is_front, children, level}
use Rattle.trie.specs.Runs.{heads}
use Rattle.trie.proofs.marks.marks.Given as goal

abbrev pub invariant-loop-run : goal.invariant-loop-run
invariant-loop-run l =
    let leaves = heads l.runs in
    l.marked.items ≡ map (is_front (take l.run-index leaves)) (flat_map children (level leaves l.depth))
