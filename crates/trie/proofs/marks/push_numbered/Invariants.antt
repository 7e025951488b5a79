use Rattle.std.proofs.Common.{◌≡◌, ◌≤◌, ◌+◌, ◌++◌, drop}
use Rattle.trie.specs.Stages.{numbered}
use Rattle.trie.proofs.marks.push_numbered.Given as goal

abbrev pub invariant-loop-mark : goal.invariant-loop-mark
invariant-loop-mark l = record {
  words : l.words.items ++ numbered l.next
      (drop l.mark-index l.marked) ≡ l.fn.words.items ++ numbered l.fn.next l.marked;
  small : l.next ≤ l.fn.next + l.mark-index;
}
