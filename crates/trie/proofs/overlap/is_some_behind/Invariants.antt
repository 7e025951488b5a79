use Rattle.std.proofs.Common.{◌≡◌}
use Rattle.trie.specs.Stages.{some_behind}
use Rattle.trie.proofs.overlap.is_some_behind.Given as goal

abbrev pub invariant-loop-more : goal.invariant-loop-more
invariant-loop-more l = l.some ≡ some_behind l.words l.page l.byte l.more
