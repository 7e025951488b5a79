use Rattle.std.proofs.Common.{◌≡◌}
use Rattle.trie.specs.Stages.{put_run}
use Rattle.trie.proofs.fill.put_run.Given as goal

abbrev pub invariant-loop-more : goal.invariant-loop-more
invariant-loop-more l = l.words.items ≡ put_run l.fn.words.items l.page l.byte l.word l.more
