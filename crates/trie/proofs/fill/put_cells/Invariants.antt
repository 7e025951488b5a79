use Rattle.std.proofs.Common.{◌≡◌, Some, length}
use Rattle.trie.specs.Stages.{put_run}
use Rattle.trie.proofs.fill.put_cells.Given as goal

abbrev pub invariant-loop-more : goal.invariant-loop-more
invariant-loop-more l = record {
  words : l.words ≡ put_run l.fn.words (Some l.page) l.byte l.word l.more;
  size : length l.words ≡ length l.fn.words;
}
