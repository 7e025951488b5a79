use Rattle.std.proofs.Common.{◌≡◌, ◌*◌, take, length}
use Rattle.trie.specs.Runs.{all_of}
use Rattle.trie.specs.Stages.{Holds}
use Rattle.trie.proofs.RunLaws.{start}
use Rattle.trie.proofs.fill.fill.Given as goal

abbrev pub invariant-loop-run : goal.invariant-loop-run
invariant-loop-run l =
    let leaves = all_of l.runs in
    record {
      holds : Holds (take (start l.runs l.run-index) leaves) leaves l.first l.words.items;
      size : length l.words.items ≡ length l.fn.words.items;
      same : take (256 * l.first) l.words.items ≡ take (256 * l.first) l.fn.words.items;
    }
