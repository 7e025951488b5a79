use Rattle.trie.specs.Runs.{all_of}
use Rattle.trie.proofs.Fills.{NoneBefore}
use Rattle.trie.proofs.RunLaws.{start}
use Rattle.trie.proofs.overlap.none_goes_on.Given as goal

abbrev pub invariant-loop-run : goal.invariant-loop-run
invariant-loop-run l = NoneBefore (all_of l.runs) (start l.runs l.run-index)
