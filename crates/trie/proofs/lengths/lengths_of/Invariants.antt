use Rattle.std.proofs.Common.{take}
use Rattle.trie.specs.Fronts.{AreShort, AreLong}
use Rattle.trie.specs.Runs.{heads}
use Rattle.trie.proofs.lengths.lengths_of.Given as goal

abbrev pub invariant-loop-run : goal.invariant-loop-run
invariant-loop-run l =
    let leaves = heads l.runs in
    record {
      few : AreShort 4 (take l.run-index leaves);
      short : AreShort l.longest (take l.run-index leaves);
      long : AreLong l.shortest (take l.run-index leaves);
    }
