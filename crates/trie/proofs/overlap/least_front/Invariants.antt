use Rattle.std.proofs.Common.{◌<◌}
use Rattle.std.specs.Option.{ForSome}
use Rattle.trie.specs.Fronts.{is_front}
use Rattle.trie.specs.Leasts.{IsLeastSoFar}
use Rattle.trie.proofs.overlap.least_front.Given as goal

abbrev pub invariant-loop-at : goal.invariant-loop-at
invariant-loop-at g l =
    let leaves = g.L.Leaves.leaves l.leaves in
    record {
      least : IsLeastSoFar (is_front leaves) leaves l.at l.best;
      within : ForSome l.best
          (λ i. i < l.at);
    }
