use Rattle.std.proofs.Common.{All}
use Rattle.derivation_cache.specs.Known.{IsLeastPair}
use Rattle.two_views.proofs.rings.ring_pairs.Given as goal

abbrev pub invariant-loop-at : goal.invariant-loop-at
invariant-loop-at g l = All (IsLeastPair l.graph) l.pairs.items
