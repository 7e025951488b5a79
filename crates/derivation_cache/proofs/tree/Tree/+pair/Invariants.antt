use Rattle.std.proofs.Common.{length}
use Rattle.derivation_cache.specs.Trees.{in_order}
use Rattle.derivation_cache.proofs.tree.Tree.+pair.Given as goal

abbrev pub decreases-pair : goal.decreases-pair
decreases-pair l = length (in_order l.self.now)
