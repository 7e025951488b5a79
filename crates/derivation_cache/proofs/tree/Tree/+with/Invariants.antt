use Rattle.std.proofs.Common.{length}
use Rattle.derivation_cache.specs.Trees.{in_order}
use Rattle.derivation_cache.proofs.tree.Tree.+with.Given as goal

abbrev pub decreases-with : goal.decreases-with
decreases-with l = length (in_order l.self.now)
