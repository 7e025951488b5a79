use Rattle.std.proofs.Common.{◌-◌, length}
use Rattle.chain_search.specs.Search.{Running, settled_count}
use Rattle.chain_search.proofs.search.least.Given as goal

abbrev pub invariant-loop-node : goal.invariant-loop-node
invariant-loop-node g l = Running l.graph l.source l.target l.fn.steps l.known l.opened l.queue.keys l.steps

abbrev pub decreases-loop-node : goal.decreases-loop-node
decreases-loop-node g l = length l.known - settled_count l.known
