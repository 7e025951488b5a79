use Rattle.std.specs.BTreeSet.{btree_set_len}
use Rattle.chain_search.specs.Frontier.{Covers}
use Rattle.chain_search.proofs.frontier.take_cheapest.Given as goal

abbrev pub invariant-loop-entry : goal.invariant-loop-entry
invariant-loop-entry l = Covers l.known l.opened l.queue.keys

abbrev pub decreases-loop-entry : goal.decreases-loop-entry
decreases-loop-entry l = btree_set_len l.queue
