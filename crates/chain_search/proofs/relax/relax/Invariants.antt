use Rattle.chain_search.proofs.Offers.{Offering}
use Rattle.chain_search.proofs.relax.relax.Given as goal

abbrev pub invariant-loop-edge : goal.invariant-loop-edge
invariant-loop-edge g l = Offering l.initial.opened l.opened l.initial.queue.keys l.queue.keys l.row l.cost l.len l.edge-index l.initial.steps l.steps
