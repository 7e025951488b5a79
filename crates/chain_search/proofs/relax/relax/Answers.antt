use Rattle.std.proofs.Common.{◌≡◌, ◌∙◌, arith, refl, Equal}
use Rattle.std.proofs.lemmas.Grind.{common_steps}
use Rattle.chain_search.specs.declared.frontier.Open.{Open}
use Rattle.chain_search.specs.contracts.frontier.OpenOrd.TheImpl as OpenOrd
use Rattle.chain_search.proofs.Offers.{offering_kept, offering_taken}
use Rattle.chain_search.proofs.Frontiers.{inserted, still_there}
use Rattle.chain_search.proofs.relax.relax.Goals.{then-improves+in_ok-insert, else-improves}
use Rattle.chain_search.proofs.relax.relax.Goals as goal

same : (x y : Open) → OpenOrd.cmp-value.it x y ≡ Equal → x ≡ y
same x y e = grind (arith, common_steps)

pub loop-edge-preserved : goal.loop-edge-preserved
loop-edge-preserved g c = elim c.if-improves.branch [
  | then-improves+in_ok-insert w ↦ rw (w.opened-is, w.queue-is, w.put.ensures, w.in_ok-insert.ensures.keys)
      (offering_taken c.args.opened.now c.loop-edge.opened c.args.queue.now.keys c.loop-edge.queue.keys _ c.args.row.now c.args.cost c.args.len c.loop-edge.edge-index c.args.steps.now c.loop-edge.steps c.tick.new.self _ _
      c.loop-edge-test.true (c.requires.sources _ _ c.loop-edge-test.true) c.loop-edge.invariant (rw c.from.ensures refl)
      (λ s e. c.improves.ensures.yes w.if-improves.true s (c.at.ensures ∙ e)) c.tick.ensures
      (inserted OpenOrd.cmp-value.it same c.loop-edge.queue.keys _) (λ k. still_there OpenOrd.cmp-value.it same c.loop-edge.queue.keys _ k))
  | else-improves w ↦ rw (w.opened-is, w.queue-is)
      (offering_kept c.args.opened.now c.loop-edge.opened c.args.queue.now.keys c.loop-edge.queue.keys c.args.row.now c.args.cost c.args.len c.loop-edge.edge-index c.args.steps.now c.loop-edge.steps c.tick.new.self _
      c.loop-edge-test.true c.loop-edge.invariant (rw (c.at.ensures, c.from.ensures) at (c.improves.ensures.no w.if-improves.false)) c.tick.ensures)
]
