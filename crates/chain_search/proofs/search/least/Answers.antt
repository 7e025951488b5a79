use Rattle.std.proofs.Common.{◌∙◌, length, None}
use Rattle.std.proofs.lemmas.List.{length-replicate}
use Rattle.chain_search.proofs.Turning.{starts, first_counted, row_fits, total, total_after, stops, step_length, step_cost, turn_target, turn_other, told_at_source, answers}
use Rattle.chain_search.proofs.search.least.Goals as goal

pub relax-requires-clause-sources : goal.relax-requires-clause-sources
relax-requires-clause-sources g c = rw (c.edges_into.ensures, c.in_ok-opened.ensures)
    (row_fits c.args.graph.now c.nodes-nodes.ensures.graph c.args.target _ (length-replicate c.nodes-nodes.result None ∙ c.nodes-nodes.ensures.value))

pub returns-in_err-relax-clause-steps : goal.returns-in_err-relax-clause-steps
returns-in_err-relax-clause-steps g c = first_counted c.args.graph.now c.args.target c.args.steps.now c.relax.new.steps (rw c.edges_into.ensures at c.relax.ensures.steps)

pub loop-node-init : goal.loop-node-init
loop-node-init g c = rw (c.in_ok-known.ensures, c.nodes-nodes.ensures.value)
    (starts c.args.graph.now c.nodes-nodes.ensures.graph c.args.source c.args.target c.args.steps.now c.relax.new.opened c.relax.new.queue.keys c.relax.new.steps
    (rw (c.in_ok-opened.ensures, c.nodes-nodes.ensures.value, c.edges_into.ensures) at c.in_ok-relax.ensures.relaxed)
    (rw (c.in_ok-opened.ensures, c.nodes-nodes.ensures.value, c.new-queue.ensures.empty) at c.in_ok-relax.ensures.queued)
    (rw c.edges_into.ensures at c.relax.ensures.steps))

pub trace-requires : goal.trace-requires
trace-requires g c = rw c.put.ensures (told_at_source c.args.graph.now c.nodes-nodes.ensures.graph c.args.source c.args.target c.args.steps.now c.loop-node.known c.loop-node.opened c.loop-node.queue.keys c.loop-node.steps c.loop-node.invariant c.in-Some.node c.in-Some.step c.in-Some.ensures.found c.take_cheapest.new.queue.keys c.in-Some.ensures.rest c.if-node-source.true)

pub returns-in_err-ordinals-clause-steps : goal.returns-in_err-ordinals-clause-steps
returns-in_err-ordinals-clause-steps g c = total c.args.graph.now c.nodes-nodes.ensures.graph c.args.source c.args.target c.args.steps.now c.loop-node.known c.loop-node.opened c.loop-node.queue.keys c.loop-node.steps c.loop-node.invariant

pub returns-then-node-source-clause-ok : goal.returns-then-node-source-clause-ok
returns-then-node-source-clause-ok g c = rw c.new.ensures
    (answers c.args.graph.now c.nodes-nodes.ensures.graph c.args.source c.args.target c.args.steps.now c.loop-node.known c.loop-node.opened c.loop-node.queue.keys c.loop-node.steps c.loop-node.invariant c.in-Some.node c.in-Some.step c.in-Some.ensures.found c.take_cheapest.new.queue.keys c.in-Some.ensures.rest c.in_ok-ordinals.ordinals.items c.if-node-source.true (rw c.put.ensures at c.in_ok-ordinals.ensures))

pub returns-then-node-source-clause-steps : goal.returns-then-node-source-clause-steps
returns-then-node-source-clause-steps g c = total c.args.graph.now c.nodes-nodes.ensures.graph c.args.source c.args.target c.args.steps.now c.loop-node.known c.loop-node.opened c.loop-node.queue.keys c.loop-node.steps c.loop-node.invariant

pub relax-requires-then-node-target-clause-sources : goal.relax-requires-then-node-target-clause-sources
relax-requires-then-node-target-clause-sources g c = rw c.edges_into-then-node-target.ensures
    (row_fits c.args.graph.now c.nodes-nodes.ensures.graph c.in-Some.node (length c.loop-node.opened) c.loop-node.invariant.opened_length)

pub relax-requires-then-node-target-clause-cost : goal.relax-requires-then-node-target-clause-cost
relax-requires-then-node-target-clause-cost g c = step_cost c.args.graph.now c.nodes-nodes.ensures.graph c.args.source c.args.target c.args.steps.now c.loop-node.known c.loop-node.opened c.loop-node.queue.keys c.loop-node.steps c.loop-node.invariant c.in-Some.node c.in-Some.step c.in-Some.ensures.found c.take_cheapest.new.queue.keys c.in-Some.ensures.rest

pub relax-requires-then-node-target-clause-len : goal.relax-requires-then-node-target-clause-len
relax-requires-then-node-target-clause-len g c = step_length c.args.graph.now c.nodes-nodes.ensures.graph c.args.source c.args.target c.args.steps.now c.loop-node.known c.loop-node.opened c.loop-node.queue.keys c.loop-node.steps c.loop-node.invariant c.in-Some.node c.in-Some.step c.in-Some.ensures.found c.take_cheapest.new.queue.keys c.in-Some.ensures.rest

pub loop-node-preserved-in-Continue-branch-5 : goal.loop-node-preserved-in-Continue-branch-5
loop-node-preserved-in-Continue-branch-5 g c = rw c.put.ensures
    (turn_other c.args.graph.now c.nodes-nodes.ensures.graph c.args.source c.args.target c.args.steps.now c.loop-node.known c.loop-node.opened c.loop-node.queue.keys c.loop-node.steps c.loop-node.invariant c.in-Some.node c.in-Some.step c.in-Some.ensures.found c.take_cheapest.new.queue.keys c.in-Some.ensures.rest c.relax-then-node-target.new.opened c.relax-then-node-target.new.queue.keys c.relax-then-node-target.new.steps c.if-node-target.true c.if-node-source.false
    (rw c.edges_into-then-node-target.ensures at c.in_ok-relax-2.ensures.relaxed) c.in_ok-relax-2.ensures.queued (rw c.edges_into-then-node-target.ensures at c.relax-then-node-target.ensures.steps))

pub returns-in_err-relax-2-clause-steps : goal.returns-in_err-relax-2-clause-steps
returns-in_err-relax-2-clause-steps g c = total_after c.args.graph.now c.nodes-nodes.ensures.graph c.args.source c.args.target c.args.steps.now c.loop-node.known c.loop-node.opened c.loop-node.queue.keys c.loop-node.steps c.loop-node.invariant c.in-Some.node c.in-Some.step c.in-Some.ensures.found c.take_cheapest.new.queue.keys c.in-Some.ensures.rest c.relax-then-node-target.new.steps c.if-node-target.true (rw c.edges_into-then-node-target.ensures at c.relax-then-node-target.ensures.steps)

pub loop-node-preserved : goal.loop-node-preserved
loop-node-preserved g c = rw c.put.ensures (turn_target c.args.graph.now c.nodes-nodes.ensures.graph c.args.source c.args.target c.args.steps.now c.loop-node.known c.loop-node.opened c.loop-node.queue.keys c.loop-node.steps c.loop-node.invariant c.in-Some.node c.in-Some.step c.in-Some.ensures.found c.take_cheapest.new.queue.keys c.in-Some.ensures.rest c.if-node-target.false c.if-node-source.false)

pub returns-clause-ok : goal.returns-clause-ok
returns-clause-ok g c = stops c.args.graph.now c.nodes-nodes.ensures.graph c.args.source c.args.target c.args.steps.now c.loop-node.known c.loop-node.opened c.loop-node.queue.keys c.loop-node.steps c.loop-node.invariant c.in_default.ensures.none

pub returns-clause-steps : goal.returns-clause-steps
returns-clause-steps g c = total c.args.graph.now c.nodes-nodes.ensures.graph c.args.source c.args.target c.args.steps.now c.loop-node.known c.loop-node.opened c.loop-node.queue.keys c.loop-node.steps c.loop-node.invariant
