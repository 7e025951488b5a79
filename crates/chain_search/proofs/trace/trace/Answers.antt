use Rattle.std.proofs.Common.{◌∙◌, sym}
use Rattle.chain_search.proofs.Tracing.{trace_none, trace_all, trace_more, trace_stuck, not_there}
use Rattle.chain_search.proofs.trace.trace.Goals as goal

pub loop-init : goal.loop-init
loop-init c = λ g target walk told e. rw c.new-ordinals.ensures.items (trace_none g target c.args.known.now walk c.args.source c.args.step told e)

pub unreachable-requires : goal.unreachable-requires
unreachable-requires c = trace_stuck c.args.known.now c.requires.walk c.args.source c.args.step.length c.loop.ordinals.items c.loop.at c.loop.counter (c.loop.invariant c.requires.edges c.requires.target c.requires.walk c.requires.told c.requires.here) c.loop-test.true (not_there c.args.known.now c.loop.at c.at.result c.at.ensures c.in_default.is)

pub loop-preserved : goal.loop-preserved
loop-preserved c = λ g target walk told e. rw c.in_ok-push.ensures.items (trace_more g target c.args.known.now walk c.args.source c.args.step.length c.loop.ordinals.items c.loop.at c.loop.counter c.in-Some.next told (c.loop.invariant g target walk told e) c.loop-test.true (sym c.at.ensures ∙ c.in-Some.is))

pub returns : goal.returns
returns c = λ g target walk told e. trace_all c.args.known.now walk c.args.source c.args.step.length c.loop.ordinals.items c.loop.at c.loop.counter (c.loop.invariant g target walk told e) c.loop-test.false
