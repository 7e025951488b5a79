use Rattle.modules_conf.proofs.ResolutionLemmas.{LooksLike-ends}
use Rattle.modules_conf.proofs.resolution.fix_ends.Goals as goal

pub loop-edge-preserved : goal.loop-edge-preserved
loop-edge-preserved c =
    LooksLike-ends c.loop-edge.aliases c.fix.new.self c.fix-in-loop-edge.new.self c.args.edges.now c.loop-edge.edge-index c.edge-item.result c.loop-edge-test.true c.edge-item.is
    c.loop-edge.invariant c.in_ok-fix.ensures.ok c.in_ok-fix-2.ensures.ok
