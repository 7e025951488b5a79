use Rattle.std.proofs.Common.{arith}
use Rattle.wide_lanes.proofs.LaneLemmas.{divides, twos_are}
use Rattle.wide_lanes.proofs.words.twos.Goals as goal

pub returns : goal.returns
returns c = twos_are c.args.points c.lasts.result c.fits-points.0 c.fits-points.1 c.lasts.ensures

pub nonzero_div-result : goal.nonzero_div-result
nonzero_div-result c = divides c.args.points 64 (omega arith)
