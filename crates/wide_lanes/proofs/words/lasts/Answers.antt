use Rattle.std.proofs.Common.{arith}
use Rattle.wide_lanes.proofs.LaneLemmas.{divides, lasts_are}
use Rattle.wide_lanes.proofs.words.lasts.Goals as goal

pub returns : goal.returns
returns c = lasts_are c.args.points c.fits-points.0 c.fits-points.1

pub nonzero_rem-result : goal.nonzero_rem-result
nonzero_rem-result c = divides c.args.points 64 (omega arith)
