use Rattle.std.proofs.Common.{arith}
use Rattle.wide_lanes.proofs.LaneLemmas.{divides}
use Rattle.wide_lanes.proofs.read.second_of.Goals as goal

pub nonzero_div-result : goal.nonzero_div-result
nonzero_div-result c = divides c.args.pairs 256 (omega arith)
