use Rattle.std.proofs.Common.{◌++◌, arith, length-append}
use Rattle.std.proofs.lemmas.Simd.{pick_l_whole}
use Rattle.wide_lanes.proofs.read.join_fours.Goals as goal

pub returns-clause-value : goal.returns-clause-value
returns-clause-value c =
    pick_l_whole 0 (c.args.first ++ c.args.second) 8 (omega (arith, length-append c.args.first c.args.second, c.fits-first.0, c.fits-second.0))
