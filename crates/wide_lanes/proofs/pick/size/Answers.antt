use Rattle.std.proofs.Common.{◌≤◌, count_ones, arith}
use Rattle.wide_lanes.proofs.PickLemmas.{ones_of_eight}
use Rattle.wide_lanes.proofs.pick.size.Goals as goal

pub returns-clause-few : goal.returns-clause-few
returns-clause-few c = let h : count_ones c.args.mask ≤ 8 = ones_of_eight c.args.mask c.requires in omega (arith, h)
