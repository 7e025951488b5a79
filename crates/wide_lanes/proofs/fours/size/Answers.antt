use Rattle.std.proofs.Common.{◌≤◌, ◌%◌, count_ones, arith}
use Rattle.wide_lanes.proofs.PickLemmas.{ones_few}
use Rattle.wide_lanes.proofs.fours.size.Goals as goal

pub returns-clause-few : goal.returns-clause-few
returns-clause-few c = let h : count_ones (c.args.mask % 16) ≤ 4 = ones_few (c.args.mask % 16) (omega arith) in omega (arith, h)
