use Rattle.std.proofs.Common.{length, drop, ◌-◌, ◌+◌, ◌≡◌, ◌*◌, ◌≤◌}
use Rattle.wide_lanes.specs.Ends.{by_bits, four_or_none}
use Rattle.wide_lanes.proofs.fours.total.Given as goal

abbrev pub invariant-loop-i : goal.invariant-loop-i
invariant-loop-i l = record {
  within : l.i ≤ 4;
  made : l.made + length (by_bits four_or_none l.left (drop (8 * l.i) l.fn.bytes)) ≡ length (by_bits four_or_none l.fn.mask l.fn.bytes);
  few : l.made ≤ 16 * l.i;
}

abbrev pub decreases-loop-i : goal.decreases-loop-i
decreases-loop-i l = 4 - l.i
