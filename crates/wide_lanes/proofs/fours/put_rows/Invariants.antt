use Rattle.std.proofs.Common.{◌-◌, ◌+◌, ◌*◌, ◌≤◌}
use Rattle.wide_lanes.specs.Ends.{four_or_none}
use Rattle.wide_lanes.proofs.PickLemmas.{ArePut}
use Rattle.wide_lanes.proofs.fours.put_rows.Given as goal

abbrev pub invariant-loop-i : goal.invariant-loop-i
invariant-loop-i l = record {
  within : l.i ≤ 4;
  few : l.end ≤ l.at + 16 * l.i;
  put : ArePut four_or_none 16 l.fn.bytes l.fn.mask l.i l.left l.initial.output l.output l.fn.at l.end;
}

abbrev pub decreases-loop-i : goal.decreases-loop-i
decreases-loop-i l = 4 - l.i
