use Rattle.std.proofs.Common.{length, take, ◌-◌, ◌≡◌, ◌*◌, ◌≤◌}
use Rattle.std.specs.List.{flat_map}
use Rattle.step_unicode.specs.Utf8.{utf8}
use Rattle.wide_lanes.proofs.utf8.total.Given as goal

abbrev pub invariant-loop-i : goal.invariant-loop-i
invariant-loop-i l = record {
  within : l.i ≤ 8;
  made : l.made ≡ length (flat_map utf8 (take l.i l.fn.wide.points));
  few : l.made ≤ 3 * l.i;
}

abbrev pub decreases-loop-i : goal.decreases-loop-i
decreases-loop-i l = 8 - l.i
