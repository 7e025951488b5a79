use Rattle.std.proofs.Common.{take, ◌-◌, ◌+◌, ◌*◌, ◌≤◌}
use Rattle.std.specs.List.{flat_map}
use Rattle.step_unicode.specs.Utf8.{utf8}
use Rattle.wide_lanes.proofs.Utf8Lemmas.{IsLaid}
use Rattle.wide_lanes.proofs.utf8.put_slots.Given as goal

abbrev pub invariant-loop-i : goal.invariant-loop-i
invariant-loop-i l = record {
  within : l.i ≤ 8;
  few : l.end ≤ l.at + 3 * l.i;
  laid : IsLaid l.initial.output l.output l.at l.end (flat_map utf8 (take l.i l.fn.wide.points));
}

abbrev pub decreases-loop-i : goal.decreases-loop-i
decreases-loop-i l = 8 - l.i
