use Rattle.std.proofs.Common.{length, ◌-◌, ◌≡◌, ◌+◌, ◌≤◌, drop}
use Rattle.ascii_lanes.specs.Runs.{plain_units}
use Rattle.ascii_lanes.proofs.runs.plain_units.Given as goal

abbrev pub invariant-loop-at : goal.invariant-loop-at
invariant-loop-at l = record {
  within : l.at ≤ length l.bytes;
  rest : plain_units l.big l.bytes ≡ l.at + plain_units l.big (drop l.at l.bytes);
}

abbrev pub decreases-loop-at : goal.decreases-loop-at
decreases-loop-at l = length l.bytes - l.at
