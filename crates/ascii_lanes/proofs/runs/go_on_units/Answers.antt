use Rattle.std.proofs.Common.{◌≡◌, drop, arith}
use Rattle.std.proofs.lemmas.List.{length-drop}
use Rattle.ascii_lanes.specs.Runs.{plain_units}
use Rattle.ascii_lanes.proofs.RunLemmas.{units_end}
use Rattle.ascii_lanes.proofs.runs.go_on_units.Goals as goal

pub returns : goal.returns
returns c =
    let bytes = c.args.bytes.now in
    let at = c.loop-at.at in
    let none : plain_units c.args.big (drop at bytes) ≡ 0 =
    units_end c.args.big (drop at bytes) (omega (arith, length-drop at bytes, c.loop-at-test.false, c.loop-at.invariant.within)) in
    omega (arith, c.loop-at.invariant.rest, none)
