use Rattle.std.proofs.Common.{◌≡◌, ◌+◌, ◌≤◌, length, drop, take, ap, arith}
use Rattle.std.proofs.lemmas.List.{drop-drop, length-drop}
use Rattle.ascii_lanes.specs.Plain.{ArePlain}
use Rattle.ascii_lanes.specs.Runs.{ascii_run}
use Rattle.ascii_lanes.proofs.RunLemmas.{ascii_on}
use Rattle.ascii_lanes.proofs.runs.ascii_run.Goals as goal

pub loop-at-preserved : goal.loop-at-preserved
loop-at-preserved c =
    let bytes = c.args.bytes.now in
    let at = c.loop-at.at in
    let room : at + 16 ≤ length bytes = omega (arith, c.loop-at-test.true, c.loop-at.invariant.within) in
    let plain : ArePlain (take 16 (drop at bytes)) = c.is_plain.ensures c.if-is_plain.true in
    let one = ascii_on 16 (drop at bytes) (omega (arith, length-drop at bytes, room)) plain in
    let next : ascii_run (drop 16 (drop at bytes)) ≡ ascii_run (drop (at + 16) bytes) = ap ascii_run (drop-drop 16 at bytes) in
    record { within = room; rest = omega (arith, c.loop-at.invariant.rest, one, next) }
