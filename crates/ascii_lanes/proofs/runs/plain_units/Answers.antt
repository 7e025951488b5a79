use Rattle.std.proofs.Common.{◌≡◌, ◌+◌, ◌≤◌, length, drop, take, ap, arith}
use Rattle.std.specs.Prelude.{IsTrue}
use Rattle.std.specs.List.{AllByRecursion}
use Rattle.std.proofs.lemmas.List.{drop-drop, length-drop}
use Rattle.ascii_lanes.specs.Runs.{plain_units, is_plain_unit, numbers}
use Rattle.ascii_lanes.proofs.RunLemmas.{units_on}
use Rattle.ascii_lanes.proofs.runs.plain_units.Goals as goal

pub loop-at-preserved : goal.loop-at-preserved
loop-at-preserved c =
    let bytes = c.args.bytes.now in
    let big = c.args.big in
    let at = c.loop-at.at in
    let room : at + 16 ≤ length bytes = omega (arith, c.loop-at-test.true, c.loop-at.invariant.within) in
    let plain : AllByRecursion (λ n. IsTrue (is_plain_unit n)) (numbers big (take 16 (drop at bytes))) =
    c.are_plain.ensures c.if-are_plain.true in
    let one : plain_units big (drop at bytes) ≡ 16 + plain_units big (drop 16 (drop at bytes)) =
    units_on big 8 (drop at bytes) (omega (arith, length-drop at bytes, room)) plain in
    let next : plain_units big (drop 16 (drop at bytes)) ≡ plain_units big (drop (at + 16) bytes) = ap (plain_units big) (drop-drop 16 at bytes) in
    record { within = room; rest = omega (arith, c.loop-at.invariant.rest, one, next) }
