use Rattle.std.proofs.Common.{◌+◌, ◌*◌, ◌%◌, ◌≤◌, count_ones, length, arith}
use Rattle.wide_lanes.specs.Ends.{four_or_none}
use Rattle.wide_lanes.proofs.PickLemmas.{next_length, none_left}
use Rattle.wide_lanes.proofs.FourLemmas.{fours_count}
use Rattle.wide_lanes.proofs.fours.total.Goals as goal

pub loop-i-preserved : goal.loop-i-preserved
loop-i-preserved c =
    let at = c.loop-i in
    let long : 8 * at.i + 8 ≤ length c.args.bytes = omega (arith, c.fits-bytes.0, c.loop-i-test.true) in
    let next = next_length four_or_none (4 * count_ones (at.left % 16)) c.args.bytes at.i at.left long (fours_count at.left) in
    record {
      within = omega (arith, c.loop-i-test.true);
      made = omega (arith, at.invariant.made, next, c.size-made.ensures.value);
      few = omega (arith, at.invariant.few, c.size-made.ensures.few);
    }

pub returns-clause-value : goal.returns-clause-value
returns-clause-value c = omega (arith, c.loop-i.invariant.made, none_left four_or_none c.args.bytes c.loop-i.i c.loop-i.left (omega (arith, c.fits-bytes.0, c.loop-i-test.false)))
