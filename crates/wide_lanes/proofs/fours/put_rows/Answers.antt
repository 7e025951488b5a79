use Rattle.std.proofs.Common.{◌+◌, ◌*◌, ◌≤◌, ◌%◌, ◌/◌, ℕ, count_ones, length, ap, sym, ◌∙◌, subst, arith}
use Rattle.wide_lanes.specs.Ends.{by_bits, four_or_none}
use Rattle.wide_lanes.proofs.PickLemmas.{ArePut, none_put, row_put, all_put, ones_few}
use Rattle.wide_lanes.proofs.FourLemmas.{fours_count}
use Rattle.wide_lanes.proofs.fours.put_rows.Goals as goal

pub loop-i-init : goal.loop-i-init
loop-i-init c = record { within = omega arith; few = omega arith; put = none_put four_or_none 16 c.args.bytes c.args.mask c.args.output.now c.args.at }

pub put_sixteen-requires-clause-room : goal.put_sixteen-requires-clause-room
put_sixteen-requires-clause-room c = omega (arith, c.requires.room, c.loop-i.auto.output, c.loop-i.invariant.few, c.loop-i-test.true)

pub loop-i-preserved : goal.loop-i-preserved
loop-i-preserved c =
    let at = c.loop-i in
    let n = 4 * count_ones (at.left % 16) in
    let few : n ≤ 16 = let h : count_ones (at.left % 16) ≤ 4 = ones_few (at.left % 16) (omega arith) in omega (arith, h) in
    let room : at.end + 16 ≤ length at.output = omega (arith, c.requires.room, at.auto.output, at.invariant.few, c.loop-i-test.true) in
    let long : 8 * at.i + 8 ≤ length c.args.bytes = omega (arith, c.fits-bytes.0, c.loop-i-test.true) in
    record {
      within = omega (arith, c.loop-i-test.true);
      few = omega (arith, at.invariant.few, few, c.size-end.ensures.value);
      put = subst (λ (k : ℕ). ArePut four_or_none 16 c.args.bytes c.args.mask (at.i + 1) (at.left / 16) c.args.output.now c.put_sixteen.new.output c.args.at (at.end + k)) (sym c.size-end.ensures.value)
          (row_put four_or_none 16 n c.args.bytes c.args.mask at.i at.left c.args.output.now at.output c.put_sixteen.new.output c.packed-sixteen.result c.args.at at.end long few room at.invariant.put
          c.put_sixteen.ensures.front c.put_sixteen.ensures.rest (c.packed-sixteen.ensures.value ∙ ap (by_bits four_or_none (at.left % 16)) c.four_pairs.ensures) (fours_count at.left));
    }

pub returns-clause-value : goal.returns-clause-value
returns-clause-value c = (all_put four_or_none 16 c.args.bytes c.args.mask c.loop-i.i c.loop-i.left c.args.output.now c.loop-i.output c.args.at c.loop-i.end (omega (arith, c.fits-bytes.0, c.loop-i-test.false)) c.loop-i.invariant.put).place

pub returns-clause-front : goal.returns-clause-front
returns-clause-front c = (all_put four_or_none 16 c.args.bytes c.args.mask c.loop-i.i c.loop-i.left c.args.output.now c.loop-i.output c.args.at c.loop-i.end (omega (arith, c.fits-bytes.0, c.loop-i-test.false)) c.loop-i.invariant.put).front
