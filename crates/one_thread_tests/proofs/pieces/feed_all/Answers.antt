use Rattle.std.proofs.Common.{◌-◌, drop, ◌∙◌, arith, length-take, length-drop}
use Rattle.one_thread_tests.proofs.pieces.feed_all.Goals as goal

pub loop-at-preserved : goal.loop-at-preserved
loop-at-preserved g c =
    let at = c.loop-at in
    let x = c.args.input.now in
    let end = c.min-end.result in
    let fed = c.in_ok-feed.ensures in
    record {
      recipe = fed.recipe ∙ at.invariant.recipe;
      back = record {
        same = fed.back.same ∙ at.invariant.back.same;
        ready = fed.back.ready;
        kept = g.met.C.Converter.kept_twice _ _ _ at.invariant.back.kept fed.back.kept;
      };
      taken = omega (arith, fed.taken, at.invariant.taken, length-take (end - at.at) (drop at.at x), length-drop at.at x);
      within = omega arith;
    }
