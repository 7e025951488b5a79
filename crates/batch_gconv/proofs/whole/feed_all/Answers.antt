use Rattle.std.proofs.Common.{◌≡◌, ◌+◌, ◌-◌, ◌++◌, ℕ, List, take, drop, ap, sym, ◌∙◌, subst, arith, length-take, length-drop}
use Rattle.std.proofs.Math.Seq.{take-add}
use Rattle.step_buffers.specs.Stands.{StandsFor}
use Rattle.batch_gconv.proofs.whole.feed_all.Goals as goal

pub loop-at-preserved : goal.loop-at-preserved
loop-at-preserved g c =
    let at = c.loop-at in
    let x : List ℕ = c.args.input.now in
    let end : ℕ = c.min-end.result in
    let fed = c.in_ok-feed.ensures in
    let more : at.at + (end - at.at) ≡ end = omega arith in
    let front : take end x ≡ take at.at x ++ take (end - at.at) (drop at.at x) = ap (λ k. take k x) (sym more) ∙ take-add at.at (end - at.at) x in
    record {
      recipe = fed.recipe ∙ at.invariant.recipe;
      back = record {
        same = fed.back.same ∙ at.invariant.back.same;
        ready = fed.back.ready;
        kept = g.met.C.Converter.kept_twice _ _ _ at.invariant.back.kept fed.back.kept;
      };
      stands = subst (λ z. StandsFor (g.C.Converter.tables c.feed.new.converter) (g.C.Converter.machine c.feed.new.converter) c.feed.new.self z) (sym front)
          (fed.stands (take at.at x) at.invariant.stands);
      taken = omega (arith, fed.taken, at.invariant.taken, length-take (end - at.at) (drop at.at x), length-drop at.at x);
      within = omega arith;
    }
