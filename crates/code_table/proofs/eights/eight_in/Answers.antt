use Rattle.std.proofs.Common.{◌≡◌, ◌∙◌, ℕ, List, arith, length-set, take, refl, sym, subst}
use Rattle.std.proofs.lemmas.List.{take_all}
use Rattle.code_pairs.specs.Tables.{Table}
use Rattle.code_table.specs.Eights.{IsOneAt, AreCodes}
use Rattle.code_table.specs.Images.{IsImage, IsImageOf}
use Rattle.code_table.proofs.EightLaws.{codes_next}
use Rattle.code_table.proofs.eights.eight_in.Goals as goal

pub loop-i-init : goal.loop-i-init
loop-i-init g c = record {
  few = omega arith;
  long = refl;
  some = omega arith;
  most = omega arith;
  same = refl;
  ready = c.requires.ready;
  kept = g.met.W.Words.kept_none c.args.words.now;
  codes = λ t im. refl;
}

pub one_at-requires-clause-image : goal.one_at-requires-clause-image
one_at-requires-clause-image g c =
    subst (λ ws. IsImage c.args.layout.root c.args.layout.pages ws) (sym c.loop-i.invariant.same)
    c.requires.image

pub loop-i-preserved : goal.loop-i-preserved
loop-i-preserved g c =
    let at = c.loop-i in
    let image = c.requires.image in
    let one : (t : Table) → IsImageOf t c.args.layout.root c.args.layout.pages (g.W.Words.words c.args.words.now) →
    IsOneAt t c.args.input.now at.used c.in_ok-one.one =
    λ t im. c.in_ok-one.ensures.one t
    (subst (λ ws. IsImageOf t c.args.layout.root c.args.layout.pages ws) (sym at.invariant.same) im) in
    let first = one image.0 image.1 in
    record {
      few = omega (arith, c.loop-i-test.true);
      long = length-set at.points at.i c.in_ok-one.one.point ∙ at.invariant.long;
      some = omega (arith, at.invariant.some, first.some);
      most = omega (arith, at.invariant.most, first.few);
      same = c.one_at.ensures.same ∙ at.invariant.same;
      ready = c.one_at.ensures.ready;
      kept = g.met.W.Words.kept_twice _ _ _ at.invariant.kept c.one_at.ensures.kept;
      codes = λ t im. codes_next t at.points c.args.input.now at.i at.used
          c.in_ok-one.one.used c.in_ok-one.one.point
          (omega (arith, c.loop-i-test.true, at.invariant.long)) (at.invariant.codes t im) (one t im).code (one t im).small;
    }

pub returns-clause-eight : goal.returns-clause-eight
returns-clause-eight g c = λ t im.
    let at = c.loop-i in
    let eight : at.i ≡ 8 = omega (arith, at.invariant.few, c.loop-i-test.false) in
    record {
      some = omega (arith, at.invariant.some, eight);
      within = omega (arith, at.invariant.most, eight, c.requires.some);
      codes = subst (λ (ps : List ℕ). AreCodes t ps (take at.used c.args.input.now))
          (take_all at.i at.points (omega (arith, at.invariant.long, eight))) (at.invariant.codes t im);
    }

pub returns-in_err-one-clause-kept : goal.returns-in_err-one-clause-kept
returns-in_err-one-clause-kept g c =
    g.met.W.Words.kept_twice _ _ _ c.loop-i.invariant.kept c.one_at.ensures.kept

pub overflow_add-used : goal.overflow_add-used
overflow_add-used g c =
    let at = c.loop-i in
    let image = c.requires.image in
    let one = c.in_ok-one.ensures.one image.0
    (subst (λ ws. IsImageOf image.0 c.args.layout.root c.args.layout.pages ws) (sym at.invariant.same) image.1) in
    omega (arith, at.invariant.most, c.loop-i-test.true, one.few)
