use Rattle.std.proofs.Common.{◌≡◌, ◌∙◌, ℕ, List, None, arith, get_or, length-set, take, refl, sym, subst}
use Rattle.std.proofs.lemmas.List.{take_all}
use Rattle.code_pairs.specs.Tables.{code_of}
use Rattle.code_table.specs.Eights.{AreCodesOf}
use Rattle.code_table.specs.Images.{IsImage, IsImageOf, IsPlane}
use Rattle.code_table.proofs.CodesLaws.{codes_next, codes_lack}
use Rattle.code_table.proofs.eights.codes_in.Goals as goal

pub loop-i-init : goal.loop-i-init
loop-i-init g c = record {
  few = omega arith;
  long = refl;
  same = refl;
  ready = c.requires.ready;
  kept = g.met.W.Words.kept_none c.args.words.now;
  codes = λ t im. tt;
}

pub bytes_in-requires-clause-image : goal.bytes_in-requires-clause-image
bytes_in-requires-clause-image g c =
    subst (λ ws. IsImage c.args.layout.root c.args.layout.pages ws) (sym c.loop-i.invariant.same)
    c.requires.image

pub bytes_in-requires-clause-plane : goal.bytes_in-requires-clause-plane
bytes_in-requires-clause-plane g c =
    subst (λ ws. IsPlane c.args.layout.root c.args.layout.plane ws) (sym c.loop-i.invariant.same)
    c.requires.plane

pub loop-i-preserved : goal.loop-i-preserved
loop-i-preserved g c =
    let at = c.loop-i in
    record {
      few = omega (arith, c.loop-i-test.true);
      long = length-set at.list at.i c.in_ok-code.code ∙ at.invariant.long;
      same = c.bytes_in.ensures.same ∙ at.invariant.same;
      ready = c.bytes_in.ensures.ready;
      kept = g.met.W.Words.kept_twice _ _ _ at.invariant.kept c.bytes_in.ensures.kept;
      codes = λ t im. codes_next t c.args.points.now at.list at.i 0 c.in_ok-code.code
          (omega (arith, c.loop-i-test.true, c.requires.eight)) (omega (arith, c.loop-i-test.true, at.invariant.long))
          (at.invariant.codes t im)
          (sym (c.in_ok-code.ensures.value t
          (subst (λ ws. IsImageOf t c.args.layout.root c.args.layout.pages ws) (sym at.invariant.same) im)));
    }

pub returns-clause-codes : goal.returns-clause-codes
returns-clause-codes g c = λ table im.
    let at = c.loop-i in
    let eight : at.i ≡ 8 = omega (arith, at.invariant.few, c.loop-i-test.false) in
    subst (λ (ps : List ℕ). AreCodesOf table ps at.list) (take_all at.i c.args.points.now (omega (arith, c.requires.eight, eight)))
    (subst (λ (cs : List (List ℕ)). AreCodesOf table (take at.i c.args.points.now) cs)
    (take_all at.i at.list (omega (arith, at.invariant.long, eight))) (at.invariant.codes table im))

pub returns-in_err-code-clause-kept : goal.returns-in_err-code-clause-kept
returns-in_err-code-clause-kept g c =
    g.met.W.Words.kept_twice _ _ _ c.loop-i.invariant.kept c.bytes_in.ensures.kept

pub returns-in_err-code-clause-codes : goal.returns-in_err-code-clause-codes
returns-in_err-code-clause-codes g c = λ t im.
    let at = c.loop-i in
    let none : code_of t (get_or c.args.points.now at.i 0) ≡ None =
    sym (c.in_err-code.ensures.value t
    (subst (λ ws. IsImageOf t c.args.layout.root c.args.layout.pages ws) (sym at.invariant.same) im)) in
    rw c.from_residual.ensures
    (codes_lack t c.args.points.now at.i 0 (omega (arith, c.loop-i-test.true, c.requires.eight)) none)
