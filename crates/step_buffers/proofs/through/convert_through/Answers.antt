use Rattle.std.proofs.Common.{◌≢◌, ◌+◌, length, refl, sym, ◌∙◌, arith, ap, length-drop}
use Rattle.std.proofs.lemmas.Bool.{false≢true}
use Rattle.std.proofs.lemmas.List.{take_rest}
use Rattle.code_pairs.specs.Tables.{Tables}
use Rattle.unit_relations.specs.declared.verdict.Verdict.TheVariants.{Full}
use Rattle.chain_steps.specs.Sets.{AreWellFormed}
use Rattle.step_buffers.proofs.Scratch.{written_none, written_from, converted_from, left_converted, left_written, left_short}
use Rattle.step_buffers.proofs.through.convert_through.Goals as goal

pub loop-progress-init : goal.loop-progress-init
loop-progress-init g c = record {
  within = omega arith;
  written = written_none c.runs_join.ensures.none _ _ c.args.output.now;
  back = record { same = refl; ready = c.requires.ready; kept = g.met.C.Converter.kept_none c.args.converter.now };
}

pub returns-then-not-is_full-clause-converted : goal.returns-then-not-is_full-clause-converted
returns-then-not-is_full-clause-converted g c =
    let at = c.loop-progress in
    let p = c.convert_more-progress in
    let not : p.result.verdict ≢ Full = λ e. false≢true (sym c.if-not-is_full.true ∙ c.is_full.ensures.1 e) in
    converted_from c.runs_join.ensures.both _ _ _ _ c.args.input.now at.at _ _ _ _ at.invariant.within at.invariant.written
    (left_converted _ _ _ _ _ _ _ _ p.result.consumed p.result.verdict at.invariant.back.same (take_rest c.args.input.now at.at)
    p.ensures.within p.ensures.written (p.ensures.ends not))

pub returns-then-not-is_full-clause-short : goal.returns-then-not-is_full-clause-short
returns-then-not-is_full-clause-short g c = λ legal.
    let at = c.loop-progress in
    let p = c.convert_more-progress in
    let ts : Tables = g.C.Converter.tables c.args.converter.now in
    let well : AreWellFormed ts = λ k. g.met.C.Converter.well_formed c.args.converter.now k c.requires.ready in
    let not : p.result.verdict ≢ Full = λ e. false≢true (sym c.if-not-is_full.true ∙ c.is_full.ensures.1 e) in
    left_short c.units_are_apart.ensures.cut ts well _ _ c.args.input.now _ _ (record { consumed = at.at + p.result.consumed; verdict = p.result.verdict })
    (converted_from c.runs_join.ensures.both _ _ _ _ c.args.input.now at.at _ _ _ _ at.invariant.within at.invariant.written
    (left_converted _ _ _ _ _ _ _ _ p.result.consumed p.result.verdict at.invariant.back.same (take_rest c.args.input.now at.at)
    p.ensures.within p.ensures.written (p.ensures.ends not)))
    legal

pub loop-progress-preserved : goal.loop-progress-preserved
loop-progress-preserved g c =
    let at = c.loop-progress in
    let p = c.convert_more-progress in
    let rest = ap length (take_rest c.args.input.now at.at) ∙ length-drop at.at c.args.input.now in
    record {
      within = omega (arith, p.ensures.within, at.invariant.within);
      written = written_from c.runs_join.ensures.both _ _ _ _ c.args.input.now at.at p.result.consumed _ _ _ at.invariant.written
          (left_written _ _ _ _ _ _ _ _ p.result.consumed at.invariant.back.same (take_rest c.args.input.now at.at) p.ensures.written);
      back = record {
        same = p.ensures.back.same ∙ at.invariant.back.same;
        ready = p.ensures.back.ready;
        kept = g.met.C.Converter.kept_twice _ _ _ at.invariant.back.kept p.ensures.back.kept;
      };
    }
