use Rattle.std.proofs.Common.{◌≡◌, ap, map, take, sym, ◌∙◌}
use Rattle.text_lines.specs.Words.{words}
use Rattle.modules_conf.proofs.BindingLemmas.{Binds-row, RefusesRow-row}
use Rattle.modules_conf.proofs.binding_reader.take_line.Goals as goal

pub returns-in-Ok-clause-ok : goal.returns-in-Ok-clause-ok
returns-in-Ok-clause-ok c =
    let front : map (λ word. word.now) c.as_slice-words.result.now ≡ take 5 (words c.args.line.now) =
    ap (map (λ word. word.now)) c.as_slice-words.ensures.value ∙ c.first_words-words.ensures.value in
    Binds-row c.args.bindings.now c.take_row.new.bindings c.args.number c.args.line.now (map (λ word. word.now) c.as_slice-words.result.now) front
    (sym c.counts.ensures ∙ c.if-not-counts.false) c.in-Ok.ensures.ok

pub returns-in-Err-clause-err : goal.returns-in-Err-clause-err
returns-in-Err-clause-err c = λ other.
    let front : map (λ word. word.now) c.as_slice-words.result.now ≡ take 5 (words c.args.line.now) =
    ap (map (λ word. word.now)) c.as_slice-words.ensures.value ∙ c.first_words-words.ensures.value in
    RefusesRow-row c.args.bindings.now c.args.number c.args.line.now c.in-Err.fault (map (λ word. word.now) c.as_slice-words.result.now) front
    (sym c.counts.ensures ∙ c.if-not-counts.false) (c.in-Err.ensures.err other)
