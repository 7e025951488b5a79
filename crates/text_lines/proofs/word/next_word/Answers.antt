use Rattle.std.proofs.Common.{refl, sym, ◌∙◌}
use Rattle.std.proofs.lemmas.Bool.{eqb-false}
use Rattle.text_lines.proofs.WordLemmas.{words-next}
use Rattle.text_lines.proofs.word.next_word.Goals as goal

pub returns-clause-found : goal.returns-clause-found
returns-clause-found c =
    let start = c.word_start.ensures in
    let end = c.word_end-end.ensures in
    words-next c.args.line.now _ c.word_start.result c.word_end-end.result refl start.same start.within start.stops
    (eqb-false _ 0 (sym c.is_empty.ensures ∙ c.if-is_empty.false)) end.within end.each end.stops
