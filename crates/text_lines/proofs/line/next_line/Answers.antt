use Rattle.std.proofs.Common.{◌∷◌, ◌∙◌, ap, take, sym, ◌+◌}
use Rattle.std.proofs.lemmas.List.{take_rest}
use Rattle.std.proofs.lemmas.Bool.{eqb-false}
use Rattle.text_lines.specs.Lines.{lines}
use Rattle.text_lines.proofs.LineLemmas.{lines-one, lines-first}
use Rattle.text_lines.proofs.line.next_line.Goals as goal

pub returns-in-None-clause-found : goal.returns-in-None-clause-found
returns-in-None-clause-found c = lines-one c.args.text.now (eqb-false _ 0 (sym c.is_empty.ensures ∙ c.if-is_empty.false)) c.in-None.ensures

pub returns-in-Some-clause-found : goal.returns-in-Some-clause-found
returns-in-Some-clause-found c =
    lines-first c.args.text.now c.in-Some.at c.in-Some.ensures.0.high c.in-Some.ensures.0.before c.in-Some.ensures.1
    ∙ ap (λ rest. take c.in-Some.at c.args.text.now ∷ lines rest) (sym (take_rest c.args.text.now (c.in-Some.at + 1)))
