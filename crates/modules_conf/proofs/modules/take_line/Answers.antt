use Rattle.std.proofs.Common.{◌≡◌, ap, take, map, sym, ◌∙◌, None}
use Rattle.std.proofs.lemmas.List.{length-map}
use Rattle.std.proofs.lemmas.Bool.{eqb-true, eqb-false}
use Rattle.modules_conf.specs.Modules.{conf_words}
use Rattle.modules_conf.proofs.LineLemmas.{edge_line-front, alias_line-front, words-none, words-some}
use Rattle.modules_conf.proofs.ReadingLemmas.{Takes-empty, Takes-edge, Takes-alias, Takes-passed, Refuses-edge, Refuses-alias}
use Rattle.modules_conf.proofs.modules.take_line.Goals as goal

pub returns-then-is_empty-clause-ok : goal.returns-then-is_empty-clause-ok
returns-then-is_empty-clause-ok c =
    let front : map (λ word. word.now) c.as_slice-words.result.now ≡ take 5 (conf_words c.args.line.now) =
    ap (map (λ word. word.now)) c.as_slice-words.ensures.value ∙ c.front_words-words.ensures.value in
    Takes-empty c.args.conf.now c.args.number c.args.line.now (words-none _ _ front (length-map c.as_slice-words.result.now (λ word. word.now) ∙ eqb-true _ 0 (sym c.is_empty.ensures ∙ c.if-is_empty.true)))

pub returns-in-Ok-clause-ok : goal.returns-in-Ok-clause-ok
returns-in-Ok-clause-ok c =
    let front : map (λ word. word.now) c.as_slice-words.result.now ≡ take 5 (conf_words c.args.line.now) =
    ap (map (λ word. word.now)) c.as_slice-words.ensures.value ∙ c.front_words-words.ensures.value in
    Takes-edge c.args.conf.now c.args.number c.args.line.now c.in-Some.edge _ (edge_line-front c.args.number _ _ _ front c.in-Some.ensures) c.in-Ok.ensures.ok.1

pub returns-in-Err-clause-err : goal.returns-in-Err-clause-err
returns-in-Err-clause-err c = λ other.
    let front : map (λ word. word.now) c.as_slice-words.result.now ≡ take 5 (conf_words c.args.line.now) =
    ap (map (λ word. word.now)) c.as_slice-words.ensures.value ∙ c.front_words-words.ensures.value in
    let full = c.in-Err.ensures.err other in
    Refuses-edge c.args.conf.now c.args.number c.args.line.now c.in-Some.edge (edge_line-front c.args.number _ _ _ front c.in-Some.ensures) c.requires.few full.0 c.in-Err.fault full.1

pub returns-in-Ok-push_alias-clause-ok : goal.returns-in-Ok-push_alias-clause-ok
returns-in-Ok-push_alias-clause-ok c =
    let front : map (λ word. word.now) c.as_slice-words.result.now ≡ take 5 (conf_words c.args.line.now) =
    ap (map (λ word. word.now)) c.as_slice-words.ensures.value ∙ c.front_words-words.ensures.value in
    Takes-alias c.args.conf.now c.args.number c.args.line.now c.in-Some-read_alias.alias _ (edge_line-front c.args.number _ _ None front c.in_default.ensures)
    (alias_line-front c.args.number _ _ _ front c.in-Some-read_alias.ensures) c.in-Ok-push_alias.ensures.ok.1

pub returns-in-Err-push_alias-clause-err : goal.returns-in-Err-push_alias-clause-err
returns-in-Err-push_alias-clause-err c = λ other.
    let front : map (λ word. word.now) c.as_slice-words.result.now ≡ take 5 (conf_words c.args.line.now) =
    ap (map (λ word. word.now)) c.as_slice-words.ensures.value ∙ c.front_words-words.ensures.value in
    let full = c.in-Err-push_alias.ensures.err other in
    Refuses-alias c.args.conf.now c.args.number c.args.line.now c.in-Some-read_alias.alias (edge_line-front c.args.number _ _ None front c.in_default.ensures)
    (alias_line-front c.args.number _ _ _ front c.in-Some-read_alias.ensures) c.requires.few full.0 c.in-Err-push_alias.fault full.1

pub returns-clause-ok : goal.returns-clause-ok
returns-clause-ok c =
    let front : map (λ word. word.now) c.as_slice-words.result.now ≡ take 5 (conf_words c.args.line.now) =
    ap (map (λ word. word.now)) c.as_slice-words.ensures.value ∙ c.front_words-words.ensures.value in
    Takes-passed c.args.conf.now c.args.number c.args.line.now
    (words-some _ _ front (λ none. eqb-false _ 0 (sym c.is_empty.ensures ∙ c.if-is_empty.false) (sym (length-map c.as_slice-words.result.now (λ word. word.now)) ∙ none)))
    (edge_line-front c.args.number _ _ None front c.in_default.ensures) (alias_line-front c.args.number _ _ None front c.in_default-read_alias.ensures)
