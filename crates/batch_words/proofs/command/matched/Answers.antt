use Rattle.std.proofs.Common.{◌≡◌, ◌∙◌, ap, sym, map, string_bytes, List, rules}
use Rattle.clap.specs.Words.{App, Text, fault_of, is_simple, is_simple_and_free, matches_of}
use Rattle.batch_words.specs.Command.{the_app, is_none_of}
use Rattle.batch_words.proofs.AppLemmas.{is_free, is_plain, not_matched}
use Rattle.clap.specs.Kinds.{HasKind}
use Rattle.batch_words.proofs.command.matched.Goals as goal

pub returns-in-Ok-try_get_matches_from : goal.returns-in-Ok-try_get_matches_from
returns-in-Ok-try_get_matches_from c =
    let words : List Text = map string_bytes c.args.words.now in
    let is_app = c.in-Ok.ensures in
    let parse = c.in-Ok-try_get_matches_from.ensures in (
      ap is_none_of (ap (λ (a : App). fault_of a words) (sym is_app) ∙ parse.kinds (ap is_simple_and_free is_app ∙ is_free)),
      (parse.matches (ap is_simple is_app ∙ is_plain)).0 ∙ ap (λ (a : App). matches_of a words) is_app,
    )

pub returns-in-Err : goal.returns-in-Err
returns-in-Err c =
    let words : List Text = map string_bytes c.args.words.now in
    let is_app = c.in-Ok.ensures in
    let how = c.in-Err.ensures.kinds (ap is_simple_and_free is_app ∙ is_free) in
    not_matched words c.kind.result c.refusal_of.result c.refusal_of.ensures (search rules)
