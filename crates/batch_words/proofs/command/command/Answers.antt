use Rattle.std.proofs.Common.{◌≡◌, ◌∙◌, ap, codes, true, List, ℕ}
use Rattle.std.proofs.lemmas.Result.{IfOk-weaker}
use Rattle.clap.specs.Words.{App, app_of, with_rule}
use Rattle.clap.specs.Simple.{app_of_fields}
use Rattle.clap.specs.declared.builder.command.Command.{Command}
use Rattle.batch_words.specs.Command.{the_app, no_options, option_rule}
use Rattle.batch_words.proofs.command.command.Goals as goal

abbrev add : List ℕ → App → App
add name a = with_rule a (option_rule name)

pub returns : goal.returns
unfolding the_app
returns c =
    let start : app_of c.no_binary_name-command.result ≡ no_options = ap app_of_fields c.no_binary_name-command.ensures
    ∙ ap (λ (a : App). record a { top = record a.top { no_binary_name = true } }) c.new.ensures.app in
    let one = c.in_ok-command.ensures ∙ ap (add (codes "modules")) start in
    let two = c.in_ok-command-2.ensures ∙ ap (add (codes "bindings")) one in
    let three = c.in_ok-command-3.ensures ∙ ap (add (codes "charmaps")) two in
    let four = c.in_ok-command-4.ensures ∙ ap (add (codes "jobs")) three in
    let five = c.in_ok-command-5.ensures ∙ ap (add (codes "workers")) four in
    let six = c.in_ok-command-6.ensures ∙ ap (add (codes "pages")) five in
    let seven = c.in_ok-command-7.ensures ∙ ap (add (codes "journal")) six in
    IfOk-weaker c.with_option-8.result _ _ (λ m h. h ∙ ap (add (codes "generate")) seven) c.with_option-8.ensures
