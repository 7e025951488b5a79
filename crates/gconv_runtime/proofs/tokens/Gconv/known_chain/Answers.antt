use Rattle.std.proofs.Common.{◌≡◌, ◌∙◌, ap, sym, subst, ℕ, List}
use Rattle.names_alias.specs.Aliases.{AliasTable}
use Rattle.pair_openings.specs.Asking.{asked_of}
use Rattle.runtime_histories.specs.declared.refusals.Asked.{Asked}
use Rattle.runtime_histories.specs.declared.refusals.Asked.TheVariants.{Good}
use Rattle.gconv_runtime.specs.Knowing.{IsKnownAs}
use Rattle.gconv_runtime.specs.Openings.{asked}
use Rattle.gconv_runtime.specs.Tokens.{front, ground}
use Rattle.gconv_runtime.specs.declared.tokens.Known.TheVariants.{Found, Unknown}
use Rattle.gconv_runtime.proofs.Learning.{found_as, unknown_as}
use Rattle.gconv_runtime.proofs.tokens.Gconv.known_chain.Goals as goal

-- A text asks for the name that was found by the runtime's own aliases.
names : (own all : AliasTable) (text name : List ℕ) (x : Asked) → own ≡ all → x ≡ asked_of own text → x ≡ Good name → Good name ≡ asked_of all text
names own all text name x same is good = sym good ∙ (is ∙ ap (λ (z : AliasTable). asked_of z text) same)

pub returns-in-Some-clause-answer : goal.returns-in-Some-clause-answer
returns-in-Some-clause-answer g c =
    let gr = ground c.args.self.now c.args.caller.now in
    let log = front c.args.caller.now in
    let own = c.args.self.now.aliases in
    let x = c.in-Good-Good.from in
    let y = c.in-Good-Good.to in
    let from_is = names own gr.setting.first.aliases c.args.from.now x c.asked-source.result c.requires.knows.aliases c.asked-source.ensures.value c.in-Good-Good.is-0 in
    let to_is = names own gr.setting.first.aliases c.args.to.now y c.asked-target.result c.requires.knows.aliases c.asked-target.ensures.value c.in-Good-Good.is-1 in
    subst (λ (z : Asked). IsKnownAs gr.setting.first.graph log z (asked c.args.self.now c.args.caller.now c.args.to.now) c.args.into.now c.chain.new.into (Found c.in-Some.found)) from_is
    (subst (λ (z : Asked). IsKnownAs gr.setting.first.graph log (Good x) z c.args.into.now c.chain.new.into (Found c.in-Some.found)) to_is
    (found_as gr.setting.first.graph log x y c.args.caller.now.view c.requires.knows.view c.in-Some.found c.args.into.now c.chain.new.into c.in-Some.ensures.answer))

pub returns-in-None-clause-answer : goal.returns-in-None-clause-answer
returns-in-None-clause-answer g c =
    let gr = ground c.args.self.now c.args.caller.now in
    let log = front c.args.caller.now in
    let own = c.args.self.now.aliases in
    let x = c.in-Good-Good.from in
    let y = c.in-Good-Good.to in
    let from_is = names own gr.setting.first.aliases c.args.from.now x c.asked-source.result c.requires.knows.aliases c.asked-source.ensures.value c.in-Good-Good.is-0 in
    let to_is = names own gr.setting.first.aliases c.args.to.now y c.asked-target.result c.requires.knows.aliases c.asked-target.ensures.value c.in-Good-Good.is-1 in
    subst (λ (z : Asked). IsKnownAs gr.setting.first.graph log z (asked c.args.self.now c.args.caller.now c.args.to.now) c.args.into.now c.chain.new.into Unknown) from_is
    (subst (λ (z : Asked). IsKnownAs gr.setting.first.graph log (Good x) z c.args.into.now c.chain.new.into Unknown) to_is
    (unknown_as gr.setting.first.graph log x y c.args.caller.now.view c.requires.knows.view c.in-None.ensures.answer.0, c.in-None.ensures.answer.1))
