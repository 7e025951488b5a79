use Rattle.std.proofs.Common.{◌≡◌, ◌∙◌, ◌<◌, sym, subst, ap, length, ℕ, inl, Option, Some, IfSome}
use Rattle.std.proofs.lemmas.List.Elements.{All-pop}
use Rattle.derivation_cache.specs.Known.{Known, none_known}
use Rattle.runtime_room.specs.Published.{published}
use Rattle.gconv_runtime.specs.Tokens.{lead_front, lead_ground}
use Rattle.gconv_runtime.proofs.Learning.{learns_all, may_learn}
use Rattle.gconv_runtime.proofs.Living.{none_live}
use Rattle.gconv_runtime.proofs.tokens.Gconv.caller.Goals as goal

-- What an option has meets what it is said to meet.
had : (P : Known → Type 0) (o : Option Known) (k : Known) → o ≡ Some k → IfSome o P → P k
had P o k is h = subst (λ (z : Option Known). IfSome z P) is h

pub learn-requires : goal.learn-requires
learn-requires g c =
    let lead = c.args.lead.now in
    let graph = (lead_ground c.args.self.now lead).setting.first.graph in
    let none = had (λ k. k ≡ none_known graph) c.pop.result c.in_ok-view.view c.in_ok-view.ensures.ok_part
    (All-pop (λ (k : Known). k ≡ none_known graph) lead.views.items c.pop.new.self.items c.pop.result c.pop.ensures.items c.requires.lead.views).1 in
    let told = had (λ k. k ≡ lead.told) c.share-2.result c.in_ok-heard.heard c.in_ok-heard.ensures.ok_part c.share-2.ensures in
    inl (may_learn graph (lead_front lead) c.in_ok-view.view c.in_ok-heard.heard none (told ∙ c.requires.lead.told))

pub returns-clause-lead : goal.returns-clause-lead
returns-clause-lead g c =
    let lead = c.args.lead.now in
    let graph = (lead_ground c.args.self.now lead).setting.first.graph in
    record {
      own = c.split.ensures.own;
      room = c.requires.lead.room;
      aliases = c.requires.lead.aliases;
      views = (All-pop (λ (k : Known). k ≡ none_known graph) lead.views.items c.pop.new.self.items c.pop.result c.pop.ensures.items c.requires.lead.views).0;
      told = c.requires.lead.told ∙ ap (published graph) (sym c.split.ensures.same.0);
    }

pub returns-clause-knows : goal.returns-clause-knows
returns-clause-knows g c =
    let lead = c.args.lead.now in
    let graph = (lead_ground c.args.self.now lead).setting.first.graph in
    let none = had (λ k. k ≡ none_known graph) c.pop.result c.in_ok-view.view c.in_ok-view.ensures.ok_part
    (All-pop (λ (k : Known). k ≡ none_known graph) lead.views.items c.pop.new.self.items c.pop.result c.pop.ensures.items c.requires.lead.views).1 in
    let heard = had (λ k. k ≡ lead.told) c.share-2.result c.in_ok-heard.heard c.in_ok-heard.ensures.ok_part c.share-2.ensures in
    let told = had (λ k. k ≡ lead.told) c.share.result c.in_ok-told.told c.in_ok-told.ensures.ok_part c.share.ensures in
    let f = c.in_ok-pass.ensures in
    let seen = ap (published graph) (sym f.front) in
    record {
      own = f.pass;
      some = subst (λ (n : ℕ). 0 < n) c.number-number.ensures.value c.number-number.ensures.some;
      count = sym (ap length (none_live _ _ f.pass.legal.own f.none));
      room = c.requires.lead.room;
      aliases = c.requires.lead.aliases;
      view = c.learn.ensures.longer ∙ (learns_all graph (lead_front lead) c.in_ok-view.view c.in_ok-heard.heard none (heard ∙ c.requires.lead.told) ∙ seen);
      told = told ∙ (c.requires.lead.told ∙ seen);
    }
