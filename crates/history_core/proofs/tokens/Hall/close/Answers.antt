use Rattle.std.proofs.Common.{sym, ap, ◌∙◌, subst}
use mathlib.Core.Option.{some-injective}
use Rattle.history_core.proofs.Steps.{closes}
use Rattle.history_core.proofs.Held.{Home-injective}
use Rattle.history_core.proofs.tokens.Hall.close.Goals as goal

pub unreachable-requires : goal.unreachable-requires
unreachable-requires g c = let lead = c.args.lead in let own = c.requires.own in
    let z = closes g.S.Story.setting g.S.Story.legal g.S.Story.stands g.S.Story.pinned _ _ _ _ _ _
    own.seat.told lead.leads c.requires.home c.close_with-closed.ensures.values.2 in
    c.in_default.not-Home z.value (some-injective _ _ (sym c.take-held.ensures.value ∙ z.there))

pub returns-clause-stands : goal.returns-clause-stands
returns-clause-stands g c = let lead = c.args.lead in let own = c.requires.own in
    let z = closes g.S.Story.setting g.S.Story.legal g.S.Story.stands g.S.Story.pinned _ _ _ _ _ _
    own.seat.told lead.leads c.requires.home c.close_with-closed.ensures.values.2 in
    let e = Home-injective _ _ (sym (some-injective _ _ (sym c.take-held.ensures.value ∙ z.there))
    ∙ c.in-Home.is) in
    subst (λ v. g.S.Story.stands v lead.seat.me.0.front) e z.stands

pub returns-clause-setting : goal.returns-clause-setting
returns-clause-setting g c = let lead = c.args.lead in let own = c.requires.own in
    let z = closes g.S.Story.setting g.S.Story.legal g.S.Story.stands g.S.Story.pinned _ _ _ _ _ _
    own.seat.told lead.leads c.requires.home c.close_with-closed.ensures.values.2 in
    let e = Home-injective _ _ (sym (some-injective _ _ (sym c.take-held.ensures.value ∙ z.there))
    ∙ c.in-Home.is) in
    ap g.S.Story.setting (sym e) ∙ z.told

pub returns-clause-legal : goal.returns-clause-legal
returns-clause-legal g c = let lead = c.args.lead in let own = c.requires.own in
    let z = closes g.S.Story.setting g.S.Story.legal g.S.Story.stands g.S.Story.pinned _ _ _ _ _ _
    own.seat.told lead.leads c.requires.home c.close_with-closed.ensures.values.2 in
    z.legal

pub returns-clause-ended : goal.returns-clause-ended
returns-clause-ended g c = let lead = c.args.lead in let own = c.requires.own in
    let z = closes g.S.Story.setting g.S.Story.legal g.S.Story.stands g.S.Story.pinned _ _ _ _ _ _
    own.seat.told lead.leads c.requires.home c.close_with-closed.ensures.values.2 in
    z.ended

pub returns-clause-all : goal.returns-clause-all
returns-clause-all g c = let lead = c.args.lead in let own = c.requires.own in
    let z = closes g.S.Story.setting g.S.Story.legal g.S.Story.stands g.S.Story.pinned _ _ _ _ _ _
    own.seat.told lead.leads c.requires.home c.close_with-closed.ensures.values.2 in
    z.all
