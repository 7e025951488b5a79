use Rattle.std.proofs.Common.{sym, ap, ◌∙◌, subst}
use mathlib.Core.Option.{some-injective}
use Rattle.history_core.proofs.Steps.{closes}
use Rattle.history_core.proofs.Held.{Home-Committing, Home-Out, Home-injective}
use Rattle.history_core.proofs.tokens.Hall.abandon.Goals as goal

pub returns-in-Committing-clause-none : goal.returns-in-Committing-clause-none
returns-in-Committing-clause-none g c nobody = let lead = c.args.lead in let own = c.requires in
    let z = closes g.S.Story.setting g.S.Story.legal g.S.Story.stands g.S.Story.pinned _ _ _ _ _ _
    own.seat.told lead.leads nobody c.close_with-closed.ensures.values.2 in
    Home-Committing z.value c.in-Committing.entry
    (sym (some-injective _ _ (sym c.take-held.ensures.value ∙ z.there)) ∙ c.in-Committing.is)

pub returns-in-Committing-clause-legal : goal.returns-in-Committing-clause-legal
returns-in-Committing-clause-legal g c nobody =
    absurd (returns-in-Committing-clause-none g c nobody)

pub returns-in-Out-clause-none : goal.returns-in-Out-clause-none
returns-in-Out-clause-none g c nobody = let lead = c.args.lead in let own = c.requires in
    let z = closes g.S.Story.setting g.S.Story.legal g.S.Story.stands g.S.Story.pinned _ _ _ _ _ _
    own.seat.told lead.leads nobody c.close_with-closed.ensures.values.2 in
    Home-Out z.value (sym (some-injective _ _ (sym c.take-held.ensures.value ∙ z.there))
    ∙ c.in-Out.is)

pub returns-in-Out-clause-legal : goal.returns-in-Out-clause-legal
returns-in-Out-clause-legal g c nobody = absurd (returns-in-Out-clause-none g c nobody)

pub returns-in-Home-clause-stands : goal.returns-in-Home-clause-stands
returns-in-Home-clause-stands g c nobody = let lead = c.args.lead in let own = c.requires in
    let z = closes g.S.Story.setting g.S.Story.legal g.S.Story.stands g.S.Story.pinned _ _ _ _ _ _
    own.seat.told lead.leads nobody c.close_with-closed.ensures.values.2 in
    let e = Home-injective _ _ (sym (some-injective _ _ (sym c.take-held.ensures.value ∙ z.there))
    ∙ c.in-Home.is) in (
      subst (λ v. g.S.Story.stands v lead.seat.me.0.front) e z.stands,
      ap g.S.Story.setting (sym e)
          ∙ z.told,
    )

pub returns-in-Home-clause-legal : goal.returns-in-Home-clause-legal
returns-in-Home-clause-legal g c nobody = let lead = c.args.lead in let own = c.requires in
    let z = closes g.S.Story.setting g.S.Story.legal g.S.Story.stands g.S.Story.pinned _ _ _ _ _ _
    own.seat.told lead.leads nobody c.close_with-closed.ensures.values.2 in
    z.legal
