use Rattle.std.proofs.Common.{arith, length, sym, ap, ◌∙◌}
use Rattle.history_core.specs.declared.rule.Held.TheVariants.{Home}
use Rattle.history_core.proofs.Steps.{looks_on}
use Rattle.history_core.proofs.Held.{found_is, has_head, took_of}
use Rattle.history_core.proofs.tokens.Hall.try_turn.Goals as goal

pub returns-then-ask_turn-ne0-clause-same
    : goal.returns-then-ask_turn-ne0-clause-same
returns-then-ask_turn-ne0-clause-same g c =
    let e = c.ask_turn.ensures in (e.table, e.taken c.if-ask_turn-ne0.true)

pub exchange-held-requires : goal.exchange-held-requires
exchange-held-requires g c =
    let own = c.requires.own in
    let e = c.ask_turn.ensures in
    let d = e.free c.if-ask_turn-ne0.false in
    (e.table ∙ own.table, (Home d.value, has_head _ _ (ap (λ m. m.1) d.now)))

pub load-seen-requires : goal.load-seen-requires
load-seen-requires g c =
    let wide = c.args.self.now.wide in
    let own = c.requires.own in
    let e = c.ask_turn.ensures in
    let d = e.free c.if-ask_turn-ne0.false in
    let x = c.exchange-held.ensures in
    let k = ap (λ m. m.0) x.3 ∙ ap (λ m. m.0) d.now in (
      x.0 ∙ (e.table ∙ own.table),
      omega arith,
      looks_on g.S.Story.setting g.S.Story.legal
          g.S.Story.stands g.S.Story.pinned _ _ _ _ _ (ap (λ v. v.setting) k ∙ own.told)
          (ap (λ v. v.served) k),
    )

pub unreachable-requires : goal.unreachable-requires
unreachable-requires g c =
    let own = c.requires.own in
    let e = c.ask_turn.ensures in
    let d = e.free c.if-ask_turn-ne0.false in
    c.in_default.not-Home d.value
    (sym (found_is _ (Home d.value) _ (ap (λ m. m.1) d.now) c.exchange-held.ensures.2))

pub returns-clause-took : goal.returns-clause-took
returns-clause-took g c =
    let own = c.requires.own in
    let e = c.ask_turn.ensures in
    let d = e.free c.if-ask_turn-ne0.false in
    let x = c.exchange-held.ensures in
    let l = c.load-seen.ensures in
    let same = l.2.1 in (
      took_of g.S.Story.setting g.S.Story.legal g.S.Story.stands g.S.Story.pinned _ _
          c.args.seat.now c.ask_turn.new.seat c.exchange-held.new.seat c.load-seen.new.seat
          c.exchange-held.result c.in-Home.value d own.told
          (l.0 ∙ (x.0 ∙ (e.table ∙ own.table))) x.2 x.3 same c.in-Home.is,
      l.2.0 ∙ ap (λ m. length m.0.front) (sym same),
    )
