use Rattle.std.proofs.Common.{arith, ◌+◌, ◌++◌, ◌∷◌, [], length, sym, ap, ◌∙◌, subst}
use Rattle.history_core.specs.declared.rule.Held.TheVariants.{Home, Committing, Out}
use Rattle.history_core.specs.Rule.{Covered}
use Rattle.history_core.proofs.Steps.{commit_on, release_on}
use Rattle.history_core.proofs.Held.{has_head, put_in}
use Rattle.history_core.proofs.tokens.Hall.put_entry.Goals as goal

pub store-requires : goal.store-requires
store-requires g c =
    let wide = c.args.self.now.wide in
    let own = c.requires.served in
    let p = c.args.pass.now in
    let x = c.exchange-found.ensures in
    let now =
    put_in p.seat c.exchange-found.new.seat Out (Committing c.args.entry) own.holds x.3 in (
      x.0 ∙ own.table,
      omega arith,
      commit_on g.S.Story.setting g.S.Story.legal g.S.Story.stands g.S.Story.pinned _ _ _ _ _ _
          c.args.entry (ap (λ m. m.1) now)
          (ap (λ m. m.0.setting) now ∙ own.told) (ap (λ m. m.0.served) now ∙ own.serves)
          (λ z. let q = p.is_pass in let n = p.number_is in let e = ap (λ m. m.0.number) now in
          omega arith)
          (ap (λ n. n + 1) (p.seen_is ∙ sym (ap (λ m. length m.0.front) now)))
          (subst (λ m. g.S.Story.legal
          (g.S.Story.setting c.args.self.now.table.shared.key.value.value)
          (m.0.front ++ (m.0.number, c.args.entry) ∷ [])) (sym now) c.requires.legal)
          (subst (λ m. Covered g.S.Story.pinned
          (g.S.Story.setting c.args.self.now.table.shared.key.value.value) m.0.front
          (m.0.front ++ (m.0.number, c.args.entry) ∷ []) m.0.filled) (sym now)
          c.requires.covered),
    )

pub exchange-found-requires-2 : goal.exchange-found-requires-2
exchange-found-requires-2 g c =
    let own = c.requires.served in
    let p = c.args.pass.now in
    let x = c.exchange-found.ensures in
    let now = put_in p.seat c.exchange-found.new.seat Out (Committing c.args.entry) own.holds x.3 in
    let y = c.store.ensures in
    let then = y.2 c.args.entry (ap (λ m. m.1) now) in (
      y.0 ∙ (x.0 ∙ own.table),
      (
        Committing c.args.entry,
        has_head _ _
            (ap (λ m. m.1) then ∙ ap (λ m. m.1) now),
      ),
    )

pub swap-word-requires : goal.swap-word-requires
swap-word-requires g c =
    let wide = c.args.self.now.wide in
    let own = c.requires.served in
    let p = c.args.pass.now in
    let x = c.exchange-found.ensures in
    let now = put_in p.seat c.exchange-found.new.seat Out (Committing c.args.entry) own.holds x.3 in
    let y = c.store.ensures in
    let then = y.2 c.args.entry (ap (λ m. m.1) now) in let z = c.exchange-found-2.ensures in
    let last = put_in c.store.new.seat c.exchange-found-2.new.seat (Committing c.args.entry)
    (Home c.args.value) (ap (λ m. m.1) then ∙ ap (λ m. m.1) now) z.3 in
    let front = ap (λ m. m.0.front) last
    ∙ (ap (λ m. m.0.front) then ∙ ap (λ m. m.0.front ++ (m.0.number, c.args.entry) ∷ [])
    now) in (
      z.0 ∙ (y.0 ∙ (x.0 ∙ own.table)),
      omega arith,
      release_on g.S.Story.setting g.S.Story.legal g.S.Story.stands g.S.Story.pinned _ _ _ _ _
          c.args.value (ap (λ m. m.1) last)
          (ap (λ m. m.0.setting) last ∙ (ap (λ m. m.0.setting) then
          ∙ (ap (λ m. m.0.setting) now ∙ own.told)))
          (ap (λ m. m.0.served) last ∙ (ap (λ m. m.0.served) then
          ∙ (ap (λ m. m.0.served) now ∙ own.serves)))
          c.requires.setting
          (subst (g.S.Story.stands c.args.value) (sym front) c.requires.stands),
    )
