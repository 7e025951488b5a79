use Rattle.std.proofs.Common.{arith, ◌∷◌, sym, ap, ◌∙◌, subst}
use Rattle.history_core.specs.declared.rule.Held.TheVariants.{Home}
use Rattle.atomic_table.specs.Table.{rest}
use Rattle.history_core.proofs.Steps.{release_on}
use Rattle.history_core.proofs.tokens.Hall.put_back.Goals as goal

pub swap-word-requires : goal.swap-word-requires
swap-word-requires g c =
    let own = c.requires.served in
    let now = c.exchange-found.ensures.3 in
    let k = ap (λ m. m.0) now in
    let wide = c.args.self.now.wide in (
      c.exchange-found.ensures.0 ∙ own.table,
      omega arith,
      release_on g.S.Story.setting g.S.Story.legal g.S.Story.stands g.S.Story.pinned _ _ _ _ _
          c.args.value
          (ap (λ m. m.1) now ∙ ap (λ r. (0, Home c.args.value) ∷ rest r) own.holds)
          (ap (λ v. v.setting) k ∙ own.told) (ap (λ v. v.served) k ∙ own.serves) c.requires.setting
          (subst (g.S.Story.stands c.args.value) (sym (ap (λ v. v.front) k)) c.requires.stands),
    )
