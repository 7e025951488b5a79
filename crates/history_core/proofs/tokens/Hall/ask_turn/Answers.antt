use Rattle.std.proofs.Common.{arith, sym, ap, ◌∙◌}
use Rattle.history_core.proofs.Steps.{take_on, claim_on}
use Rattle.history_core.proofs.tokens.Hall.ask_turn.Goals as goal

pub compare_exchange-requires : goal.compare_exchange-requires
compare_exchange-requires g c =
    let wide = c.args.self.now.wide in
    let own = c.requires.own in
    let pass = c.requires.pass in (
      own.table,
      omega arith,
      take_on g.S.Story.setting g.S.Story.legal g.S.Story.stands
          g.S.Story.pinned _ _ _ _ _ own.told (λ z. omega arith) own.bare,
    )

pub swap-requires : goal.swap-requires
swap-requires g c =
    let wide = c.args.self.now.wide in
    let own = c.requires.own in
    let pass = c.requires.pass in (
      own.table,
      omega arith,
      claim_on g.S.Story.setting g.S.Story.legal g.S.Story.stands
          g.S.Story.pinned _ _ _ _ _ own.told (λ z. omega arith) own.bare,
    )

pub returns-then-sleeps-clause-taken : goal.returns-then-sleeps-clause-taken
returns-then-sleeps-clause-taken g c =
    let own = c.requires.own in (c.swap.ensures.2 _ own.told own.bare).1

pub returns-else-sleeps-clause-taken : goal.returns-else-sleeps-clause-taken
returns-else-sleeps-clause-taken g c =
    let own = c.requires.own in (c.compare_exchange.ensures.2 _ own.told own.bare).1
