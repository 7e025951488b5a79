use Rattle.std.proofs.Common.{arith}
use Rattle.history_core.proofs.Steps.{fills_word}
use Rattle.history_core.proofs.tokens.Hall.fill_in.Goals as goal

pub store-requires : goal.store-requires
store-requires g c =
    let wide = c.args.self.now.wide in
    let inside = c.requires.inside in
    let own = c.requires.served in (
      own.table,
      omega arith,
      fills_word g.S.Story.setting g.S.Story.legal g.S.Story.stands
          g.S.Story.pinned _ _ _ _ c.args.place c.args.word _ _ own.told own.serves inside
          c.requires.free,
    )
