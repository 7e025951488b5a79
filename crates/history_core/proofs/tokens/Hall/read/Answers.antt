use Rattle.std.proofs.Common.{arith}
use Rattle.history_core.proofs.Steps.{reads_word}
use Rattle.history_core.proofs.tokens.Hall.read.Goals as goal

pub load-requires : goal.load-requires
load-requires g c =
    let wide = c.args.self.now.wide in
    let inside = c.requires.inside in
    let own = c.requires.own in
    let pass = c.args.pass.now.is_pass in
    let is = c.args.pass.now.number_is in (
      own.seat.table,
      omega arith,
      reads_word g.S.Story.setting g.S.Story.legal g.S.Story.stands
          g.S.Story.pinned _ _ (g.S.Story.stays _) _ _ c.args.place _ _ own.seat.told (omega arith),
    )
