use Rattle.std.proofs.Common.{arith, ap, ◌∙◌, sym, subst, ◌<◌}
use Rattle.history_core.specs.History.{EachNumber}
use Rattle.history_core.specs.Tokens.{setting_of, front, lead_front}
use Rattle.history_core.proofs.Lists.{either_longer, mine-joined}
use Rattle.history_core.proofs.Steps.{joins, settles}
use Rattle.history_core.proofs.tokens.Hall.join.Goals as goal

pub join_seat-requires : goal.join_seat-requires
join_seat-requires g c =
    let wide = c.args.self.now.wide in
    let own = c.requires.own in
    let its = c.requires.pass in
    let p = c.args.pass in (
      own.seat.table,
      its.seat.table,
      its.seat.bare,
      omega arith,
      joins g.S.Story.setting
          g.S.Story.legal g.S.Story.stands g.S.Story.pinned _ _ _ _ _ _ own.seat.told
          c.args.lead.now.leads its.seat.told
          (λ z. let q = p.is_pass in let n = p.number_is in omega arith) its.seat.free,
    )

pub load-requires : goal.load-requires
load-requires g c =
    let wide = c.args.self.now.wide in
    let own = c.requires.own in
    let j = c.join_seat.ensures in (
      j.0 ∙ own.seat.table,
      omega arith,
      settles g.S.Story.setting g.S.Story.legal g.S.Story.stands
          g.S.Story.pinned _ _ _ _ _ _ (ap (λ m. m.0.setting) j.2 ∙ own.seat.told)
          (ap (λ m. m.0.number) j.2 ∙ c.args.lead.now.leads),
    )

pub returns-clause-own : goal.returns-clause-own
returns-clause-own g c =
    let own = c.requires.own in
    let its = c.requires.pass in
    let j = c.join_seat.ensures in
    let l = c.load.ensures in
    let t = setting_of g.S.Story.setting c.args.self.now in let e = l.2.0 ∙ j.2 in record {
      seat = record {
        table = l.0 ∙ (j.0 ∙ own.seat.table);
        told = ap (λ m. m.0.setting) e ∙ own.seat.told;
        free = ap (λ m. m.0.served) e ∙ own.seat.free;
        bare = ap (λ m. m.1) e ∙ own.seat.bare;
      };
      legal = subst (λ m. g.S.Story.legal t m.0.front) (sym e)
          (either_longer (g.S.Story.legal t) (lead_front c.args.lead.now) (front c.args.pass)
          own.legal its.legal);
      numbers = subst (λ m. EachNumber (λ k. (0 < k) × (k < m.0.given)) m.0.front) (sym l.2.0)
          l.2.4;
    }

pub returns-clause-mine : goal.returns-clause-mine
returns-clause-mine g c = let j = c.join_seat.ensures in let l = c.load.ensures in
    mine-joined _ _ _ c.join_seat.new.seat.me.0.ended c.join_seat.new.seat.me.0.front _
    (ap (λ m. m.0.ended) j.2) l.2.2 (ap (λ m. m.0.front) l.2.0)
