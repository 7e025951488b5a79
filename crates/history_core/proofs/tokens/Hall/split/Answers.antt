use Rattle.std.proofs.Common.{arith, ap, ◌∙◌, sym, subst, ◌<◌, ◌≢◌}
use Rattle.history_core.specs.History.{EachNumber}
use Rattle.history_core.specs.Tokens.{setting_of, lead_front, next_number}
use Rattle.history_core.proofs.Lists.{each_apart, each_more}
use Rattle.history_core.proofs.Steps.{splits}
use Rattle.history_core.proofs.tokens.Hall.split.Goals as goal

pub split_seat-seat-requires : goal.split_seat-seat-requires
split_seat-seat-requires g c = let wide = c.args.self.now.wide in let own = c.requires.own in (
  own.seat.table,
  omega arith,
  splits g.S.Story.setting g.S.Story.legal g.S.Story.stands
      g.S.Story.pinned _ _ _ _ own.seat.told c.args.lead.now.leads,
)

pub returns-clause-own : goal.returns-clause-own
returns-clause-own g c =
    let own = c.requires.own in
    let s = c.split_seat-seat.ensures in
    let e = s.2 in
    record {
      seat = record {
        table = s.0 ∙ own.seat.table;
        told = ap (λ m. m.0.setting) e ∙ own.seat.told;
        free = ap (λ m. m.0.served) e ∙ own.seat.free;
        bare = ap (λ m. m.1) e ∙ own.seat.bare;
      };
      legal = subst (λ m. g.S.Story.legal (setting_of g.S.Story.setting c.args.self.now) m.0.front)
          (sym e) own.legal;
      numbers = subst (λ m. EachNumber (λ k. (0 < k) × (k < m.0.given)) m.0.front) (sym e)
          (each_more (next_number c.args.lead.now) (lead_front c.args.lead.now) own.numbers);
    }

pub returns-clause-none : goal.returns-clause-none
returns-clause-none g c = let own = c.requires.own in let s = c.split_seat-seat.ensures in
    subst (λ m. EachNumber (λ k. k ≢ m.0.number) m.0.front) (sym s.4)
    (each_apart (next_number c.args.lead.now) (lead_front c.args.lead.now) own.numbers)
