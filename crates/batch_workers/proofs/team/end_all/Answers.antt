use Rattle.std.proofs.Common.{◌∙◌, ◌++◌, ◌||◌, ap, arith}
use Rattle.std.proofs.lemmas.List.Elements.{All-pop}
use Rattle.job_board.specs.Drawers.{drawn_by, is_drained}
use Rattle.batch_workers.specs.Parts.{Roll}
use Rattle.batch_workers.specs.Teams.{IsReady, drawn_in, filled, parts_of, pieces_in, some_drained, some_wanting, stints_of}
use Rattle.batch_workers.proofs.Ending.{away-rest, drained-rest, drawn-rest, ended-rest, length-last, numbered-rest, slots-rest, wanting-rest}
use Rattle.batch_workers.proofs.team.end_all.Goals as goal

pub workers-preserved : goal.workers-preserved
workers-preserved g c =
    let part = g.S.Shared.part in
    let all = c.workers.workers.items in
    let rest = c.pop.new.self.items in
    let w = c.in-Some.worker in
    let is = c.in-Some.ensures.items in
    let inv = c.workers.invariant in
    let e = c.end_one-wanting.ensures in
    record {
      leads = e.leads;
      lead = e.joins.lead;
      ready = (All-pop (IsReady (g.S.Shared.knows c.args.shared.now) c.args.board.now) _ _ _ c.pop.ensures.items inv.ready).0;
      numbered = numbered-rest part all rest w is inv.numbered;
      away = ap (λ (r : Roll). r.away) e.roll ∙ away-rest part all rest w (g.S.Shared.roll c.workers.lead).away is inv.numbered inv.away;
      out = let a = e.joins.away in let b = length-last part all rest w is in let o = inv.out in omega (arith, a, b, o);
      ended = ap (λ (r : Roll). parts_of part rest ++ r.ended) e.roll ∙ ended-rest part all rest w (g.S.Shared.roll c.workers.lead).ended is ∙ inv.ended;
      numbers = e.joins.numbers ∙ inv.numbers;
      drawn = drawn-rest part all rest w (drawn_by c.workers.drawer) (drawn_by c.end_one-wanting.new.drawer)
          (drawn_by c.args.drawer.now ++ drawn_in (stints_of part c.args.workers.items)) is e.joins.drawn inv.drawn;
      drained = drained-rest all rest w (is_drained c.workers.drawer) (is_drained c.end_one-wanting.new.drawer)
          (is_drained c.args.drawer.now || some_drained c.args.workers.items) is e.joins.drained inv.drained;
      slots = slots-rest part all rest w c.workers.slots c.end_one-wanting.new.slots
          (filled c.args.slots.now (pieces_in (stints_of part c.args.workers.items))) is e.slots inv.slots;
      wanting = wanting-rest part all rest w c.workers.wanting (c.workers.wanting || c.end_one-wanting.result)
          (some_wanting (stints_of part c.args.workers.items)) is (ap (λ b. c.workers.wanting || b) e.wanting) inv.wanting;
    }
