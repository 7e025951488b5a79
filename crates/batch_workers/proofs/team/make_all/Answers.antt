use Rattle.std.proofs.Common.{arith}
use Rattle.std.proofs.lemmas.List.Elements.{All-push, All-same}
use Rattle.batch_workers.specs.Stints.{CanWork}
use Rattle.batch_workers.proofs.Making.{made-more, numbered-more}
use Rattle.batch_workers.proofs.team.make_all.Goals as goal

pub made-preserved : goal.made-preserved
made-preserved g c =
    let part = g.S.Shared.part in
    let inv = c.made.invariant in
    let e = c.in_ok-worker.ensures in
    let pushed = c.in-Ok.ensures in
    record {
      leads = e.leads;
      lead = e.splits.lead;
      can = All-same (CanWork part (g.S.Shared.knows c.args.shared.now) c.args.board.now) _ _ pushed.items
          (All-push (CanWork part (g.S.Shared.knows c.args.shared.now) c.args.board.now) _ _ inv.can e.can);
      numbered = numbered-more part c.made.workers.items c.push.new.self.items c.in_ok-worker.worker (g.S.Shared.roll c.made.lead).next pushed.items inv.numbered e.part
          (let n = inv.made.next in let k = c.made.workers.ok.0 in omega (arith, n, k));
      made = made-more c.args.board.now (g.S.Shared.roll c.made.lead) (g.S.Shared.roll c.make_one.new.lead) c.args.drawer.now c.made.drawer c.make_one.new.drawer
          c.made.workers.len c.push.new.self.len inv.made e.roll e.splits pushed.len;
      count = let k = inv.count in let m = pushed.len in omega (arith, k, m);
      room = let r = inv.room in let k = c.push.ensures.capacity in omega (arith, r, k);
    }
