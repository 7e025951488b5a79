use Rattle.batch_gconv.proofs.Making.{caller_made, caller_refused}
use Rattle.batch_gconv.proofs.many_threads.ManyThreadsShared.caller.Goals as goal

pub returns-clause-made : goal.returns-clause-made
returns-clause-made g c =
    let e = c.caller.ensures in
    caller_made c.args.self.now.gconv c.args.lead.now c.caller.new.lead c.caller.result (λ z k. k.own.legal.own) e.knows e.number e.front e.none e.next e.away e.ended

pub returns-clause-err : goal.returns-clause-err
returns-clause-err g c = let e = c.caller.ensures in caller_refused c.args.lead.now c.caller.new.lead c.caller.result e.err e.ended
