use Rattle.two_threads.proofs.Totals.{first_ended, last_ended}
use Rattle.two_threads.proofs.adding.add_by_two.Goals as goal

pub closed-requires-clause-first : goal.closed-requires-clause-first
closed-requires-clause-first g c = let f = c.join-one.ensures.first in
    first_ended _ _ _ _ _ _ _ _ _ _ c.join-2.ensures.ended c.join.ensures.ended
    c.join-2.ensures.none f.1 (f.2 c.if-first.true)

pub closed-requires-clause-second : goal.closed-requires-clause-second
closed-requires-clause-second g c = let f = c.join-one.ensures.second in
    last_ended _ _ _ _ _ _ _ c.join-2.ensures.ended c.join-2.ensures.none f.1 (f.2 c.if-second.true)
