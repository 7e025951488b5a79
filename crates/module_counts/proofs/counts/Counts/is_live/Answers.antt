use Rattle.std.proofs.Common.{subst, IsTrue}
use Rattle.runtime_histories.specs.Deeds.{IsLive}
use Rattle.runtime_histories.specs.Entries.{deeds}
use Rattle.module_counts.specs.Counting.{Booked}
use Rattle.module_counts.proofs.Asking.{live_is}
use Rattle.module_counts.proofs.counts.Counts.is_live.Goals as goal

pub returns : goal.returns
returns c = subst (λ (z : Booked). (IsTrue c.has.result → IsLive (deeds z.journal) c.args.caller c.args.number) × (IsLive (deeds z.journal) c.args.caller c.args.number → IsTrue c.has.result)) c.self.view_is
    (live_is (deeds c.self.inside.journal.items) c.args.caller c.args.number c.self.inside.stock.live.items c.has.result c.self.invariant.stock.live_is c.has.ensures)
