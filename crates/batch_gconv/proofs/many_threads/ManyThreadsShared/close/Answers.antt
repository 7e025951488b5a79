use Rattle.gconv_runtime.specs.Tokens.{lead_front, lead_ground, ended_of}
use Rattle.batch_gconv.proofs.Ending.{ends_all}
use Rattle.batch_gconv.proofs.many_threads.ManyThreadsShared.close.Goals as goal

pub returns : goal.returns
returns g c =
    let e = c.close-library.ensures in
    ends_all (lead_ground c.args.self.gconv c.args.lead) (lead_front c.args.lead) (ended_of c.args.lead) (g.L.Library.holdings c.close-library.result.library) c.close-library.result.journal.items
    e.journal e.legal e.ended e.all e.blamed e.asked
