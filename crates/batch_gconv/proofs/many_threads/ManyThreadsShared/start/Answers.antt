use Rattle.std.proofs.Common.{rules}
use Rattle.batch_gconv.proofs.many_threads.ManyThreadsShared.start.Goals as goal

pub returns-in-Ok-new : goal.returns-in-Ok-new
returns-in-Ok-new g c = (search rules, c.in-Ok-new.ensures.lead.0, search rules)
