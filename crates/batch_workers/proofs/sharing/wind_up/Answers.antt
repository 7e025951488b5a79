use Rattle.batch_workers.specs.Teams.{some_drained, stints_of}
use Rattle.batch_workers.proofs.Boards.{draws-of}
use Rattle.batch_workers.proofs.sharing.wind_up.Goals as goal

pub returns-clause-draws : goal.returns-clause-draws
returns-clause-draws g c =
    draws-of c.args.drawer c.end_all-wanting.new.drawer (stints_of g.S.Shared.part c.args.workers.items) (some_drained c.args.workers.items) c.settle-left.result
    c.requires.none c.end_all-wanting.ensures.joined c.end_all-wanting.ensures.drained c.settle-left.ensures.left c.settle-left.ensures.drained
