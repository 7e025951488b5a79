use Rattle.std.proofs.Common.{map, refl}
use Rattle.batch_jobs.specs.Jobs.{line_of}
use Rattle.batch_alone.specs.Readings.{taking_of}
use Rattle.batch_workers.specs.Stints.{stint_of}
use Rattle.batch_workers.proofs.Steps.{first_stint}
use Rattle.batch_workers.proofs.worker.work_all.Goals as goal

pub draws-init : goal.draws-init
draws-init g c =
    let can = c.requires.can in record {
      can = (tt, tt);
      knows = can.knows;
      split = can.split;
      number = refl;
      stint = first_stint (g.S.Shared.base c.args.shared.now).setting (map line_of c.args.jobs.now) (map taking_of c.args.inputs.now)
          (stint_of g.S.Shared.part c.args.worker.now) can.entries can.drawn can.pieces;
      calm = can.calm;
    }
