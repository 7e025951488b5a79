use Rattle.std.proofs.Common.{◌≡◌, false, map}
use Rattle.job_board.specs.Drawers.{IsSplit}
use Rattle.batch_jobs.specs.Jobs.{line_of}
use Rattle.batch_alone.specs.Readings.{taking_of}
use Rattle.batch_workers.specs.Stints.{IsStint, stint_of}
use Rattle.batch_workers.proofs.worker.work_all.Given as goal

abbrev pub invariant-draws : goal.invariant-draws
invariant-draws g l = record {
  can : (goal.iterator-draws g).can_next l.iterator' × (goal.iterator-draws g).is_finite l.iterator';
  knows : g.S.Shared.knows l.shared l.worker.caller;
  split : IsSplit l.board l.worker.drawer;
  number : (g.S.Shared.part l.worker.caller).number ≡ (g.S.Shared.part l.initial.worker.caller).number;
  stint : IsStint (g.S.Shared.base l.shared).setting (map line_of l.jobs) (map taking_of l.inputs) (stint_of g.S.Shared.part l.worker);
  calm : l.worker.wanting ≡ false;
}
