use Rattle.std.proofs.Common.{◌≤◌, ◌*◌, map, take}
use Rattle.batch_jobs.specs.Jobs.{line_of}
use Rattle.batch_alone.specs.Steps.{AreDone}
use Rattle.batch_alone.proofs.one_by_one.do_jobs.Given as goal
use Rattle.batch_alone.specs.Readings.{taking_of}

abbrev pub invariant-jobs : goal.invariant-jobs
invariant-jobs g l = record {
  done : AreDone (g.B.Runtime.book l.initial.book) (g.B.Runtime.book l.book) (g.F.Files.outside l.initial.files) (g.F.Files.outside l.files)
      (take l.at (map line_of l.jobs)) (take l.at (map taking_of l.inputs)) l.outcomes.items l.sums l.totals;
  small : l.totals.written ≤ l.at * 134217736;
  low : l.totals.sum ≤ 255 * l.totals.written;
}
