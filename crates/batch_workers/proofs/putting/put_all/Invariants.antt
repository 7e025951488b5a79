use Rattle.std.proofs.Common.{◌≡◌, ◌≤◌, ◌*◌, ℕ, map, take, slice_index_or}
use Rattle.batch_jobs.specs.Jobs.{line_of}
use Rattle.batch_alone.specs.Readings.{taking_of}
use Rattle.batch_workers.specs.Toils.{works_in}
use Rattle.batch_workers.specs.Settling.{ArePutAll}
use Rattle.batch_workers.proofs.putting.put_all.Given as goal

abbrev pub invariant-jobs : goal.invariant-jobs
invariant-jobs g l = record {
  done : ArePutAll (g.F.Files.outside l.initial.files) (g.F.Files.outside l.files) (take l.at (map line_of l.jobs))
      (take l.at (works_in (map taking_of l.inputs) l.initial.slots)) l.outcomes.items l.sums l.totals;
  small : l.totals.written ≤ l.at * 134217736;
  low : l.totals.sum ≤ 255 * l.totals.written;
  rest : (k : ℕ) (d : _) → l.at ≤ k → slice_index_or l.slots k d ≡ slice_index_or l.initial.slots k d;
}
