use Rattle.std.proofs.Common.{◌≡◌, ◌+◌, ◌≤◌, drop}
use Rattle.batch_jobs.specs.Reports.{good_count}
use Rattle.batch_jobs.proofs.reports.good_count.Given as goal

abbrev pub invariant-outcomes : goal.invariant-outcomes
invariant-outcomes l = (good_count l.outcomes ≡ l.good + good_count (drop l.outcome-index l.outcomes))
    × (l.good ≤ l.outcome-index)
