use Rattle.std.proofs.Common.{◌≡◌, ◌+◌, ◌++◌, drop}
use Rattle.batch_jobs.specs.Reports.{report_from}
use Rattle.batch_jobs.proofs.reports.lines.Given as goal

abbrev pub invariant-outcomes : goal.invariant-outcomes
invariant-outcomes l = (report_from 1 l.outcomes ≡ l.text.items ++ report_from l.number (drop l.outcome-index l.outcomes))
    × (l.number ≡ l.outcome-index + 1)
