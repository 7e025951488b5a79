use Rattle.std.proofs.Common.{◌≡◌, ◌+◌, ◌-◌, ◌++◌, map}
use Rattle.std.specs.List.{concat, range_with_len}
use Rattle.batch_jobs.specs.Limits.{made_jobs}
use Rattle.batch_jobs.specs.Generated.{job_line, jobs_text}
use Rattle.batch_jobs.proofs.made_lists.jobs_text.Given as goal

abbrev pub invariant-jobs : goal.invariant-jobs
invariant-jobs l = jobs_text ≡ l.text.items
    ++ concat (map job_line (range_with_len l.job (made_jobs + 1 - l.job)))
