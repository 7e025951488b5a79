use Rattle.std.proofs.Common.{◌+◌, ◌-◌, map, arith}
use Rattle.std.specs.List.{concat, range_with_len}
use Rattle.batch_jobs.specs.Generated.{job_line, jobs_text}
use Rattle.batch_jobs.proofs.Ranges.{finished, longer, texts_first, texts_none}
use Rattle.batch_jobs.proofs.made_lists.jobs_text.Goals as goal

pub jobs-preserved : goal.jobs-preserved
jobs-preserved c = longer (jobs_text) c.jobs.text.items (job_line c.jobs.job) c.add_job.new.text.items
    (concat (map (job_line) (range_with_len c.jobs.job (65 - c.jobs.job))))
    (concat (map (job_line) (range_with_len (c.jobs.job + 1) (65 - (c.jobs.job + 1)))))
    c.jobs.invariant (texts_first (job_line) c.jobs.job 65 (omega (arith, c.jobs-test.true))) c.in_ok-add_job.ensures

pub returns : goal.returns
returns c = finished (jobs_text) c.jobs.text.items
    (concat (map (job_line) (range_with_len c.jobs.job (65 - c.jobs.job))))
    c.jobs.invariant (texts_none (job_line) c.jobs.job 65 (omega (arith, c.jobs-test.false)))
