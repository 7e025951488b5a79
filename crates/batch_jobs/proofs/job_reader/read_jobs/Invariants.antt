use Rattle.std.proofs.Common.{◌≡◌, ◌+◌, ◌≤◌, length, map, All}
use Rattle.std.specs.List.{enumerate_from}
use Rattle.text_lines.specs.Lines.{lines}
use Rattle.modules_conf.specs.Bindings.{rows_among}
use Rattle.batch_jobs.specs.Limits.{most_jobs}
use Rattle.batch_jobs.specs.Jobs.{HasShortNames, jobs_of, line_of}
use Rattle.batch_jobs.specs.Reading.{jobs_behind}
use Rattle.batch_jobs.proofs.job_reader.read_jobs.Given as goal

abbrev pub decreases-loop-line : goal.decreases-loop-line
decreases-loop-line l = length l.rest

abbrev pub invariant-loop-line : goal.invariant-loop-line
invariant-loop-line l = record {
  value : jobs_of l.text ≡ jobs_behind (map line_of l.jobs.items) (rows_among (enumerate_from (l.number + 1) (lines l.rest)));
  few : length l.jobs.items ≤ most_jobs;
  short : All HasShortNames l.jobs.items;
  left : l.number + length l.rest ≤ length l.text;
}
