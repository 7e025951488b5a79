use Rattle.std.proofs.Common.{◌≡◌, ◌+◌, ◌-◌, ◌++◌, map}
use Rattle.std.specs.List.{range_with_len}
use Rattle.outside.specs.Stored.{shelf_of}
use Rattle.batch_jobs.specs.Limits.{made_jobs}
use Rattle.batch_jobs.specs.Generated.{input_file}
use Rattle.batch_jobs.proofs.generated.input_files.Given as goal

abbrev pub invariant-jobs : goal.invariant-jobs
invariant-jobs l = map (input_file l.number) (range_with_len 1 made_jobs)
    ≡ shelf_of l.files.items ++ map (input_file l.number) (range_with_len l.job (made_jobs + 1 - l.job))
