use Rattle.std.proofs.Common.{◌≡◌, ◌+◌, map, take}
use Rattle.outside.specs.Faults.{RoseBy}
use Rattle.batch_jobs.specs.Jobs.{line_of}
use Rattle.batch_runs.specs.Takings.{AreTaken, all_inputs, read_count, read_faults}
use Rattle.batch_alone.proofs.inputs.take_inputs.Given as goal
use Rattle.batch_alone.specs.Readings.{taking_of}

abbrev pub invariant-jobs : goal.invariant-jobs
invariant-jobs g l = record {
  taken : AreTaken (g.F.Files.outside l.initial.files).told all_inputs
      (map (λ j. j.input) (map line_of (take l.job-index l.jobs))) (map taking_of l.list.items);
  left : l.left + read_count (map taking_of l.list.items) ≡ all_inputs;
  told : (g.F.Files.outside l.files).told ≡ (g.F.Files.outside l.initial.files).told;
  puts : (g.F.Files.outside l.files).puts ≡ (g.F.Files.outside l.initial.files).puts;
  takes : RoseBy (read_faults (map taking_of l.list.items)) (g.F.Files.outside l.initial.files).takes (g.F.Files.outside l.files).takes;
}
