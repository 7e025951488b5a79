-- How a run ends before its jobs.
use Rattle.std.specs.Prelude.{◌≡◌, ◌⊎◌, List}
use Rattle.outside.specs.Moments.{Written}
use Rattle.outside.specs.declared.sinks.Sent.{Sent}
use Rattle.batch_jobs.specs.Jobs.{Text}
use Rattle.batch_runs.specs.declared.cause.Cause.{Cause}
use Rattle.batch_runs.specs.declared.cause.Cause.TheVariants.{Input, InputFault, Memory}
use Rattle.batch_runs.specs.declared.cause.Stop.{Stop}
use Rattle.batch_runs.specs.declared.cause.Stop.TheVariants.{Refused, Faulted}
use Rattle.batch_alone.specs.declared.halt.Halt.{Halt}
use Rattle.batch_alone.specs.declared.halt.Halt.TheVariants as halt
use Rattle.batch_runs.specs.Lines.{memory_line, refused_line, fault_line}
use Rattle.batch_runs.specs.Batches.{Writes}

-- the line of a run that ended at a text
abbrev pub line_of_stop : Stop → Text
line_of_stop (Refused which fault) = refused_line which fault
line_of_stop (Faulted which) = fault_line which

-- why a run ended at a text
abbrev pub cause_of_stop : Stop → Cause
cause_of_stop (Refused which fault) = Input which fault
cause_of_stop (Faulted which) = InputFault which

-- a line was written, or some first bytes of it
abbrev pub Tells : Written → Written → Text → Type 0
Tells old new line = (answer : Sent) × Writes old new line answer

-- a run ended before its jobs, and its line was written; memory may have been wanting for the line
abbrev pub StopsRun : Written → Written → Halt → Cause → Type 0
StopsRun old new (halt.Stopped stop) cause =
    ((cause ≡ cause_of_stop stop) × Tells old new (line_of_stop stop)) ⊎ ((cause ≡ Memory) × Tells old new memory_line)
StopsRun old new halt.Memory cause = (cause ≡ Memory) × Tells old new memory_line
