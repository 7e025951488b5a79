-- How a run ends whose jobs were begun.
use Rattle.std.specs.Prelude.{◌≡◌, ◌⊎◌, ℕ, List, [], ◌∷◌, ◌++◌, Option, Some, None, if◌then◌else◌}
use Rattle.outside.specs.Faults.{RoseBy}
use Rattle.outside.specs.Shelves.{Shelf}
use Rattle.outside.specs.declared.sinks.Sent.{Sent}
use Rattle.outside.specs.declared.sinks.Sent.TheVariants as sent
use Rattle.runtime_histories.specs.declared.entries.Entry.{Entry}
use Rattle.batch_jobs.specs.Jobs.{Text, JobLine}
use Rattle.batch_jobs.specs.declared.outcomes.Outcome.{Outcome}
use Rattle.batch_runs.specs.declared.cause.Output.TheVariants as output
use Rattle.batch_runs.specs.declared.cause.Cause.{Cause}
use Rattle.batch_runs.specs.declared.cause.Cause.TheVariants.{Done, Jobs, Usage, Input, InputFault, OutFault, Memory}
use Rattle.batch_runs.specs.Puts.{PutsJournal}
use Rattle.batch_runs.specs.Histories.{IsPart, told_faults}
use Rattle.batch_runs.specs.Batches.{World, Batch, IsDone, RunsJobs, Writes, all_good}
use Rattle.batch_runs.specs.Lines.{memory_line}
use Rattle.runtime_histories.specs.Settings.{Setting}

-- the exit status of a cause
abbrev pub status_of : Cause → ℕ
status_of Done = 0
status_of Jobs = 1
status_of Usage = 2
status_of (Input which fault) = 3
status_of (InputFault which) = 4
status_of (OutFault which) = 5
status_of Memory = 6

-- why a run ends whose jobs ended so, and whose journal and report were answered so
abbrev pub cause_of : List Outcome → Sent → Sent → Cause
cause_of outcomes sent.Failed report = OutFault output.Journal
cause_of outcomes sent.Done sent.Failed = OutFault output.Report
cause_of outcomes sent.Done sent.Done = if all_good outcomes then Done else Jobs

-- a single line was written, or some first bytes of it
abbrev pub WritesLine : World → World → Text → Type 0
WritesLine old new line = (answer : Sent) × Writes old.sink new.sink line answer

-- what the jobs of a run are: the setting, the jobs, the number of workers, and the file that the
-- journal is put to, if one was named
pub record Task : Type 0 where
  pub setting : Setting
  pub jobs : List JobLine
  pub workers : ℕ
  pub file : Option Text

-- all jobs were done, and this report of them was written
pub record Finishes (t : Task) (report : Batch → Text) (old new : World) (cause : Cause) (history : List Entry) : Type 0 where
  pub batch : Batch
  pub put : Sent
  pub answer : Sent
  pub runs : RunsJobs t.setting t.jobs t.workers t.file old new history put batch
  pub wrote : Writes old.sink new.sink (report batch) answer
  pub is_cause : cause ≡ cause_of batch.outcomes put answer

-- memory was wanting: what was put is that of some first jobs, and the journal's file holds what these
-- left in it, or the journal's text
pub record Halts (t : Task) (old new : World) (history : List Entry) : Type 0 where
  pub front : List JobLine
  pub rest : List JobLine
  pub is_front : t.jobs ≡ front ++ rest
  pub batch : Batch
  pub between : Option Shelf
  pub done : IsDone t.setting front old.files.told between batch
  pub put_file : Option Text
  pub is_file : (put_file ≡ None) ⊎ (put_file ≡ t.file)
  pub journal : PutsJournal between put_file history sent.Done new.files.told
  pub part : IsPart t.setting t.workers t.jobs history
  pub library : RoseBy (told_faults history) old.library.faults new.library.faults
  pub wrote : WritesLine old new memory_line

-- a run whose jobs were begun ends for a cause
abbrev pub EndsBy : Task → (Batch → Text) → World → World → Cause → List Entry → Type 0
EndsBy t report old new Done history = Finishes t report old new Done history
EndsBy t report old new Jobs history = Finishes t report old new Jobs history
EndsBy t report old new Usage history = ⊥
EndsBy t report old new (Input which fault) history = ⊥
EndsBy t report old new (InputFault which) history = ⊥
EndsBy t report old new (OutFault which) history = Finishes t report old new (OutFault which) history
EndsBy t report old new Memory history = Halts t old new history
