-- How a run ends whose runtime was to be started.
use Rattle.std.specs.Prelude.{◌≡◌, ◌⊎◌, ℕ, Bool, List, Option}
use Rattle.modules_conf.specs.declared.conf.Conf.{Conf}
use Rattle.modules_conf.specs.declared.bindings.Binding.{Binding}
use Rattle.runtime_histories.specs.declared.entries.Entry.{Entry}
use Rattle.runtime_histories.specs.Settings.{Setting}
use Rattle.batch_jobs.specs.Jobs.{Text, JobLine}
use Rattle.batch_runs.specs.declared.cause.Cause.{Cause}
use Rattle.batch_runs.specs.declared.cause.Cause.TheVariants.{Memory}
use Rattle.batch_runs.specs.Meanings.{IsSettingOf}
use Rattle.batch_runs.specs.Lines.{memory_line}
use Rattle.batch_runs.specs.Batches.{World, report_by}
use Rattle.batch_runs.specs.Endings.{Task, EndsBy}
use Rattle.batch_runs.specs.Runs.{IsUntouched}
use Rattle.batch_alone.specs.Stops.{Tells}

-- what a run in one thread is for: its configuration and bindings, the folder of the charmaps, the
-- pages of the store, the jobs, the file of the journal, and whether all bytes put are summed
pub record Aim : Type 0 where
  pub conf : Conf
  pub bound : List Binding
  pub folder : Text
  pub pages : ℕ
  pub jobs : List JobLine
  pub file : Option Text
  pub sums : Bool

-- the task that goes to so many workers
abbrev pub task_in : Aim → Setting → ℕ → Task
task_in a s workers = record { setting = s; jobs = a.jobs; workers = workers; file = a.file }

-- memory was wanting before the jobs
pub record IsShort (old new : World) (cause : Cause) (history : List Entry) : Type 0 where
  pub is_cause : cause ≡ Memory
  pub untouched : IsUntouched old new history
  pub told : Tells old.sink new.sink memory_line

-- the jobs were begun, and the run ended for a cause
pub record IsBegun (a : Aim) (old new : World) (cause : Cause) (history : List Entry) : Type 0 where
  pub setting : Setting
  pub is_setting : IsSettingOf a.conf a.bound a.folder a.pages old.library.told setting
  pub ends : (workers : ℕ) → EndsBy (task_in a setting workers) (report_by a.sums) old new cause history

-- the one or the other
abbrev pub IsStarted : Aim → World → World → Cause → List Entry → Type 0
IsStarted a old new cause history = IsShort old new cause history ⊎ IsBegun a old new cause history
