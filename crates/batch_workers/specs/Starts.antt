-- How a run ends whose shared runtime was to be started.
use Rattle.std.specs.Prelude.{◌⊎◌, ℕ, List}
use Rattle.runtime_histories.specs.declared.entries.Entry.{Entry}
use Rattle.runtime_histories.specs.Settings.{Setting}
use Rattle.batch_runs.specs.declared.cause.Cause.{Cause}
use Rattle.batch_runs.specs.Meanings.{IsSettingOf}
use Rattle.batch_runs.specs.Batches.{World, report_by}
use Rattle.batch_runs.specs.Endings.{EndsBy}
use Rattle.batch_alone.specs.Starts.{Aim, IsShort, task_in}

-- the jobs were begun with so many workers, and the run ended for a cause
pub record IsBegunWith (a : Aim) (workers : ℕ) (old new : World) (cause : Cause) (history : List Entry)
    : Type 0 where
  pub setting : Setting
  pub is_setting : IsSettingOf a.conf a.bound a.folder a.pages old.library.told setting
  pub ends : EndsBy (task_in a setting workers) (report_by a.sums) old new cause history

-- that, or memory was wanting before the jobs
abbrev pub IsStartedWith : Aim → ℕ → World → World → Cause → List Entry → Type 0
IsStartedWith a workers old new cause history =
    IsShort old new cause history ⊎ IsBegunWith a workers old new cause history
