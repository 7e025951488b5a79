-- What a job's work gives, before anything is put.
use Rattle.std.specs.Prelude.{◌≡◌, ℕ, Bool, true, false, List, [], ◌∷◌, length, Option, Some, None}
use Rattle.step_buffers.specs.declared.answers.Finish.{Finish}
use Rattle.step_buffers.specs.declared.answers.Finish.TheVariants as finish
use Rattle.runtime_histories.specs.declared.refusals.Refusal.{Refusal}
use Rattle.batch_jobs.specs.Jobs.{Text, JobLine}
use Rattle.batch_jobs.specs.declared.outcomes.Outcome.{Outcome}
use Rattle.batch_jobs.specs.declared.outcomes.Outcome.TheVariants as outcome
use Rattle.batch_runs.specs.Takings.{Taking, Got, Missed}
use Rattle.batch_runs.specs.declared.misses.Miss.{Miss}
use Rattle.batch_runs.specs.declared.misses.Miss.TheVariants.{NoFile, Large, Fault}
use Rattle.runtime_histories.specs.Settings.{Setting}
use Rattle.batch_runs.specs.Meanings.{Made, is_passing, is_entered, Refuses, Makes}

-- what a job's work gives: nothing, since its input wasn't taken; the refusal of its pair; or a
-- conversion
pub data Work : Type 0 where
  Skipped : Miss → Work
  Denied : Refusal → Work
  Converted : Made → Work

-- how a job ends whose input wasn't taken
abbrev pub missed : Miss → Outcome
missed NoFile = outcome.Absent
missed Large = outcome.TooLarge
missed Fault = outcome.ReadFault

-- how a job ends whose conversion gave so many bytes
abbrev pub finished : ℕ → Finish → Outcome
finished written finish.Done = outcome.Good written
finished written (finish.Illegal at) = outcome.Illegal at
finished written (finish.Incomplete at) = outcome.Incomplete at

-- how a job ends whose bytes, if any, are put
abbrev pub outcome_of : Work → Outcome
outcome_of (Skipped miss) = missed miss
outcome_of (Denied refusal) = outcome.Refused refusal
outcome_of (Converted made) = finished (length made.bytes) made.finish

-- the bytes that are put
abbrev pub bytes_of : Work → Option Text
bytes_of (Skipped miss) = None
bytes_of (Denied refusal) = None
bytes_of (Converted made) = Some made.bytes

-- a pair may be refused so: the refusal leaves an entry, and where it isn't the library's or the
-- store's it is that of the two names
pub record MayRefuse (s : Setting) (job : JobLine) (refusal : Refusal) : Type 0 where
  pub entered : is_entered refusal ≡ true
  pub cause : is_passing refusal ≡ false → Refuses s job.from job.to refusal

-- what a job's work gives of what was taken
abbrev pub Works : Setting → JobLine → Taking → Work → Type 0
Works s job (Missed miss) work = work ≡ Skipped miss
Works s job (Got x) (Skipped miss) = ⊥
Works s job (Got x) (Denied refusal) = MayRefuse s job refusal
Works s job (Got x) (Converted made) = Makes s job.from job.to x made

-- the work of jobs, each by itself
abbrev pub AreWorked : Setting → List JobLine → List Taking → List Work → Type 0
AreWorked s [] [] [] = Unit {0}
AreWorked s [] [] (w ∷ ws) = ⊥
AreWorked s [] (t ∷ ts) ws = ⊥
AreWorked s (j ∷ js) [] ws = ⊥
AreWorked s (j ∷ js) (t ∷ ts) [] = ⊥
AreWorked s (j ∷ js) (t ∷ ts) (w ∷ ws) = Works s j t w × AreWorked s js ts ws
