-- A job that is cut.
use Rattle.std.proofs.Common.{◌≡◌, ◌∙◌, ◌+◌, ◌<◌, ◌≤◌, ℕ, List, [], ◌∷◌, ◌++◌, length, Option, ap, sym, subst, refl, arith, append_assoc}
use Rattle.std.specs.Prelude.{Result, Ok, Err, IsErr, MatchResult}
use Rattle.runtime_histories.specs.declared.entries.Entry.{Entry}
use Rattle.step_buffers.specs.declared.answers.Finish.TheVariants.{Done}
use Rattle.runtime_histories.specs.declared.entries.Reply.TheVariants.{Opened}
use Rattle.batch_jobs.specs.Jobs.{Text, JobLine}
use Rattle.batch_runs.specs.Takings.{Taking}
use Rattle.batch_runs.specs.Works.{Work, Converted}
use Rattle.batch_alone.specs.Steps.{Adds, IsCut, Does, IsCutBefore, Enters, OpensAndCloses}
use Rattle.batch_alone.proofs.Progress.{keeps_on}
use Rattle.runtime_histories.specs.Settings.{Setting}
use Rattle.batch_alone.specs.Books.{Book}
use Rattle.batch_runs.specs.Meanings.{opening, closing}

-- a job that was done, and whose bytes weren't put
pub cut_after : (old new : Book) (job : JobLine) (t : Taking) (w : Work) → Does old new job t w → IsCut old new job
cut_after old new job t w d = record { work = w; entries = d.entries; enters = d.enters; adds = d.adds }

-- what holds at an error
pub err_gives : {T E : Type 0} (r : Result T E) (P : T → Type 0) (Q : Type 0) → IsErr r → Q → MatchResult r P (λ _. Q)
err_gives (Ok x) P Q h q = cc
err_gives (Err e) P Q h q = q
