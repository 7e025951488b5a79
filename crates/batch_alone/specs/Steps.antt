-- What one job in one thread does to the runtime.
use Rattle.std.specs.Prelude.{◌≡◌, ℕ, ◌+◌, ◌≤◌, Bool, true, false, List, [], ◌∷◌, ◌++◌, length, sum, take}
use Rattle.runtime_histories.specs.declared.loads.Load.{Load}
use Rattle.std.specs.declared.snapshot.Snapshot.{Snapshot}
use Rattle.runtime_histories.specs.declared.entries.Entry.{Entry}
use Rattle.runtime_histories.specs.declared.entries.Reply.TheVariants.{Opened, Refused}
use Rattle.batch_jobs.specs.Jobs.{Text, JobLine}
use Rattle.batch_jobs.specs.Reports.{report_of, sum_report_of}
use Rattle.batch_runs.specs.Takings.{Taking, read_faults}
use Rattle.batch_runs.specs.Batches.{Batch, IsDone, all_good, report_by, sum_put}
use Rattle.batch_runs.specs.Works.{Work, Skipped, Denied, Converted, Works, AreWorked}
use Rattle.batch_runs.specs.Puts.{PutsOne, ArePut, bytes_put, write_fault, write_faults, written_count}
use Rattle.outside.specs.Faults.{RoseBy}
use Rattle.outside.specs.Moments.{Outside}
use Rattle.batch_jobs.specs.declared.outcomes.Outcome.{Outcome}
use Rattle.batch_runs.specs.Histories.{told_faults}
use Rattle.runtime_histories.specs.Settings.{Setting}
use Rattle.batch_alone.specs.Books.{Book, Keeps, HasAsked}
use Rattle.batch_runs.specs.Meanings.{opening, closing}
use Rattle.batch_alone.specs.declared.totals.Totals.{Totals}

-- a pair is opened at a position, and closed at once
pub record OpensAndCloses (s : Setting) (caller at : ℕ) (job : JobLine) (entries : List Entry)
    : Type 0 where
  pub chain : List ℕ
  pub cost : ℕ
  pub loaded : List Load
  pub modules : Snapshot (List ℕ)
  pub is : entries
      ≡ opening s caller job.from job.to (Opened chain cost loaded modules) ∷ closing caller at ∷ []

-- the entries of a job's work, from a position on
abbrev pub Enters : Setting → ℕ → ℕ → JobLine → Work → List Entry → Type 0
Enters s caller at job (Skipped miss) entries = entries ≡ []
Enters s caller at job (Denied refusal) entries =
    entries ≡ opening s caller job.from job.to (Refused refusal) ∷ []
Enters s caller at job (Converted made) entries = OpensAndCloses s caller at job entries

-- the runtime has these entries more, and nothing else but its library's count has changed
pub record Adds (old new : Book) (entries : List Entry) : Type 0 where
  pub journal : new.journal ≡ old.journal ++ entries
  pub live : new.live ≡ old.live
  pub keeps : Keeps old new (told_faults entries)

-- one job's work
pub record Does (old new : Book) (job : JobLine) (taken : Taking) (work : Work) : Type 0 where
  pub works : Works old.setting job taken work
  pub entries : List Entry
  pub enters : Enters old.setting 1 (length old.journal) job work entries
  pub adds : Adds old new entries
  pub asked : HasAsked old new entries

-- one job's work that wanted memory: the entries are those of some work
pub record IsCut (old new : Book) (job : JobLine) : Type 0 where
  pub work : Work
  pub entries : List Entry
  pub enters : Enters old.setting 1 (length old.journal) job work entries
  pub adds : Adds old new entries

-- bytes are so many, and, where they are summed, their values come to this
pub record AreCounted (sums : Bool) (t : Totals) (bytes : Text) : Type 0 where
  pub written : t.written ≡ length bytes
  pub sum_is : sums ≡ true → t.sum ≡ sum bytes

-- the same of all bytes that were put
pub record AreTotals (sums : Bool) (t : Totals) (works : List Work) (outcomes : List Outcome)
    : Type 0 where
  pub written : t.written ≡ written_count works outcomes
  pub sum_is : sums ≡ true → t.sum ≡ sum_put works outcomes

-- one job's work, and the put of its bytes
pub record DoesAndPuts (old new : Book) (from to : Outside) (job : JobLine) (taken : Taking)
    (sums : Bool) (outcome : Outcome) (totals : Totals) : Type 0 where
  pub work : Work
  pub does : Does old new job taken work
  pub puts : PutsOne from.told job work outcome to.told
  pub faults : RoseBy (write_fault outcome) from.puts to.puts
  pub takes : to.takes ≡ from.takes
  pub count : AreCounted sums totals (bytes_put work outcome)

-- the same, where memory was wanting: nothing was put
pub record IsCutBefore (old new : Book) (from to : Outside) (job : JobLine) : Type 0 where
  pub cut : IsCut old new job
  pub told : to.told ≡ from.told

-- the entries of the works of jobs, one after another, from a position on
abbrev pub AreEntered : Setting → ℕ → ℕ → List JobLine → List Work → List Entry → Type 0
AreEntered s caller at [] [] entries = entries ≡ []
AreEntered s caller at [] (w ∷ ws) entries = ⊥
AreEntered s caller at (j ∷ js) [] entries = ⊥
AreEntered s caller at (j ∷ js) (w ∷ ws) entries =
    (these rest : List Entry) × (entries ≡ these ++ rest)
    × Enters s caller at j w these × AreEntered s caller (at + length these) js ws rest

-- jobs were done one after another, from a runtime without entries and files to these
pub record AreDone (first last : Book) (from to : Outside) (jobs : List JobLine)
    (inputs : List Taking) (outcomes : List Outcome) (sums : Bool) (totals : Totals) : Type 0 where
  pub works : List Work
  pub worked : AreWorked first.setting jobs inputs works
  pub puts : ArePut from.told jobs works outcomes to.told
  pub entered : AreEntered first.setting 1 0 jobs works last.journal
  pub keeps : Keeps first last (told_faults last.journal)
  pub live : last.live ≡ 0
  pub asked : HasAsked first last last.journal
  pub faults : RoseBy (write_faults outcomes) from.puts to.puts
  pub takes : to.takes ≡ from.takes
  pub count : AreTotals sums totals works outcomes

-- jobs were done until memory was wanting: the outputs are those of so many first jobs, and the
-- entries those of so many
pub record AreHalted (first last : Book) (from to : Outside) (jobs : List JobLine)
    (inputs : List Taking) : Type 0 where
  pub done : ℕ
  pub works : List Work
  pub outcomes : List Outcome
  pub worked : AreWorked first.setting (take done jobs) (take done inputs) works
  pub puts : ArePut from.told (take done jobs) works outcomes to.told
  pub begun : ℕ
  pub begun_works : List Work
  pub entered : AreEntered first.setting 1 0 (take begun jobs) begun_works last.journal
  pub keeps : Keeps first last (told_faults last.journal)

-- a runtime in which nothing was opened
pub record IsFresh (book : Book) : Type 0 where
  pub empty : book.journal ≡ []
  pub live : book.live ≡ 0

-- the report of outcomes, by what was read and put
abbrev pub report_with : Bool → List Outcome → ℕ → Totals → Text
report_with false outcomes read t = report_of outcomes read t.written
report_with true outcomes read t = sum_report_of outcomes read t.written t.sum

-- the jobs of a run were done in one thread, and its report was made
pub record Settles (first last : Book) (from to : Outside) (jobs : List JobLine) (sums : Bool)
    (text : Text) (good : Bool) : Type 0 where
  pub batch : Batch
  pub done : IsDone first.setting jobs from.told to.told batch
  pub entered : AreEntered first.setting 1 0 jobs batch.works last.journal
  pub keeps : Keeps first last (told_faults last.journal)
  pub asked : HasAsked first last last.journal
  pub takes : RoseBy (read_faults batch.inputs) from.takes to.takes
  pub puts : RoseBy (write_faults batch.outcomes) from.puts to.puts
  pub is_text : text ≡ report_by sums batch
  pub is_good : good ≡ all_good batch.outcomes

-- the same, up to where memory was wanting
pub record HaltsAt (first last : Book) (from to : Outside) (jobs : List JobLine) : Type 0 where
  pub done : ℕ
  pub batch : Batch
  pub is_done : IsDone first.setting (take done jobs) from.told to.told batch
  pub begun : ℕ
  pub begun_works : List Work
  pub entered : AreEntered first.setting 1 0 (take begun jobs) begun_works last.journal
  pub keeps : Keeps first last (told_faults last.journal)
