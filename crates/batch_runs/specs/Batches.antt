-- What a run finds and does with its jobs.
use Rattle.std.specs.Prelude.{◌≡◌, ℕ, ◌+◌, ◌-◌, Bool, true, false, ◌&&◌, List, [], ◌∷◌, ◌++◌, length, map, Option, Some, None, sum}
use Rattle.outside.specs.Faults.{Rose, RoseBy}
use Rattle.outside.specs.Shelves.{Shelf}
use Rattle.outside.specs.Moments.{Outside, Written, Holdings}
use Rattle.outside.specs.Sends.{Sends}
use Rattle.outside.specs.declared.sinks.Sent.{Sent}
use Rattle.outside.specs.declared.sinks.Sent.TheVariants as sent
use Rattle.runtime_histories.specs.declared.entries.Entry.{Entry}
use Rattle.batch_jobs.specs.Jobs.{Text, JobLine}
use Rattle.batch_jobs.specs.declared.outcomes.Outcome.{Outcome}
use Rattle.batch_jobs.specs.Reports.{is_good, report_of, sum_report_of}
use Rattle.batch_runs.specs.Takings.{Taking, AreTaken, all_inputs, read_count, read_faults}
use Rattle.batch_runs.specs.Works.{Work, AreWorked}
use Rattle.batch_runs.specs.Puts.{ArePut, PutsJournal, write_faults, sent_fault, bytes_put, written_count}
use Rattle.batch_runs.specs.Histories.{IsHistory, told_faults}
use Rattle.runtime_histories.specs.Settings.{Setting}
use Rattle.batch_runs.specs.Meanings.{AskedSince, HasFetched}

-- the outside at a moment: the files, the library and the sink
pub record World : Type 0 where
  pub files : Outside
  pub library : Holdings
  pub sink : Written

-- what was found and done, job by job: inputs, works and outcomes
pub record Batch : Type 0 where
  pub inputs : List Taking
  pub works : List Work
  pub outcomes : List Outcome

-- what was found and done with these jobs, over files that held this and then that
pub record IsDone (s : Setting) (jobs : List JobLine) (old new : Option Shelf) (b : Batch) : Type 0 where
  pub inputs : AreTaken old all_inputs (map (λ (j : JobLine). j.input) jobs) b.inputs
  pub works : AreWorked s jobs b.inputs b.works
  pub puts : ArePut old jobs b.works b.outcomes new

-- all jobs of a run, and its journal: what the counts of faults have risen by is what was told
pub record RunsJobs (s : Setting) (jobs : List JobLine) (workers : ℕ) (file : Option Text) (old new : World) (history : List Entry) (put : Sent) (b : Batch) : Type 0 where
  pub between : Option Shelf
  pub done : IsDone s jobs old.files.told between b
  pub journal : PutsJournal between file history put new.files.told
  pub of_jobs : IsHistory s workers jobs b.works history
  pub takes : RoseBy (read_faults b.inputs) old.files.takes new.files.takes
  pub puts : RoseBy (write_faults b.outcomes + sent_fault put) old.files.puts new.files.puts
  pub library : RoseBy (told_faults history) old.library.faults new.library.faults
  pub held : new.library.told ≡ old.library.told
  pub asked : AskedSince (HasFetched s workers history) old.library.paths new.library.paths

-- every outcome is good
abbrev pub all_good : List Outcome → Bool
all_good [] = true
all_good (o ∷ os) = is_good o && all_good os

-- the report of a run: a line for each job, and the summary
abbrev pub plain_report : Batch → Text
plain_report b =
    report_of b.outcomes (read_count b.inputs) (written_count b.works b.outcomes)

-- the sum of the values of all bytes that were put
abbrev pub sum_put : List Work → List Outcome → ℕ
sum_put [] es = 0
sum_put (w ∷ ws) [] = 0
sum_put (w ∷ ws) (e ∷ es) = sum (bytes_put w e) + sum_put ws es

-- the report of a run whose input the program made itself: the summary, and the sum
abbrev pub sum_report : Batch → Text
sum_report b = sum_report_of b.outcomes (read_count b.inputs) (written_count b.works b.outcomes)
    (sum_put b.works b.outcomes)

-- the one report or the other
abbrev pub report_by : Bool → Batch → Text
report_by false = plain_report
report_by true = sum_report

-- a text was written after what the sink had got: whole, or some first bytes of it where its count
-- of faults rose
pub record Writes (old new : Written) (text : Text) (answer : Sent) : Type 0 where
  pub sent : Sends old.got new.got text answer
  pub cause : RoseBy (sent_fault answer) old.faults new.faults
