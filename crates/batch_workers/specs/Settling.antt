-- What a run with workers puts, and how its jobs end.
use Rattle.std.specs.Prelude.{◌≡◌, ℕ, Bool, List, map, take}
use Rattle.outside.specs.Faults.{RoseBy}
use Rattle.outside.specs.Moments.{Outside}
use Rattle.runtime_histories.specs.Settings.{Setting}
use Rattle.batch_jobs.specs.Jobs.{Text, JobLine}
use Rattle.batch_jobs.specs.declared.outcomes.Outcome.{Outcome}
use Rattle.batch_runs.specs.Takings.{Taking, AreTaken, all_inputs, read_faults}
use Rattle.batch_runs.specs.Works.{Work}
use Rattle.batch_runs.specs.Puts.{ArePut, PutsOne, bytes_put, write_fault, write_faults}
use Rattle.batch_runs.specs.Batches.{all_good, report_by}
use Rattle.batch_alone.specs.Steps.{AreCounted, AreTotals}
use Rattle.batch_alone.specs.declared.totals.Totals.{Totals}
use Rattle.batch_workers.specs.Parts.{Part}
use Rattle.batch_workers.specs.Toils.{AreDoneBy}

-- a job's bytes were put, and it ended so
pub record PutsNext (from to : Outside) (job : JobLine) (work : Work) (outcome : Outcome)
    (sums : Bool) (totals : Totals) : Type 0 where
  pub puts : PutsOne from.told job work outcome to.told
  pub faults : RoseBy (write_fault outcome) from.puts to.puts
  pub takes : to.takes ≡ from.takes
  pub count : AreCounted sums totals (bytes_put work outcome)

-- the bytes of these works were put, one job after another
pub record ArePutAll (from to : Outside) (jobs : List JobLine) (works : List Work)
    (outcomes : List Outcome) (sums : Bool) (totals : Totals) : Type 0 where
  pub puts : ArePut from.told jobs works outcomes to.told
  pub faults : RoseBy (write_faults outcomes) from.puts to.puts
  pub takes : to.takes ≡ from.takes
  pub count : AreTotals sums totals works outcomes

-- the bytes of so many first works were put, and then memory was wanting
pub record ArePutSome (from to : Outside) (jobs : List JobLine) (works : List Work) : Type 0 where
  pub done : ℕ
  pub outcomes : List Outcome
  pub puts : ArePut from.told (take done jobs) (take done works) outcomes to.told

-- the bytes of all works were put, and the report of them was made
pub record IsSettled (from to : Outside) (jobs : List JobLine) (inputs : List Taking)
    (works : List Work) (sums : Bool) (text : Text) (good : Bool) : Type 0 where
  pub outcomes : List Outcome
  pub puts : ArePut from.told jobs works outcomes to.told
  pub faults : RoseBy (write_faults outcomes) from.puts to.puts
  pub takes : to.takes ≡ from.takes
  pub is_text : text ≡ report_by sums (record { inputs = inputs; works = works; outcomes = outcomes })
  pub is_good : good ≡ all_good outcomes

-- all inputs were taken, and the jobs were done by so many workers
pub record AreTakenAndDone (s : Setting) (workers : ℕ) (from to : Outside) (jobs : List JobLine)
    (callers : List Part) (inputs : List Taking) (works : List Work) : Type 0 where
  pub taken : AreTaken from.told all_inputs (map (λ (j : JobLine). j.input) jobs) inputs
  pub takes : RoseBy (read_faults inputs) from.takes to.takes
  pub done : AreDoneBy s workers jobs inputs callers works
