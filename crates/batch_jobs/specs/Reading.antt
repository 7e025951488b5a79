-- What a reader that stands between two lines of a text of jobs will answer.
use Rattle.std.specs.Prelude.{◌≡◌, ℕ, List, ◌∷◌, ◌++◌, length, Result, Ok, Err}
use Rattle.modules_conf.specs.Bindings.{Row, rows_among}
use Rattle.batch_jobs.specs.declared.jobs.JobFault.{JobFault}
use Rattle.batch_jobs.specs.Jobs.{Text, JobLine, jobs_from}

-- Jobs behind others, unless they have a fault.
abbrev pub behind : List JobLine → Result (List JobLine) JobFault → Result (List JobLine) JobFault
behind done (Ok jobs) = Ok (done ++ jobs)
behind done (Err fault) = Err fault

-- The jobs that were read, and those of the lines that are left.
abbrev pub jobs_behind : List JobLine → List Row → Result (List JobLine) JobFault
jobs_behind done lines = behind done (jobs_from (length done) lines)

-- A line takes the jobs from old to new, whatever lines follow.
abbrev pub TakesLine : List JobLine → ℕ → Text → List JobLine → Type 0
TakesLine old number line new = (ps : List (ℕ × Text))
    → jobs_behind old (rows_among ((number, line) ∷ ps)) ≡ jobs_behind new (rows_among ps)

-- A line is refused, whatever lines follow.
abbrev pub RefusesLine : List JobLine → ℕ → Text → JobFault → Type 0
RefusesLine old number line fault = (ps : List (ℕ × Text))
    → jobs_behind old (rows_among ((number, line) ∷ ps)) ≡ Err fault
