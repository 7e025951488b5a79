-- What workers did with the jobs of a run.
use Rattle.std.specs.Prelude.{◌≡◌, ◌≤◌, ℕ, zero, suc, ◌+◌, Bool, true, false, List, [], ◌∷◌, ◌++◌, length}
use Rattle.std.specs.Prelude.{map, Option, Some, None}
use Rattle.std.specs.List.{AllByRecursion}
use Rattle.runtime_histories.specs.Settings.{Setting}
use Rattle.batch_jobs.specs.Jobs.{JobLine}
use Rattle.batch_runs.specs.declared.misses.Miss.TheVariants.{NoFile}
use Rattle.batch_runs.specs.Takings.{Taking, Got, Missed}
use Rattle.batch_runs.specs.Works.{Work, Skipped, AreWorked}
use Rattle.batch_runs.specs.Histories.{SameItems, SomeItems}
use Rattle.batch_runs.specs.Shares.{Share, AreAt, AreOwn, drawn}
use Rattle.batch_alone.specs.Readings.{length_made, work_of}
use Rattle.batch_workers.specs.Parts.{Part}
use Rattle.batch_workers.specs.declared.piece.Piece.{Piece}

-- the most bytes that a job's work makes
abbrev pub most_made : ℕ
most_made = 134217736

-- no job stands at a place
abbrev pub no_job : JobLine
no_job = record { line = 0; from = []; to = []; input = []; output = [] }

-- the job at a place, from 0
abbrev pub job_at : List JobLine → ℕ → JobLine
job_at [] place = no_job
job_at (j ∷ js) zero = j
job_at (j ∷ js) (suc place) = job_at js place

-- what was taken for the job at a place
abbrev pub taking_at : List Taking → ℕ → Taking
taking_at [] place = Missed NoFile
taking_at (t ∷ ts) zero = t
taking_at (t ∷ ts) (suc place) = taking_at ts place

-- an input was taken
abbrev pub is_got : Taking → Bool
is_got (Got x) = true
is_got (Missed miss) = false

-- the input of the job at a place was taken
abbrev pub is_taken : List Taking → ℕ → Bool
is_taken ts place = is_got (taking_at ts place)

-- the places of the jobs whose input was taken
abbrev pub taken_places : List Taking → List ℕ
taken_places [] = []
taken_places (Got x ∷ ts) = zero ∷ map suc (taken_places ts)
taken_places (Missed miss ∷ ts) = map suc (taken_places ts)

-- the places of all of a list
abbrev pub places : {A : Type 0} → List A → List ℕ
places [] = []
places (x ∷ xs) = zero ∷ map suc (places xs)

-- what a worker hands back of a job, beside the job
abbrev pub share_of : List JobLine → Piece → Share
share_of jobs d =
    record { place = d.place; job = job_at jobs d.place; work = work_of d.worked d.output.items }

-- what one worker did: its own entries, and its shares
pub record Toil : Type 0 where
  pub part : Part
  pub shares : List Share

-- the shares of all
abbrev pub shares_in : List Toil → List Share
shares_in [] = []
shares_in (t ∷ ts) = t.shares ++ shares_in ts

-- each caller's number is one more than that of the one before it
abbrev pub AreNumbered : ℕ → List Part → Type 0
AreNumbered n [] = Unit {0}
AreNumbered n (p ∷ ps) = (p.number ≡ n) × AreNumbered (n + 1) ps

-- each worker's own entries are those of its shares
abbrev pub OwnTheirs : Setting → List Toil → Type 0
OwnTheirs s ts = AllByRecursion (λ (t : Toil). AreOwn s t.part.number t.shares t.part.entries) ts

-- each share's job stands at its place
abbrev pub AreOfJobs : List JobLine → List Share → Type 0
AreOfJobs jobs ds = AllByRecursion (λ (d : Share). d.job ≡ job_at jobs d.place) ds

-- the places of shares
abbrev pub places_of : List Share → List ℕ
places_of ds = map (λ (d : Share). d.place) ds

-- the work of a job by what was taken for it and what a worker handed back
abbrev pub work_in : Taking → Option Piece → Work
work_in (Missed miss) slot = Skipped miss
work_in (Got x) None = Skipped NoFile
work_in (Got x) (Some d) = work_of d.worked d.output.items

-- the works of jobs, one for each input
abbrev pub works_in : List Taking → List (Option Piece) → List Work
works_in [] slots = []
works_in (t ∷ ts) [] = work_in t None ∷ works_in ts []
works_in (t ∷ ts) (o ∷ os) = work_in t o ∷ works_in ts os

-- the work of each job whose input was taken was handed back, and made at most so many bytes
abbrev pub IsHeld : Taking → Option Piece → Type 0
IsHeld (Missed miss) slot = Unit {0}
IsHeld (Got x) None = ⊥
IsHeld (Got x) (Some d) = length_made (work_of d.worked d.output.items) ≤ most_made

abbrev pub AreHeld : List Taking → List (Option Piece) → Type 0
AreHeld [] [] = Unit {0}
AreHeld [] (o ∷ os) = ⊥
AreHeld (t ∷ ts) [] = ⊥
AreHeld (t ∷ ts) (o ∷ os) = IsHeld t o × AreHeld ts os

-- so many workers, numbered from 1, did all jobs whose input was taken, each once: the works are
-- those that their inputs allow, and each worker's own entries are those of its shares
pub record AreDoneBy (s : Setting) (workers : ℕ) (jobs : List JobLine) (inputs : List Taking)
    (callers : List Part) (works : List Work) : Type 0 where
  pub toils : List Toil
  pub is_callers : callers ≡ map (λ (t : Toil). t.part) toils
  pub count : length callers ≡ workers
  pub numbered : AreNumbered 1 callers
  pub own : OwnTheirs s toils
  pub worked : AreWorked s jobs inputs works
  pub there : AreAt jobs works (shares_in toils)
  pub each_once : SameItems (places_of (shares_in toils)) (drawn works)

-- at most so many workers, numbered from 1, did some works of some of the jobs, each at most once
pub record AreBegunBy (s : Setting) (workers : ℕ) (jobs : List JobLine) (callers : List Part)
    : Type 0 where
  pub toils : List Toil
  pub is_callers : callers ≡ map (λ (t : Toil). t.part) toils
  pub count : length callers ≤ workers
  pub numbered : AreNumbered 1 callers
  pub own : OwnTheirs s toils
  pub of_jobs : AreOfJobs jobs (shares_in toils)
  pub once : SomeItems (places_of (shares_in toils)) (places jobs)
