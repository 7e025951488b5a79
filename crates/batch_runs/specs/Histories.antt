-- Which histories are those of a batch.
use Rattle.std.specs.Prelude.{◌≡◌, ℕ, ◌+◌, ◌≤◌, ◌==◌, max, Bool, true, false, if◌then◌else◌, List, [], ◌∷◌, ◌++◌, map, Option, Some, None}
use Rattle.runtime_histories.specs.declared.refusals.Asked.{Asked}
use Rattle.runtime_histories.specs.declared.entries.Entry.{Entry}
use Rattle.runtime_histories.specs.declared.entries.Event.{Event}
use Rattle.runtime_histories.specs.declared.entries.Event.TheVariants.{Opening, Closing}
use Rattle.runtime_histories.specs.declared.refusals.Refusal.{Refusal}
use Rattle.runtime_histories.specs.declared.entries.Reply.{Reply}
use Rattle.runtime_histories.specs.declared.entries.Reply.TheVariants.{Opened, Refused}
use Rattle.batch_jobs.specs.Jobs.{JobLine}
use Rattle.batch_runs.specs.Works.{Work, Skipped, Denied, Converted}
use Rattle.runtime_histories.specs.Settings.{Setting}
use Rattle.batch_runs.specs.Meanings.{library_fault, asked_in}
use Rattle.runtime_histories.specs.Legal.{Legal}

-- the two names that are asked for
pub record Ask : Type 0 where
  pub from : Asked
  pub to : Asked

-- an opening, as its entry and its job tell it: the names, and the refusal, if there is one
pub record Call : Type 0 where
  pub ask : Ask
  pub refusal : Option Refusal

-- the refusal of an answer
abbrev pub refusal_in : Reply → Option Refusal
refusal_in (Opened chain cost loaded modules) = None
refusal_in (Refused refusal) = Some refusal

-- the opening of an event, if it is one
abbrev pub calls_in : Event → List Call
calls_in (Opening from to reply) =
    record { ask = record { from = from; to = to }; refusal = refusal_in reply } ∷ []
calls_in (Closing number) = []

-- the openings of a history
abbrev pub calls_of : List Entry → List Call
calls_of [] = []
calls_of (e ∷ es) = calls_in e.event ++ calls_of es

-- the names of a job
abbrev pub ask_of : Setting → JobLine → Ask
ask_of s job = record { from = asked_in s job.from; to = asked_in s job.to }

-- the opening of a job's work, if it has one
abbrev pub call_of_job : Setting → JobLine → Work → List Call
call_of_job s job (Skipped miss) = []
call_of_job s job (Denied refusal) = record { ask = ask_of s job; refusal = Some refusal } ∷ []
call_of_job s job (Converted made) = record { ask = ask_of s job; refusal = None } ∷ []

-- the openings of jobs whose work is this
abbrev pub calls_of_jobs : Setting → List JobLine → List Work → List Call
calls_of_jobs s [] ws = []
calls_of_jobs s (j ∷ js) [] = []
calls_of_jobs s (j ∷ js) (w ∷ ws) = call_of_job s j w ++ calls_of_jobs s js ws

-- what items weigh, where each has a weight
abbrev pub weight : {A : Type 0} → (A → ℕ) → List A → ℕ
weight of [] = 0
weight of (x ∷ xs) = of x + weight of xs

-- the same items, each as often, in any order: they weigh the same, whatever each weighs
abbrev pub SameItems : {A : Type 0} → List A → List A → Type 0
SameItems {A} xs ys = (of : A → ℕ) → weight of xs ≡ weight of ys

-- some of the items, each at most as often: they weigh no more, whatever each weighs
abbrev pub SomeItems : {A : Type 0} → List A → List A → Type 0
SomeItems {A} xs ys = (of : A → ℕ) → weight of xs ≤ weight of ys

-- an entry and its position in the history
pub record Placed : Type 0 where
  pub at : ℕ
  pub entry : Entry

-- entries with their positions, the first of which is this
abbrev pub placed_from : ℕ → List Entry → List Placed
placed_from at [] = []
placed_from at (e ∷ es) = record { at = at; entry = e } ∷ placed_from (at + 1) es

-- the entries of one caller
abbrev pub own : ℕ → List Placed → List Placed
own caller [] = []
own caller (p ∷ ps) = if p.entry.caller == caller then p ∷ own caller ps else own caller ps

-- the position that is to be closed behind an opening with this answer
abbrev pub to_close : ℕ → Reply → Option ℕ
to_close at (Opened chain cost loaded modules) = Some at
to_close at (Refused refusal) = None

-- an event at a position stands where the one position, if any, is to be closed, and leaves the other
abbrev pub Follows : Option ℕ → ℕ → Event → Option ℕ → Type 0
Follows None at (Opening from to reply) after = after ≡ to_close at reply
Follows None at (Closing number) after = ⊥
Follows (Some first) at (Opening from to reply) after = ⊥
Follows (Some first) at (Closing number) after = (number ≡ first) × (after ≡ None)

-- each opening that was answered a number is followed at once by its closing, and each closing is
-- preceded so; before the first entry, and behind the last, this position, if any, is to be closed
abbrev pub ArePaired : Option ℕ → List Placed → Option ℕ → Type 0
ArePaired before [] after = after ≡ before
ArePaired before (p ∷ ps) after = (next : Option ℕ) × Follows before p.at p.entry.event next × ArePaired next ps after

-- callers are numbered from 1 up to the number of workers, or to 1 where there is none
pub record IsCaller (workers caller : ℕ) : Type 0 where
  pub low : 1 ≤ caller
  pub high : caller ≤ max 1 workers

-- each entry's caller is one of these
abbrev pub AreCalled : ℕ → List Entry → Type 0
AreCalled workers [] = Unit {0}
AreCalled workers (e ∷ es) = IsCaller workers e.caller × AreCalled workers es

-- a history is legal, and each caller of these workers closes at once what it has opened
pub record IsOrderly (s : Setting) (workers : ℕ) (history : List Entry) : Type 0 where
  pub legal : Legal s history
  pub pairs : (caller : ℕ) → ArePaired None (own caller (placed_from 0 history)) None
  pub callers : AreCalled workers history

-- the history of these jobs: its openings are the jobs', with their refusals, and stand in their
-- order where there is no worker
pub record IsHistory (s : Setting) (workers : ℕ) (jobs : List JobLine) (works : List Work) (history : List Entry) : Type 0 where
  pub orderly : IsOrderly s workers history
  pub openings : SameItems (calls_of history) (calls_of_jobs s jobs works)
  pub in_order : workers ≡ 0 → calls_of history ≡ calls_of_jobs s jobs works

-- the history of a run that ended early: its openings are some of the jobs', each at most once
pub record IsPart (s : Setting) (workers : ℕ) (jobs : List JobLine) (history : List Entry) : Type 0 where
  pub orderly : IsOrderly s workers history
  pub openings : SomeItems (map (λ c. c.ask) (calls_of history)) (map (ask_of s) jobs)

-- how many faults of the library an opening tells
abbrev pub told_fault : Option Refusal → ℕ
told_fault None = 0
told_fault (Some refusal) = library_fault refusal

-- how many faults of the library a history tells
abbrev pub told_faults : List Entry → ℕ
told_faults history = weight (λ c. told_fault c.refusal) (calls_of history)
