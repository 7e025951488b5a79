-- What workers share: each one's jobs, its own entries, and whose the jobs are.
use Rattle.std.specs.Prelude.{◌≡◌, ℕ, suc, zero, ◌+◌, ◌≤◌, List, [], ◌∷◌, ◌++◌, map}
use Rattle.runtime_histories.specs.declared.loads.Load.{Load}
use Rattle.std.specs.declared.snapshot.Snapshot.{Snapshot}
use Rattle.runtime_histories.specs.declared.entries.Entry.{Entry}
use Rattle.runtime_histories.specs.declared.entries.Reply.TheVariants.{Opened, Refused}
use Rattle.batch_jobs.specs.Jobs.{JobLine}
use Rattle.batch_runs.specs.Works.{Work, Skipped, Denied, Converted}
use Rattle.batch_runs.specs.Histories.{Placed, placed_from, own, SameItems}
use Rattle.runtime_histories.specs.Settings.{Setting}
use Rattle.batch_runs.specs.Meanings.{opening, closing}
use Rattle.runtime_histories.specs.Legal.{Legal}

-- what a worker hands back of a job: its place among the jobs, from 0, the job, and its work
pub record Share : Type 0 where
  pub place : ℕ
  pub job : JobLine
  pub work : Work

-- an entry at a position
abbrev pub placed : ℕ → Entry → Placed
placed at entry = record { at = at; entry = entry }

-- a pair that was opened at one position, and closed at another
pub record IsOpenedAndClosed (s : Setting) (caller : ℕ) (job : JobLine) (entries : List Placed) : Type 0 where
  pub at : ℕ
  pub behind : ℕ
  pub chain : List ℕ
  pub cost : ℕ
  pub loaded : List Load
  pub modules : Snapshot (List ℕ)
  pub is : entries ≡ placed at (opening s caller job.from job.to (Opened chain cost loaded modules)) ∷ placed behind (closing caller at) ∷ []

-- the entries that a caller has of a job's work, wherever they stand
abbrev pub IsOwnOf : Setting → ℕ → JobLine → Work → List Placed → Type 0
IsOwnOf s caller job (Skipped miss) entries = entries ≡ []
IsOwnOf s caller job (Denied refusal) entries =
    (at : ℕ) × (entries ≡ placed at (opening s caller job.from job.to (Refused refusal)) ∷ [])
IsOwnOf s caller job (Converted made) entries = IsOpenedAndClosed s caller job entries

-- the entries that a caller has of its shares, one after another
abbrev pub AreOwn : Setting → ℕ → List Share → List Placed → Type 0
AreOwn s caller [] entries = entries ≡ []
AreOwn s caller (d ∷ ds) entries = (these rest : List Placed) × (entries ≡ these ++ rest)
    × IsOwnOf s caller d.job d.work these × AreOwn s caller ds rest

-- the shares of all workers
abbrev pub all_shares : ℕ → (ℕ → List Share) → List Share
all_shares zero shares = []
all_shares (suc n) shares = all_shares n shares ++ shares (suc n)

-- the places of works that were drawn: those whose input was taken
abbrev pub drawn : List Work → List ℕ
drawn [] = []
drawn (Skipped miss ∷ ws) = map suc (drawn ws)
drawn (Denied refusal ∷ ws) = zero ∷ map suc (drawn ws)
drawn (Converted made ∷ ws) = zero ∷ map suc (drawn ws)

-- the jobs and the works have these at a place
abbrev pub HaveAt : List JobLine → List Work → ℕ → JobLine → Work → Type 0
HaveAt [] ws place job work = ⊥
HaveAt (j ∷ js) [] place job work = ⊥
HaveAt (j ∷ js) (w ∷ ws) zero job work = (job ≡ j) × (work ≡ w)
HaveAt (j ∷ js) (w ∷ ws) (suc place) job work = HaveAt js ws place job work

-- each share's job and work stand at its place
abbrev pub AreAt : List JobLine → List Work → List Share → Type 0
AreAt jobs works [] = Unit {0}
AreAt jobs works (d ∷ ds) = HaveAt jobs works d.place d.job d.work × AreAt jobs works ds

-- every entry's caller is one of the workers
abbrev pub AreOfWorkers : ℕ → List Entry → Type 0
AreOfWorkers workers [] = Unit {0}
AreOfWorkers workers (e ∷ es) = ((1 ≤ e.caller) × (e.caller ≤ workers)) × AreOfWorkers workers es

-- what is known when all workers have handed back their shares: each one's own entries are those of
-- its shares, and the places drawn are those whose input was taken, each once
pub record IsShared (s : Setting) (workers : ℕ) (jobs : List JobLine) (works : List Work) (shares : ℕ → List Share) (history : List Entry) : Type 0 where
  pub legal : Legal s history
  pub some : 1 ≤ workers
  pub callers : AreOfWorkers workers history
  pub owned : (caller : ℕ) → 1 ≤ caller → caller ≤ workers → AreOwn s caller (shares caller) (own caller (placed_from 0 history))
  pub there : AreAt jobs works (all_shares workers shares)
  pub each_once : SameItems (map (λ (d : Share). d.place) (all_shares workers shares)) (drawn works)
