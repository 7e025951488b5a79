-- What contracts see of a runtime that many callers share, of its lead and of its callers.
use Rattle.std.specs.Prelude.{◌≡◌, ◌⊎◌, ℕ, ◌+◌, List, [], ◌∷◌, ◌++◌}
use Rattle.history_core.specs.History.{without}
use Rattle.outside.specs.Faults.{RoseBy}
use Rattle.outside.specs.Moments.{Holdings}
use Rattle.modules_conf.specs.declared.conf.Conf.{Conf}
use Rattle.modules_conf.specs.declared.bindings.Binding.{Binding}
use Rattle.runtime_histories.specs.declared.entries.Entry.{Entry}
use Rattle.runtime_histories.specs.Settings.{Setting}
use Rattle.runtime_histories.specs.Legal.{Legal}
use Rattle.runtime_histories.specs.Fetches.{FetchesLoose}
use Rattle.batch_jobs.specs.Jobs.{Text, JobLine}
use Rattle.batch_runs.specs.Takings.{Taking}
use Rattle.batch_runs.specs.Works.{Work, Works}
use Rattle.batch_runs.specs.Meanings.{AskedSince, IsSettingOf}
use Rattle.batch_runs.specs.Histories.{Placed, placed_from, own, told_faults}
use Rattle.batch_runs.specs.Shares.{IsOwnOf}

-- the most callers of one runtime
abbrev pub most_callers : ℕ
most_callers = 64

-- a runtime: its setting, and its library as it was handed in
pub record Base : Type 0 where
  pub setting : Setting
  pub handed : Holdings

-- a caller: its number, and its own entries, each at its position in the history
pub record Part : Type 0 where
  pub number : ℕ
  pub entries : List Placed

-- a caller that has no entry
abbrev pub new_part : ℕ → Part
new_part n = record { number = n; entries = [] }

-- a lead: the number that the next caller gets, the numbers of the callers that were made and not
-- ended, and the callers that were ended, as they then were; of both the last first
pub record Roll : Type 0 where
  pub next : ℕ
  pub away : List ℕ
  pub ended : List Part

-- no caller was made
abbrev pub empty_roll : Roll
empty_roll = record { next = 1; away = []; ended = [] }

-- one more caller was made
abbrev pub with_caller : Roll → Roll
with_caller r = record { next = r.next + 1; away = r.next ∷ r.away; ended = r.ended }

-- a caller was ended
abbrev pub with_end : Roll → Part → Roll
with_end r p = record { next = r.next; away = without p.number r.away; ended = p ∷ r.ended }

-- a runtime that has no entry
pub record IsNew (conf : Conf) (bindings : List Binding) (folder : Text) (pages : ℕ)
    (given : Holdings) (base : Base) : Type 0 where
  pub setting : IsSettingOf conf bindings folder pages given.told base.setting
  pub library : base.handed ≡ given

-- one job's work by a caller: its own entries are those of the work more
pub record Serves (s : Setting) (old new : Part) (job : JobLine) (taken : Taking) (work : Work)
    : Type 0 where
  pub works : Works s job taken work
  pub number : new.number ≡ old.number
  pub these : List Placed
  pub is_own : IsOwnOf s old.number job work these
  pub more : new.entries ≡ old.entries ++ these

-- one job's work that wanted memory: its own entries are those of some work more
pub record IsCutOff (s : Setting) (old new : Part) (job : JobLine) : Type 0 where
  pub work : Work
  pub number : new.number ≡ old.number
  pub these : List Placed
  pub is_own : IsOwnOf s old.number job work these
  pub more : new.entries ≡ old.entries ++ these

-- one of the callers has the number
abbrev pub HasNumber : List Part → ℕ → Type 0
HasNumber [] n = ⊥
HasNumber (p ∷ ps) n = (p.number ≡ n) ⊎ HasNumber ps n

-- each entry is of one of these callers
abbrev pub AreOf : List Part → List Entry → Type 0
AreOf ps [] = Unit {0}
AreOf ps (e ∷ es) = HasNumber ps e.caller × AreOf ps es

-- each caller's own entries in the history are those that it had
abbrev pub HaveOwn : List Entry → List Part → Type 0
HaveOwn history [] = Unit {0}
HaveOwn history (p ∷ ps) =
    (own p.number (placed_from 0 history) ≡ p.entries) × HaveOwn history ps

-- what is handed out at the end, where these callers were ended
pub record Ends (base : Base) (callers : List Part) (left : Holdings) (history : List Entry)
    : Type 0 where
  pub legal : Legal base.setting history
  pub own : HaveOwn history callers
  pub whose : AreOf callers history
  pub told : left.told ≡ base.handed.told
  pub faults : RoseBy (told_faults history) base.handed.faults left.faults
  pub asked : AskedSince (FetchesLoose base.setting history) base.handed.paths left.paths
