-- The texts that a run reads before its jobs, and what they stand for.
use Rattle.std.specs.Prelude.{◌≡◌, ℕ, ◌<◌, ◌≤◌, List, [], ◌∷◌, length, map, Option, Some, None, Result, Ok, Err}
use Rattle.outside.specs.Shelves.{Shelf}
use Rattle.modules_conf.specs.declared.fault.ConfFault.{ConfFault}
use Rattle.modules_conf.specs.declared.fault.ConfFault.TheVariants as conf
use Rattle.modules_conf.specs.declared.fault.BindFault.{BindFault}
use Rattle.modules_conf.specs.declared.fault.BindFault.TheVariants as bind
use Rattle.batch_jobs.specs.declared.jobs.JobFault.{JobFault}
use Rattle.batch_jobs.specs.declared.jobs.JobFault.TheVariants as job
use Rattle.modules_conf.specs.Modules.{conf_of}
use Rattle.modules_conf.specs.Bindings.{bindings_of}
use Rattle.batch_jobs.specs.Jobs.{Text, JobLine, jobs_of, line_of}
use Rattle.batch_words.specs.Asked.{Source, Texts, Single, Generated, Request}
use Rattle.batch_runs.specs.declared.cause.Which.{Which}
use Rattle.batch_runs.specs.declared.cause.Which.TheVariants.{Modules, Bindings, Jobs}
use Rattle.batch_runs.specs.declared.cause.Stop.{Stop}
use Rattle.batch_runs.specs.declared.cause.Stop.TheVariants.{Refused, Faulted}
use Rattle.batch_runs.specs.declared.cause.InputKind.{InputKind}
use Rattle.batch_runs.specs.declared.cause.InputKind.TheVariants.{Absent, TooLarge, Conf, Bind, Job}
use Rattle.batch_runs.specs.Takings.{one_input, Got, Missed, TakesOne}
use Rattle.batch_runs.specs.declared.misses.Miss.TheVariants.{NoFile, Large}
use Rattle.runtime_histories.specs.Settings.{Setting}
use Rattle.batch_runs.specs.Meanings.{IsSettingOf}
use Rattle.modules_conf.specs.declared.conf.Conf.{Conf as Configuration}
use Rattle.modules_conf.specs.declared.bindings.Binding.{Binding}

-- a text that is to be read, by what it is and the name of its file
pub record Wanted : Type 0 where
  pub which : Which
  pub name : Text

-- the fault of an answer, as that of a text
abbrev pub fault_by : {A E : Type 0} → (E → InputKind) → Result A E → Option InputKind
fault_by kind (Ok x) = None
fault_by kind (Err e) = Some (kind e)

-- why a text that was taken is refused
abbrev pub text_fault : Which → Text → Option InputKind
text_fault Modules text = fault_by Conf (conf_of text)
text_fault Bindings text = fault_by Bind (bindings_of text)
text_fault Jobs text = fault_by Job (jobs_of text)

-- a text was taken and accepted
pub record Accepts (told : Option Shelf) (w : Wanted) (text : Text) : Type 0 where
  pub taken : TakesOne told one_input w.name (Got text)
  pub good : text_fault w.which text ≡ None

-- a text is refused for this reason
abbrev pub IsRefused : Option Shelf → Wanted → InputKind → Type 0
IsRefused told w Absent = TakesOne told one_input w.name (Missed NoFile)
IsRefused told w TooLarge = TakesOne told one_input w.name (Missed Large)
IsRefused told w kind = (text : Text) × TakesOne told one_input w.name (Got text) × (text_fault w.which text ≡ Some kind)

-- the run ends at this text
abbrev pub StopsAt : Option Shelf → Wanted → Stop → Type 0
StopsAt told w (Refused which kind) = (which ≡ w.which) × IsRefused told w kind
StopsAt told w (Faulted which) = which ≡ w.which

-- these texts are taken and accepted, each before the next, up to the one at which the run ends, if
-- there is one
abbrev pub AreRead : Option Shelf → List Wanted → List Text → Option Stop → Type 0
AreRead told [] [] None = Unit {0}
AreRead told [] [] (Some stop) = ⊥
AreRead told [] (x ∷ xs) stop = ⊥
AreRead told (w ∷ ws) [] None = ⊥
AreRead told (w ∷ ws) [] (Some stop) = StopsAt told w stop
AreRead told (w ∷ ws) (x ∷ xs) stop = Accepts told w x × AreRead told ws xs stop

-- taking a text has failed, where the run ends for that
abbrev pub stop_fault : Stop → ℕ
stop_fault (Refused which kind) = 0
stop_fault (Faulted which) = 1

-- the texts that a source has read
abbrev pub wanted : Source → List Wanted
wanted (Texts modules bindings charmaps jobs) =
    record { which = Modules; name = modules } ∷ record { which = Bindings; name = bindings } ∷ record { which = Jobs; name = jobs } ∷ []
wanted (Single from to input output) = []
wanted (Generated number) = []

-- what a run has prepared before it takes an input: the setting and the jobs
pub record Prepared : Type 0 where
  pub setting : Setting
  pub jobs : List JobLine

-- three texts, a folder, pages and a library stand for a setting and jobs
pub record StandsFor (modules bindings jobs folder : Text) (pages : ℕ) (told : Option Shelf)
    (p : Prepared) : Type 0 where
  pub conf : Configuration
  pub bound : List Binding
  pub conf_is : conf_of modules ≡ Ok conf
  pub bound_is : bindings_of bindings ≡ Ok bound
  pub lines : jobs_of jobs ≡ Ok p.jobs
  pub setting : IsSettingOf conf bound folder pages told p.setting

-- the job of the short form
abbrev pub single_job : Text → Text → Text → Text → JobLine
single_job from to input output = record { line = 1; from = from; to = to; input = input; output = output }

-- the short form stands for one job in the empty configuration
pub record StandsAlone (job : JobLine) (pages : ℕ) (told : Option Shelf) (p : Prepared)
    : Type 0 where
  pub conf : Configuration
  pub bound : List Binding
  pub conf_is : conf_of [] ≡ Ok conf
  pub bound_is : bindings_of [] ≡ Ok bound
  pub lines : p.jobs ≡ job ∷ []
  pub setting : IsSettingOf conf bound [] pages told p.setting
