-- A run in memory, over an input that was made.
use Rattle.std.proofs.Common.{◌≡◌, ℕ, List, [], Ok, Option, Some, true, inl, inr, refl, sym, subst, ap, ◌∙◌}
use Rattle.outside.specs.Moments.{Outside, Written, Holdings}
use Rattle.outside.specs.Shelves.{Shelf}
use Rattle.outside.specs.Stored.{Texts}
use Rattle.modules_conf.specs.declared.conf.Conf.{Conf}
use Rattle.modules_conf.specs.declared.bindings.Binding.{Binding}
use Rattle.modules_conf.specs.Modules.{conf_of}
use Rattle.modules_conf.specs.Bindings.{bindings_of}
use Rattle.runtime_histories.specs.declared.entries.Entry.{Entry}
use Rattle.batch_jobs.specs.Jobs.{Text, JobLine, jobs_of}
use Rattle.batch_jobs.specs.Generated.{Input, generated}
use Rattle.batch_words.specs.Asked.{Generated, Request}
use Rattle.batch_runs.specs.declared.cause.Cause.{Cause}
use Rattle.batch_runs.specs.Batches.{World, report_by}
use Rattle.batch_runs.specs.Endings.{EndsBy}
use Rattle.batch_runs.specs.Lines.{memory_line}
use Rattle.batch_runs.specs.Meanings.{IsSettingOf}
use Rattle.batch_runs.specs.Preparing.{Prepared, StandsFor}
use Rattle.batch_runs.specs.Runs.{IsApart, RanFor, made_folder, made_world}
use Rattle.batch_alone.specs.Starts.{Aim, IsShort, IsStarted, task_in}
use Rattle.batch_workers.specs.Starts.{IsStartedWith}
use Rattle.runtime_histories.specs.Settings.{Setting}
use Rattle.batch_alone.specs.Stops.{Tells}
use Rattle.batch_alone.proofs.Outer.{ran_jobs}
use Rattle.batch_whole.specs.Worlds.{world}

-- what a run over a made input is for
abbrev pub made_aim : Conf → List Binding → List JobLine → ℕ → Option Text → Aim
made_aim conf bound jobs pages file = record {
  conf = conf;
  bound = bound;
  folder = made_folder;
  pages = pages;
  jobs = jobs;
  file = file;
  sums = true;
}

-- a request for a made input
abbrev pub made_request : ℕ → ℕ → Option Text → ℕ → Request
made_request number pages file workers =
    record { source = Generated number; pages = pages; journal = file; workers = workers }

-- the texts of a made input stand for this
pub record AreMade (made : Input) (conf : Conf) (bound : List Binding) (jobs : List JobLine) : Type 0 where
  pub conf_is : conf_of made.modules ≡ Ok conf
  pub bound_is : bindings_of made.bindings ≡ Ok bound
  pub jobs_is : jobs_of made.jobs ≡ Ok jobs

-- nothing failed in memory
pub record NoneFailed (files : Outside) (library : Holdings) : Type 0 where
  pub takes : files.takes ≡ 0
  pub puts : files.puts ≡ 0
  pub faults : library.faults ≡ 0

-- The files and charmaps of a made input, in memory, are where its run begins.
pub in_memory : (made : Input) (a : Written) (files : Shelf) (texts : Texts) → files ≡ made.files
    → texts ≡ record { texts = made.charmaps; asked = [] }
    → world (record { told = Some files; takes = 0; puts = 0 })
    (record { told = Some texts.texts; faults = 0; paths = Some texts.asked }) a ≡ made_world made a
in_memory made a files texts f t =
    let F : Shelf → World = λ x. world (record { told = Some x; takes = 0; puts = 0 })
    (record { told = Some texts.texts; faults = 0; paths = Some texts.asked }) a in
    let T : Texts → World = λ x. world (record { told = Some made.files; takes = 0; puts = 0 })
    (record { told = Some x.texts; faults = 0; paths = Some x.asked }) a in
    ap F f ∙ ap T t

-- A made run that wanted memory before its jobs.
pub made_short : (number pages : ℕ) (file : Option Text) (workers : ℕ) (files : Outside) (given : Holdings)
    (a b : Written) (cause : Cause) (h : List Entry) (made : Input) (first : World) (last : Outside) (left : Holdings)
    → first ≡ made_world made a → IsShort first (world last left b) cause h
    → RanFor (made_request number pages file workers) (world files given a) (world files given b) cause h
made_short number pages file workers files given a b cause h made first last left begins s =
    let q : Request = made_request number pages file workers in
    let P : Cause → Type 0 = λ c. RanFor q (world files given a) (world files given b) c h in
    let T : World → Type 0 = λ w. Tells w.sink b memory_line in
    subst P (sym s.is_cause) (inl (record {
      untouched = record { told = refl; puts = refl; library = refl; empty = s.untouched.empty };
      wrote = subst T begins s.told;
    }))

-- A made run whose jobs were begun.
pub made_jobs : (number pages : ℕ) (file : Option Text) (workers : ℕ) (files : Outside) (given : Holdings)
    (a b : Written) (cause : Cause) (h : List Entry) (made : Input) (conf : Conf) (bound : List Binding)
    (jobs : List JobLine) (first : World) (last : Outside) (left : Holdings) (setting : Setting) → made ≡ generated number
    → AreMade made conf bound jobs → first ≡ made_world made a
    → IsSettingOf conf bound made_folder pages first.library.told setting
    → EndsBy (task_in (made_aim conf bound jobs pages file) setting workers) (report_by true) first (world last left b) cause h
    → NoneFailed last left
    → RanFor (made_request number pages file workers) (world files given a) (world files given b) cause h
made_jobs number pages file workers files given a b cause h made conf bound jobs first last left setting is texts begins is_setting ends none =
    let q : Request = made_request number pages file workers in
    let p : Prepared = record { setting = setting; jobs = jobs } in
    let old : World = world files given a in
    let new : World = world files given b in
    let S : Input → Type 0 = λ m. StandsFor m.modules m.bindings m.jobs made_folder pages (Some m.charmaps) p in
    let A : Input → Type 0 = λ m. IsApart m old new first (world last left b) in
    let I : World → Type 0 = λ w. IsSettingOf conf bound made_folder pages w.library.told setting in
    let stands : S made = record {
      conf = conf;
      bound = bound;
      conf_is = texts.conf_is;
      bound_is = texts.bound_is;
      lines = texts.jobs_is;
      setting = subst I begins is_setting;
    } in
    let apart : A made = record {
      begins = begins;
      files = refl;
      library = refl;
      sink = refl;
      takes = none.takes;
      puts = none.puts;
      faults = none.faults;
    } in
    ran_jobs q old new cause h (record {
      texts = [];
      read = tt;
      prepared = p;
      stands = subst S is stands;
      first = first;
      last = world last left b;
      within = subst A is apart;
      ends = ends;
    })

-- A run over a made input ends as its jobs do in memory, and nothing of the outside was called.
pub made_for : (number pages : ℕ) (file : Option Text) (workers : ℕ) (files : Outside) (given : Holdings)
    (a b : Written) (cause : Cause) (h : List Entry) (made : Input) (conf : Conf) (bound : List Binding)
    (jobs : List JobLine) (first : World) (last : Outside) (left : Holdings) → made ≡ generated number
    → AreMade made conf bound jobs → first ≡ made_world made a
    → IsStarted (made_aim conf bound jobs pages file) first (world last left b) cause h
    → NoneFailed last left
    → RanFor (made_request number pages file workers) (world files given a) (world files given b) cause h
made_for number pages file workers files given a b cause h made conf bound jobs first last left is texts begins (inl s) none =
    made_short number pages file workers files given a b cause h made first last left begins s
made_for number pages file workers files given a b cause h made conf bound jobs first last left is texts begins (inr s) none =
    made_jobs number pages file workers files given a b cause h made conf bound jobs first last left s.setting is texts begins s.is_setting (s.ends workers) none

-- The same with so many workers.
pub made_with : (number pages : ℕ) (file : Option Text) (workers : ℕ) (files : Outside) (given : Holdings)
    (a b : Written) (cause : Cause) (h : List Entry) (made : Input) (conf : Conf) (bound : List Binding)
    (jobs : List JobLine) (first : World) (last : Outside) (left : Holdings) → made ≡ generated number
    → AreMade made conf bound jobs → first ≡ made_world made a
    → IsStartedWith (made_aim conf bound jobs pages file) workers first (world last left b) cause h
    → NoneFailed last left
    → RanFor (made_request number pages file workers) (world files given a) (world files given b) cause h
made_with number pages file workers files given a b cause h made conf bound jobs first last left is texts begins (inl s) none =
    made_short number pages file workers files given a b cause h made first last left begins s
made_with number pages file workers files given a b cause h made conf bound jobs first last left is texts begins (inr s) none =
    made_jobs number pages file workers files given a b cause h made conf bound jobs first last left s.setting is texts begins s.is_setting s.ends none
