-- A run that read its texts before its jobs.
use Rattle.std.proofs.Common.{◌≡◌, ◌∙◌, inl, inr, None, Ok, false, ◌+◌, ◌-◌, ◌^◌, ◌≤◌, min, ℕ, List, [], ◌∷◌, Option, ap, sym, subst, refl, arith}
use Rattle.outside.specs.Faults.{RoseBy}
use Rattle.outside.specs.Shelves.{Shelf}
use Rattle.outside.specs.Moments.{Written, Holdings}
use Rattle.outside.specs.declared.sinks.Sent.{Sent}
use Rattle.runtime_histories.specs.declared.entries.Entry.{Entry}
use Rattle.modules_conf.specs.declared.conf.Conf.{Conf}
use Rattle.modules_conf.specs.declared.bindings.Binding.{Binding}
use Rattle.modules_conf.specs.Modules.{conf_of}
use Rattle.modules_conf.specs.Bindings.{bindings_of}
use Rattle.batch_jobs.specs.Jobs.{Text, JobLine, jobs_of}
use Rattle.batch_alone.specs.Starts.{Aim, IsStarted}
use Rattle.batch_runs.specs.declared.cause.Cause.{Cause}
use Rattle.batch_runs.specs.declared.cause.Cause.TheVariants.{Done, Jobs, Usage, Input, InputFault, OutFault, Memory}
use Rattle.batch_words.specs.Asked.{Source, Texts, Single, Request}
use Rattle.batch_runs.specs.declared.cause.Stop.TheVariants.{Refused, Faulted}
use Rattle.batch_alone.specs.declared.halt.Halt.{Halt}
use Rattle.batch_alone.specs.declared.halt.Halt.TheVariants as halt
use Rattle.batch_runs.specs.Preparing.{AreRead, Prepared, wanted, single_job}
use Rattle.batch_alone.specs.Stops.{StopsRun, Tells}
use Rattle.batch_runs.specs.Runs.{AreWithin, IsUntouched, RanFor, RanJobs, Stands, report_for, task_of}
use Rattle.batch_runs.specs.Takings.{read_faults}
use Rattle.batch_runs.specs.Lines.{memory_line}
use Rattle.batch_runs.specs.Puts.{write_faults, sent_fault}
use Rattle.batch_runs.specs.Histories.{told_faults}
use Rattle.batch_runs.specs.Batches.{World, Batch, IsDone, RunsJobs, Writes, report_by}
use Rattle.batch_runs.specs.Endings.{Task, Finishes, Halts, EndsBy, WritesLine}
use Rattle.batch_runs.specs.Meanings.{AskedSince, HasFetched, IsSettingOf}
use Rattle.batch_alone.specs.Readings.{HaltsRead, halt_fault}

-- only takes were made between two moments
pub record OnlyTook (old mid : World) : Type 0 where
  pub told : mid.files.told ≡ old.files.told
  pub puts : mid.files.puts ≡ old.files.puts
  pub takes : old.files.takes ≤ mid.files.takes
  pub library : mid.library ≡ old.library
  pub sink : mid.sink ≡ old.sink

runs_from : (t : Task) (old mid new : World) (h : List Entry) (put : Sent) (b : Batch) → OnlyTook old mid
    → RunsJobs t.setting t.jobs t.workers t.file mid new h put b → RunsJobs t.setting t.jobs t.workers t.file old new h put b
runs_from t old mid new h put b o r =
    let D : Option Shelf → Type 0 = λ s. IsDone t.setting t.jobs s r.between b in
    let P : ℕ → Type 0 = λ n. RoseBy (write_faults b.outcomes + sent_fault put) n new.files.puts in
    let L : Holdings → Type 0 = λ l. RoseBy (told_faults h) l.faults new.library.faults in
    let H : Holdings → Type 0 = λ l. new.library.told ≡ l.told in
    let A : Holdings → Type 0 = λ l. AskedSince (HasFetched t.setting t.workers h) l.paths new.library.paths in
    record {
      between = r.between;
      done = subst D o.told r.done;
      journal = r.journal;
      of_jobs = r.of_jobs;
      takes = (let few = o.takes in let rose = r.takes in omega (arith, few, rose));
      puts = subst P o.puts r.puts;
      library = subst L o.library r.library;
      held = subst H o.library r.held;
      asked = subst A o.library r.asked;
    }

finishes_from : (t : Task) (report : Batch → Text) (old mid new : World) (cause : Cause) (h : List Entry) → OnlyTook old mid
    → Finishes t report mid new cause h → Finishes t report old new cause h
finishes_from t report old mid new cause h o f =
    let W : Written → Type 0 = λ w. Writes w new.sink (report f.batch) f.answer in
    record {
      batch = f.batch;
      put = f.put;
      answer = f.answer;
      runs = runs_from t old mid new h f.put f.batch o f.runs;
      wrote = subst W o.sink f.wrote;
      is_cause = f.is_cause;
    }

halts_from : (t : Task) (old mid new : World) (h : List Entry) → OnlyTook old mid → Halts t mid new h → Halts t old new h
halts_from t old mid new h o r =
    let D : Option Shelf → Type 0 = λ s. IsDone t.setting r.front s r.between r.batch in
    let L : Holdings → Type 0 = λ l. RoseBy (told_faults h) l.faults new.library.faults in
    let W : Written → Type 0 = λ w. Writes w new.sink memory_line r.wrote.0 in
    record {
      front = r.front;
      rest = r.rest;
      is_front = r.is_front;
      batch = r.batch;
      between = r.between;
      done = subst D o.told r.done;
      put_file = r.put_file;
      is_file = r.is_file;
      journal = r.journal;
      part = r.part;
      library = subst L o.library r.library;
      wrote = (r.wrote.0, subst W o.sink r.wrote.1);
    }

-- a run whose texts were read before its jobs ends as its jobs do
pub ends_from : (t : Task) (report : Batch → Text) (old mid new : World) (cause : Cause) (h : List Entry) → OnlyTook old mid
    → EndsBy t report mid new cause h → EndsBy t report old new cause h
ends_from t report old mid new Done h o e = finishes_from t report old mid new Done h o e
ends_from t report old mid new Jobs h o e = finishes_from t report old mid new Jobs h o e
ends_from t report old mid new Usage h o e = e
ends_from t report old mid new (Input which fault) h o e = e
ends_from t report old mid new (InputFault which) h o e = e
ends_from t report old mid new (OutFault which) h o e = finishes_from t report old mid new (OutFault which) h o e
ends_from t report old mid new Memory h o e = halts_from t old mid new h o e

-- ---- a run of three texts

pub short_for : (q : Request) (old new : World) (cause : Cause) (h : List Entry) → IsUntouched old new h → cause ≡ Memory → Tells old.sink new.sink memory_line → RanFor q old new cause h
short_for q old new cause h u is told =
    let P : Cause → Type 0 = λ c. RanFor q old new c h in
    subst P (sym is) (inl (record { untouched = u; wrote = told }))

pub stops_for : (q : Request) (old new : World) (cause : Cause) (h : List Entry) (why : Halt)
    → HaltsRead old.files.told (wanted q.source) why → StopsRun old.sink new.sink why cause → IsUntouched old new h
    → RoseBy (halt_fault why) old.files.takes new.files.takes → RanFor q old new cause h
stops_for q old new cause h halt.Memory r s u rose = short_for q old new cause h u s.0 s.1
stops_for q old new cause h (halt.Stopped (Refused which kind)) r (inl s) u rose =
    let P : Cause → Type 0 = λ c. RanFor q old new c h in
    subst P (sym s.0) (record { texts = r.0; read = r.1; untouched = u; wrote = s.1 })
stops_for q old new cause h (halt.Stopped (Faulted which)) r (inl s) u rose =
    let P : Cause → Type 0 = λ c. RanFor q old new c h in
    subst P (sym s.0) (record { texts = r.0; read = r.1; untouched = u; wrote = s.1 }, rose)
stops_for q old new cause h (halt.Stopped stop) r (inr s) u rose = short_for q old new cause h u s.0 s.1

pub jobs_for : (q : Request) (old mid new : World) (cause : Cause) (h : List Entry) (texts : List Text) (p : Prepared) (a b c d : Text) → q.source ≡ Texts a b c d
    → AreRead old.files.told (wanted (Texts a b c d)) texts None → Stands (Texts a b c d) q.pages old.library.told texts p → OnlyTook old mid
    → EndsBy (task_of q p) (report_by false) mid new cause h → RanFor q old new cause h
jobs_for q old mid new cause h texts p a b c d is read stands o e =
    let R : Source → Type 0 = λ s. AreRead old.files.told (wanted s) texts None in
    let S : Source → Type 0 = λ s. Stands s q.pages old.library.told texts p in
    let W : Source → Type 0 = λ s. AreWithin s old new old new in
    let B : Source → Type 0 = λ s. EndsBy (task_of q p) (report_for s) old new cause h in
    go cause (record {
      texts = texts;
      read = subst R (sym is) read;
      prepared = p;
      stands = subst S (sym is) stands;
      first = old;
      last = new;
      within = subst W (sym is) (record { begins = refl; ends = refl });
      ends = subst B (sym is) (ends_from (task_of q p) (report_by false) old mid new cause h o e);
    }) e
  where
    go : (cause : Cause) → RanJobs q old new cause h → EndsBy (task_of q p) (report_by false) mid new cause h → RanFor q old new cause h
    go Done r e = r
    go Jobs r e = r
    go Usage r e = e
    go (Input which fault) r e = absurd e
    go (InputFault which) r e = absurd e
    go (OutFault which) r e = r
    go Memory r e = inr r

-- a run that ended before its jobs left untouched what was only taken from before
pub untouched_from : (old mid new : World) (h : List Entry) → OnlyTook old mid → IsUntouched mid new h → IsUntouched old new h
untouched_from old mid new h o u = record {
  told = u.told ∙ o.told;
  puts = u.puts ∙ o.puts;
  library = u.library ∙ o.library;
  empty = u.empty;
}

-- what a run of three texts is for
abbrev pub aim_for : Conf → List Binding → List JobLine → Text → Request → Aim
aim_for conf bound jobs folder q = record {
  conf = conf;
  bound = bound;
  folder = folder;
  pages = q.pages;
  jobs = jobs;
  file = q.journal;
  sums = false;
}

pub started_for : (q : Request) (old mid new : World) (cause : Cause) (h : List Entry) (x y z a b c d : Text) (conf : Conf) (bound : List Binding) (jobs : List JobLine)
    → q.source ≡ Texts a b c d → AreRead old.files.told (wanted (Texts a b c d)) (x ∷ y ∷ z ∷ []) None
    → conf_of x ≡ Ok conf → bindings_of y ≡ Ok bound → jobs_of z ≡ Ok jobs
    → OnlyTook old mid → IsStarted (aim_for conf bound jobs c q) mid new cause h → RanFor q old new cause h
started_for q old mid new cause h x y z a b c d conf bound jobs is read is_conf is_bound lines o (inl s) =
    let T : Written → Type 0 = λ w. Tells w new.sink memory_line in
    short_for q old new cause h (untouched_from old mid new h o s.untouched) s.is_cause (subst T o.sink s.told)
started_for q old mid new cause h x y z a b c d conf bound jobs is read is_conf is_bound lines o (inr s) =
    let S : Holdings → Type 0 = λ l. IsSettingOf conf bound c q.pages l.told s.setting in
    jobs_for q old mid new cause h (x ∷ y ∷ z ∷ []) (record { setting = s.setting; jobs = jobs }) a b c d is read
    (record { conf = conf; bound = bound; conf_is = is_conf; bound_is = is_bound; lines = lines; setting = subst S o.library s.is_setting })
    o (s.ends q.workers)

-- a run that came to its jobs ended for a cause that such a run can have
pub ran_jobs : (q : Request) (old new : World) (cause : Cause) (h : List Entry) → RanJobs q old new cause h → RanFor q old new cause h
ran_jobs q old new Done h r = r
ran_jobs q old new Jobs h r = r
ran_jobs q old new Usage h r = r.ends
ran_jobs q old new (Input which fault) h r = absurd r.ends
ran_jobs q old new (InputFault which) h r = absurd r.ends
ran_jobs q old new (OutFault which) h r = r
ran_jobs q old new Memory h r = inr r

-- ---- a run of one job by itself

pub single_for : (q : Request) (old new : World) (cause : Cause) (h : List Entry) (a b c d : Text) (conf : Conf) (bound : List Binding) (jobs : List JobLine)
    → q.source ≡ Single a b c d → conf_of [] ≡ Ok conf → bindings_of [] ≡ Ok bound → jobs ≡ single_job a b c d ∷ []
    → IsStarted (aim_for conf bound jobs [] q) old new cause h → RanFor q old new cause h
single_for q old new cause h a b c d conf bound jobs is is_conf is_bound lines (inl s) = short_for q old new cause h s.untouched s.is_cause s.told
single_for q old new cause h a b c d conf bound jobs is is_conf is_bound lines (inr s) =
    let p : Prepared = record { setting = s.setting; jobs = jobs } in
    let R : Source → Type 0 = λ x. AreRead old.files.told (wanted x) [] None in
    let S : Source → Type 0 = λ x. Stands x q.pages old.library.told [] p in
    let W : Source → Type 0 = λ x. AreWithin x old new old new in
    let B : Source → Type 0 = λ x. EndsBy (task_of q p) (report_for x) old new cause h in
    ran_jobs q old new cause h (record {
      texts = [];
      read = subst R (sym is) tt;
      prepared = p;
      stands = subst S (sym is) (record { conf = conf; bound = bound; conf_is = is_conf; bound_is = is_bound; lines = lines; setting = s.is_setting });
      first = old;
      last = new;
      within = subst W (sym is) (record { begins = refl; ends = refl });
      ends = subst B (sym is) (s.ends q.workers);
    })
