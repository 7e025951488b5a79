-- What a run has done, by the cause of its end.
use Rattle.std.specs.Prelude.{◌≡◌, ◌⊎◌, ℕ, ◌+◌, Bool, true, false, List, [], ◌∷◌, ◌++◌, Option, Some, None, codes, if◌then◌else◌, sum}
use Rattle.std.specs.Fmt.{decimal}
use Rattle.outside.specs.Faults.{Rose, RoseBy}
use Rattle.outside.specs.Shelves.{Shelf}
use Rattle.outside.specs.Moments.{Outside, Written, Holdings}
use Rattle.outside.specs.declared.sinks.Sent.{Sent}
use Rattle.outside.specs.declared.sinks.Sent.TheVariants as sent
use Rattle.runtime_histories.specs.declared.entries.Entry.{Entry}
use Rattle.batch_jobs.specs.Jobs.{Text, JobLine}
use Rattle.batch_jobs.specs.declared.outcomes.Outcome.{Outcome}
use Rattle.batch_jobs.specs.Reports.{summary}
use Rattle.batch_words.specs.Asked.{Source, Texts, Single, Generated, Request, asked}
use Rattle.batch_runs.specs.declared.cause.Which.{Which}
use Rattle.batch_runs.specs.declared.cause.InputKind.{InputKind}
use Rattle.batch_runs.specs.declared.cause.Output.TheVariants as output
use Rattle.batch_runs.specs.declared.cause.Cause.{Cause}
use Rattle.batch_runs.specs.declared.cause.Cause.TheVariants.{Done, Jobs, Usage, Input as Refusing, InputFault, OutFault, Memory}
use Rattle.batch_runs.specs.Preparing.{AreRead, wanted, Prepared, StandsFor, StandsAlone, single_job}
use Rattle.batch_runs.specs.declared.cause.Stop.{Stop}
use Rattle.batch_runs.specs.declared.cause.Stop.TheVariants.{Refused, Faulted}
use Rattle.batch_runs.specs.Works.{Work}
use Rattle.batch_runs.specs.Puts.{bytes_put}
use Rattle.batch_runs.specs.Batches.{World, Batch, report_by}
use Rattle.batch_runs.specs.Endings.{Task, EndsBy, WritesLine}
use Rattle.batch_runs.specs.Lines.{usage_line, memory_line, refused_line, fault_line}
use Rattle.runtime_histories.specs.Settings.{Setting}
use Rattle.batch_jobs.specs.Generated.{Input, generated}

-- the folder of the charmaps of a made input
abbrev pub made_folder : Text
made_folder = codes "gen"

-- what a request and the texts that were accepted stand for
abbrev pub Stands : Source → ℕ → Option Shelf → List Text → Prepared → Type 0
Stands (Texts modules bindings charmaps jobs) pages told (x ∷ y ∷ z ∷ []) p = StandsFor x y z charmaps pages told p
Stands (Texts modules bindings charmaps jobs) pages told _ p = ⊥
Stands (Single from to input output) pages told texts p = StandsAlone (single_job from to input output) pages told p
Stands (Generated n) pages told texts p =
    let made = generated n in StandsFor made.modules made.bindings made.jobs made_folder pages
    (Some made.charmaps) p

-- the world in memory over an input that was made; its sink is the run's
abbrev pub made_world : Input → Written → World
made_world made sink = record {
  files = record { told = Some made.files; takes = 0; puts = 0 };
  library = record { told = Some made.charmaps; faults = 0; paths = Some [] };
  sink = sink;
}

-- the jobs of a made input are done in memory, where nothing fails, and the files and the library
-- aren't called
pub record IsApart (made : Input) (old new first last : World) : Type 0 where
  pub begins : first ≡ made_world made old.sink
  pub files : new.files ≡ old.files
  pub library : new.library ≡ old.library
  pub sink : last.sink ≡ new.sink
  pub takes : last.files.takes ≡ 0
  pub puts : last.files.puts ≡ 0
  pub faults : last.library.faults ≡ 0

-- the jobs are done outside
pub record IsOutside (old new first last : World) : Type 0 where
  pub begins : first ≡ old
  pub ends : last ≡ new

-- in which world a source's jobs are done
abbrev pub AreWithin : Source → World → World → World → World → Type 0
AreWithin (Texts modules bindings charmaps jobs) old new first last = IsOutside old new first last
AreWithin (Single from to input output) old new first last = IsOutside old new first last
AreWithin (Generated n) old new first last = IsApart (generated n) old new first last

-- a made input is reported by its sum
abbrev pub is_summed : Source → Bool
is_summed (Texts modules bindings charmaps jobs) = false
is_summed (Single from to input output) = false
is_summed (Generated n) = true

-- what is reported: each job and the summary, or of a made input the summary and the sum
abbrev pub report_for : Source → Batch → Text
report_for source = report_by (is_summed source)

-- the task of a request for which this was prepared
abbrev pub task_of : Request → Prepared → Task
task_of request p = record { setting = p.setting; jobs = p.jobs; workers = request.workers; file = request.journal }

-- a run for a request that came to its jobs, and ended for a cause
pub record RanJobs (request : Request) (old new : World) (cause : Cause) (history : List Entry) : Type 0 where
  pub texts : List Text
  pub read : AreRead old.files.told (wanted request.source) texts None
  pub prepared : Prepared
  pub stands : Stands request.source request.pages old.library.told texts prepared
  pub first : World
  pub last : World
  pub within : AreWithin request.source old new first last
  pub ends : EndsBy (task_of request prepared) (report_for request.source) first last cause history

-- nothing was put, the library was asked for nothing, and the history is empty
pub record IsUntouched (old new : World) (history : List Entry) : Type 0 where
  pub told : new.files.told ≡ old.files.told
  pub puts : new.files.puts ≡ old.files.puts
  pub library : new.library ≡ old.library
  pub empty : history ≡ []

-- a run for a request that ended at a text
pub record RanTo (request : Request) (old new : World) (history : List Entry) (stop : Stop) (line : Text) : Type 0 where
  pub texts : List Text
  pub read : AreRead old.files.told (wanted request.source) texts (Some stop)
  pub untouched : IsUntouched old new history
  pub wrote : WritesLine old new line

-- a run that wanted memory before its jobs
pub record RanShort (old new : World) (history : List Entry) : Type 0 where
  pub untouched : IsUntouched old new history
  pub wrote : WritesLine old new memory_line

-- what a run for a request that ended for a cause has done
abbrev pub RanFor : Request → World → World → Cause → List Entry → Type 0
RanFor request old new Usage history = ⊥
RanFor request old new (Refusing which fault) history =
    RanTo request old new history (Refused which fault) (refused_line which fault)
RanFor request old new (InputFault which) history =
    RanTo request old new history (Faulted which) (fault_line which) × Rose old.files.takes new.files.takes
RanFor request old new Memory history = RanShort old new history ⊎ RanJobs request old new Memory history
RanFor request old new Done history = RanJobs request old new Done history
RanFor request old new Jobs history = RanJobs request old new Jobs history
RanFor request old new (OutFault which) history = RanJobs request old new (OutFault which) history

-- the words ask for something, and a run for it ended for a cause
pub record RanAsked (words : List Text) (old new : World) (cause : Cause) (history : List Entry) : Type 0 where
  pub request : Request
  pub is_asked : asked words ≡ Some request
  pub ran : RanFor request old new cause history

-- what a run that ended for a cause has done
abbrev pub Ran : List Text → World → World → Cause → List Entry → Type 0
Ran words old new Usage history =
    (asked words ≡ None) × IsUntouched old new history × WritesLine old new usage_line
Ran words old new Memory history = RanShort old new history ⊎ RanAsked words old new Memory history
Ran words old new (Refusing which fault) history = RanAsked words old new (Refusing which fault) history
Ran words old new (InputFault which) history = RanAsked words old new (InputFault which) history
Ran words old new Done history = RanAsked words old new Done history
Ran words old new Jobs history = RanAsked words old new Jobs history
Ran words old new (OutFault which) history = RanAsked words old new (OutFault which) history
