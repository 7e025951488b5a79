-- What the code keeps of inputs, works and texts, and why the reading of texts ended.
use Rattle.std.specs.Prelude.{◌≡◌, ℕ, List, [], ◌∷◌, length, map, Option, Some, None, Ok}
use Rattle.outside.specs.Shelves.{Shelf}
use Rattle.modules_conf.specs.declared.fault.ConfFault.{ConfFault}
use Rattle.modules_conf.specs.declared.fault.ConfFault.TheVariants as conf
use Rattle.modules_conf.specs.declared.fault.BindFault.{BindFault}
use Rattle.modules_conf.specs.declared.fault.BindFault.TheVariants as bind
use Rattle.modules_conf.specs.Modules.{conf_of}
use Rattle.modules_conf.specs.Bindings.{bindings_of}
use Rattle.batch_jobs.specs.declared.jobs.JobFault.{JobFault}
use Rattle.batch_jobs.specs.declared.jobs.JobFault.TheVariants as job
use Rattle.batch_jobs.specs.Jobs.{Text, jobs_of, line_of}
use Rattle.batch_words.specs.Asked.{Texts}
use Rattle.batch_runs.specs.declared.cause.Which.TheVariants.{Modules, Bindings, Jobs}
use Rattle.batch_runs.specs.declared.cause.Stop.{Stop}
use Rattle.batch_runs.specs.declared.cause.Stop.TheVariants.{Refused, Faulted}
use Rattle.batch_runs.specs.declared.cause.InputKind.TheVariants.{Conf, Bind, Job}
use Rattle.batch_runs.specs.Takings.{Taking, Got, Missed}
use Rattle.batch_runs.specs.Works.{Work, Skipped, Denied, Converted}
use Rattle.batch_runs.specs.Preparing.{Wanted, AreRead, stop_fault, wanted}
use Rattle.batch_alone.specs.declared.inputs.Input.{Input}
use Rattle.batch_alone.specs.declared.inputs.Input.TheVariants as input
use Rattle.batch_alone.specs.declared.work.Worked.{Worked}
use Rattle.batch_alone.specs.declared.work.Worked.TheVariants as worked
use Rattle.batch_alone.specs.declared.texts.Ready.{Ready}
use Rattle.batch_alone.specs.declared.halt.Halt.{Halt}
use Rattle.batch_alone.specs.declared.halt.Halt.TheVariants as halt

-- what contracts see of an input
abbrev pub taking_of : Input → Taking
taking_of (input.Bytes v) = Got v.items
taking_of (input.Missed miss) = Missed miss

-- what contracts see of a job's work whose bytes stand in an output
abbrev pub work_of : Worked → Text → Work
work_of (worked.Skipped miss) bytes = Skipped miss
work_of (worked.Denied refusal) bytes = Denied refusal
work_of (worked.Converted end) bytes = Converted (record { bytes = bytes; finish = end })

-- how many bytes a job's work made
abbrev pub length_made : Work → ℕ
length_made (Skipped miss) = 0
length_made (Denied refusal) = 0
length_made (Converted made) = length made.bytes

-- why reading stopped: at a text, or memory was wanting
abbrev pub HaltsRead : Option Shelf → List Wanted → Halt → Type 0
HaltsRead told ws (halt.Stopped stop) = (texts : List Text) × AreRead told ws texts (Some stop)
HaltsRead told ws halt.Memory = Unit {0}

-- why reading stopped at a gconv-modules text
abbrev pub conf_halt : ConfFault → Halt
conf_halt (conf.TooManyLines line) = halt.Stopped (Refused Modules (Conf (conf.TooManyLines line)))
conf_halt conf.Memory = halt.Memory

-- why reading stopped at a bindings text
abbrev pub bind_halt : BindFault → Halt
bind_halt (bind.BadKind line) = halt.Stopped (Refused Bindings (Bind (bind.BadKind line)))
bind_halt (bind.WordCount line) = halt.Stopped (Refused Bindings (Bind (bind.WordCount line)))
bind_halt (bind.Twice line) = halt.Stopped (Refused Bindings (Bind (bind.Twice line)))
bind_halt (bind.BadWord line) = halt.Stopped (Refused Bindings (Bind (bind.BadWord line)))
bind_halt (bind.TooMany line) = halt.Stopped (Refused Bindings (Bind (bind.TooMany line)))
bind_halt bind.Memory = halt.Memory

-- why reading stopped at a text of jobs
abbrev pub job_halt : JobFault → Halt
job_halt (job.WordCount line) = halt.Stopped (Refused Jobs (Job (job.WordCount line)))
job_halt (job.TooMany line) = halt.Stopped (Refused Jobs (Job (job.TooMany line)))
job_halt (job.NotText line) = halt.Stopped (Refused Jobs (Job (job.NotText line)))
job_halt job.Memory = halt.Memory

-- how often taking a text has failed, where reading stopped
abbrev pub halt_fault : Halt → ℕ
halt_fault (halt.Stopped stop) = stop_fault stop
halt_fault halt.Memory = 0

-- three texts were read, and this is what they stand for
pub record IsReady (told : Option Shelf) (modules bindings jobs : Text) (r : Ready) : Type 0 where
  pub modules_text : Text
  pub bindings_text : Text
  pub jobs_text : Text
  pub read : AreRead told (wanted (Texts modules bindings [] jobs)) (modules_text ∷ bindings_text ∷ jobs_text ∷ []) None
  pub conf : conf_of modules_text ≡ Ok r.conf
  pub bound : bindings_of bindings_text ≡ Ok r.bindings
  pub lines : jobs_of jobs_text ≡ Ok (map line_of r.jobs.items)
