-- The single lines that stand in place of a report.
use Rattle.std.specs.Prelude.{ℕ, List, [], ◌++◌, codes}
use Rattle.std.specs.Fmt.{decimal}
use Rattle.modules_conf.specs.declared.fault.ConfFault.{ConfFault}
use Rattle.modules_conf.specs.declared.fault.ConfFault.TheVariants as conf
use Rattle.modules_conf.specs.declared.fault.BindFault.{BindFault}
use Rattle.modules_conf.specs.declared.fault.BindFault.TheVariants as bind
use Rattle.batch_jobs.specs.declared.jobs.JobFault.{JobFault}
use Rattle.batch_jobs.specs.declared.jobs.JobFault.TheVariants as job
use Rattle.batch_jobs.specs.Jobs.{Text}
use Rattle.batch_runs.specs.declared.cause.Which.{Which}
use Rattle.batch_runs.specs.declared.cause.Which.TheVariants.{Modules, Bindings, Jobs}
use Rattle.batch_runs.specs.declared.cause.InputKind.{InputKind}
use Rattle.batch_runs.specs.declared.cause.InputKind.TheVariants.{Absent, TooLarge, Conf, Bind, Job}

-- what is written where the words are no command
abbrev pub usage_line : Text
usage_line = codes "usage: iconv_batch --modules F --bindings F --charmaps DIR --jobs JOBS [--workers N] [--pages P] [--journal F]\n"

-- what is written where memory was wanting
abbrev pub memory_line : Text
memory_line = codes "out of memory\n"

-- the name of a text
abbrev pub which_text : Which → Text
which_text Modules = codes "modules"
which_text Bindings = codes "bindings"
which_text Jobs = codes "jobs"

-- what is wrong at a line
abbrev pub at_line : ℕ → Text → Text
at_line line reason = codes "line " ++ (decimal line ++ (codes ": " ++ reason))

-- why a gconv-modules text is refused
abbrev pub conf_reason : ConfFault → Text
conf_reason (conf.TooManyLines line) = at_line line (codes "too many lines")
conf_reason conf.Memory = []

-- why a bindings text is refused
abbrev pub bind_reason : BindFault → Text
bind_reason (bind.BadKind line) = at_line line (codes "bad kind")
bind_reason (bind.WordCount line) = at_line line (codes "word count")
bind_reason (bind.Twice line) = at_line line (codes "twice")
bind_reason (bind.BadWord line) = at_line line (codes "bad word")
bind_reason (bind.TooMany line) = at_line line (codes "too many bindings")
bind_reason bind.Memory = []

-- why a text of jobs is refused
abbrev pub job_reason : JobFault → Text
job_reason (job.WordCount line) = at_line line (codes "word count")
job_reason (job.TooMany line) = at_line line (codes "too many jobs")
job_reason (job.NotText line) = at_line line (codes "not text")
job_reason job.Memory = []

-- why a text is refused
abbrev pub reason : InputKind → Text
reason Absent = codes "absent"
reason TooLarge = codes "too large"
reason (Conf fault) = conf_reason fault
reason (Bind fault) = bind_reason fault
reason (Job fault) = job_reason fault

-- what is written where a text is refused
abbrev pub refused_line : Which → InputKind → Text
refused_line which kind = codes "refused: " ++ (which_text which ++ (codes ": " ++ (reason kind ++ codes "\n")))

-- what is written where a text couldn't be taken
abbrev pub fault_line : Which → Text
fault_line which = codes "read fault: " ++ (which_text which ++ codes "\n")
