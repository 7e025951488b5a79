-- What a text of jobs stands for.
use Rattle.std.specs.Prelude.{ℕ, ◌≤◌, ◌==◌, ◌&&◌, Bool, not, nat_le, List, [], ◌∷◌, length, map, Result, Ok, Err, if◌then◌else◌, string_bytes}
use Rattle.std.specs.List.{list_any, enumerate_from}
use Rattle.std.specs.Str.{is_utf8}
use Rattle.text_lines.specs.Limits.{longest_text}
use Rattle.modules_conf.specs.Bindings.{Row, rows}
use Rattle.batch_jobs.specs.Limits.{most_jobs}
use Rattle.batch_jobs.specs.declared.jobs.Job.{Job}
use Rattle.batch_jobs.specs.declared.jobs.JobFault.{JobFault}
use Rattle.batch_jobs.specs.declared.jobs.JobFault.TheVariants.{WordCount, TooMany, NotText}

-- Bytes.
abbrev pub Text : Type 0
Text = List ℕ

-- A job as its line says it.
pub record JobLine : Type 0 where
  pub line : ℕ
  pub from : Text
  pub to : Text
  pub input : Text
  pub output : Text

-- What contracts see of a job.
abbrev pub line_of : Job → JobLine
line_of j = record {
  line = j.line;
  from = j.from.items;
  to = j.to.items;
  input = string_bytes j.input;
  output = string_bytes j.output;
}

-- The names of the sets of a job are no longer than a text may be.
pub record HasShortNames (job : Job) : Type 0 where
  pub from : length job.from.items ≤ longest_text
  pub to : length job.to.items ≤ longest_text

-- The name of a file is text without a byte 00.
abbrev pub is_file_name : Text → Bool
is_file_name word = is_utf8 word && not (list_any (λ b. b == 0) word)

-- The job of a line that counts, with so many jobs before it, or what is wrong with the line: that it
-- hasn't four words, else that IN or OUT is no name of a file, else that it is one job too many.
abbrev pub job_of : ℕ → ℕ → List Text → Result JobLine JobFault
job_of before line (from ∷ to ∷ input ∷ output ∷ []) =
    if not (is_file_name input && is_file_name output) then Err (NotText line)
    else (if nat_le most_jobs before then Err (TooMany line)
    else Ok (record { line = line; from = from; to = to; input = input; output = output }))
job_of before line _ = Err (WordCount line)

-- A job before others, unless it or they have a fault.
abbrev pub followed : Result JobLine JobFault → Result (List JobLine) JobFault → Result (List JobLine) JobFault
followed (Err fault) rest = Err fault
followed (Ok job) (Err fault) = Err fault
followed (Ok job) (Ok jobs) = Ok (job ∷ jobs)

-- All the jobs, or the first fault.
abbrev pub all_jobs : List (Result JobLine JobFault) → Result (List JobLine) JobFault
all_jobs [] = Ok []
all_jobs (job ∷ rest) = followed job (all_jobs rest)

-- The jobs of lines that count, with so many jobs before them, or the first fault.
abbrev pub jobs_from : ℕ → List Row → Result (List JobLine) JobFault
jobs_from before lines = all_jobs (map (λ p. job_of p.0 p.1.0 p.1.1) (enumerate_from before lines))

-- The jobs of a text: those of its lines that have a word which doesn't begin with #, or the fault of
-- the first of these that is faulty.
abbrev pub jobs_of : Text → Result (List JobLine) JobFault
jobs_of text = jobs_from 0 (rows text)
