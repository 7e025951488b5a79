-- The texts of outcomes and of the report.
use Rattle.std.specs.Prelude.{ℕ, ◌-◌, List, ◌++◌, length, map, filter, codes, Bool, true, false}
use Rattle.std.specs.List.{concat, enumerate_from}
use Rattle.std.specs.Fmt.{decimal}
use Rattle.batch_jobs.specs.declared.outcomes.Outcome.{Outcome}
use Rattle.batch_jobs.specs.declared.outcomes.Outcome.TheVariants.{Good, Illegal, Incomplete, Absent, TooLarge, ReadFault, WriteFault, Refused}
use Rattle.batch_jobs.specs.Jobs.{Text}
use Rattle.batch_jobs.specs.Refusals.{refusal_text}

-- How a job ended.
abbrev pub outcome_text : Outcome → Text
outcome_text (Good written) = codes "ok"
outcome_text (Illegal at) = codes "illegal at " ++ decimal at
outcome_text (Incomplete at) = codes "incomplete at " ++ decimal at
outcome_text Absent = codes "absent"
outcome_text TooLarge = codes "too large"
outcome_text ReadFault = codes "read fault"
outcome_text WriteFault = codes "write fault"
outcome_text (Refused refusal) = refusal_text refusal

-- The line of the job of this number.
abbrev pub report_line : ℕ → Outcome → Text
report_line number outcome = decimal number ++ (codes ": " ++ (outcome_text outcome ++ codes "\n"))

-- The lines of jobs, the first of which has this number.
abbrev pub report_from : ℕ → List Outcome → Text
report_from number outcomes = concat (map (λ p. report_line p.0 p.1) (enumerate_from number outcomes))

-- A job is good where all of its input was converted and put.
abbrev pub is_good : Outcome → Bool
is_good (Good written) = true
is_good _ = false

-- How many outcomes are good.
abbrev pub good_count : List Outcome → ℕ
good_count outcomes = length (filter is_good outcomes)

-- The counts of a report: jobs, good ones, bytes taken and bytes put.
pub record Counts : Type 0 where
  pub jobs : ℕ
  pub good : ℕ
  pub read : ℕ
  pub written : ℕ

-- The counts of jobs that ended so, and took and put so many bytes.
abbrev pub counts_of : List Outcome → ℕ → ℕ → Counts
counts_of outcomes read written =
    record { jobs = length outcomes; good = good_count outcomes; read = read; written = written }

-- The summary line.
abbrev pub summary : Counts → Text
summary c = codes "jobs " ++ (decimal c.jobs ++ (codes " ok " ++ (decimal c.good
    ++ (codes " failed " ++ (decimal (c.jobs - c.good) ++ (codes " read " ++ (decimal c.read
    ++ (codes " written " ++ (decimal c.written ++ codes "\n")))))))))

-- The report: a line for each job, from 1, and the summary line.
abbrev pub report_of : List Outcome → ℕ → ℕ → Text
report_of outcomes read written =
    report_from 1 outcomes ++ summary (counts_of outcomes read written)

-- The line that tells the sum of the values of all bytes put.
abbrev pub sum_line : ℕ → Text
sum_line sum = codes "sum " ++ (decimal sum ++ codes "\n")

-- The report of jobs that the program made itself: the summary line and the sum line.
abbrev pub sum_report_of : List Outcome → ℕ → ℕ → ℕ → Text
sum_report_of outcomes read written sum =
    summary (counts_of outcomes read written) ++ sum_line sum
