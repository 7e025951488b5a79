-- What is put, in the order of the jobs.
use Rattle.std.specs.Prelude.{◌≡◌, ◌⊎◌, ℕ, ◌+◌, ◌==◌, if◌then◌else◌, unwrap_or, List, [], ◌∷◌, length, Option, Some, None}
use Rattle.outside.specs.Shelves.{Shelf}
use Rattle.outside.specs.Puts.{PutsWhereTold}
use Rattle.outside.specs.declared.file_sets.Put.TheVariants as put
use Rattle.outside.specs.declared.sinks.Sent.{Sent}
use Rattle.outside.specs.declared.sinks.Sent.TheVariants as sent
use Rattle.batch_jobs.specs.Jobs.{Text, JobLine}
use Rattle.batch_jobs.specs.declared.outcomes.Outcome.{Outcome}
use Rattle.batch_jobs.specs.declared.outcomes.Outcome.TheVariants as outcome
use Rattle.runtime_histories.specs.declared.entries.Entry.{Entry}
use Rattle.batch_jobs.specs.Journals.{journal_text}
use Rattle.batch_runs.specs.Works.{Work, outcome_of, bytes_of}

-- a job ends: with no bytes as its work says, else so where they were put, or by a fault
abbrev pub PutsBytes : Option Shelf → Text → Outcome → Option Text → Outcome → Option Shelf → Type 0
PutsBytes old name plain None end new = (end ≡ plain) × (new ≡ old)
PutsBytes old name plain (Some bytes) end new =
    ((end ≡ plain) × PutsWhereTold old new name bytes put.Done)
    ⊎ ((end ≡ outcome.WriteFault) × PutsWhereTold old new name bytes put.Failed)

-- the job's bytes, if any, are put to its OUT, and it ends so
abbrev pub PutsOne : Option Shelf → JobLine → Work → Outcome → Option Shelf → Type 0
PutsOne old job work end new = PutsBytes old job.output (outcome_of work) (bytes_of work) end new

-- the jobs' bytes are put, one job after another
abbrev pub ArePut : Option Shelf → List JobLine → List Work → List Outcome → Option Shelf → Type 0
ArePut old [] [] [] new = new ≡ old
ArePut old [] [] (e ∷ es) new = ⊥
ArePut old [] (w ∷ ws) es new = ⊥
ArePut old (j ∷ js) [] es new = ⊥
ArePut old (j ∷ js) (w ∷ ws) [] new = ⊥
ArePut old (j ∷ js) (w ∷ ws) (e ∷ es) new =
    (between : Option Shelf) × PutsOne old j w e between × ArePut between js ws es new

-- how often putting an output has failed, of one job
abbrev pub write_fault : Outcome → ℕ
write_fault (outcome.Good written) = 0
write_fault (outcome.Illegal at) = 0
write_fault (outcome.Incomplete at) = 0
write_fault outcome.Absent = 0
write_fault outcome.TooLarge = 0
write_fault outcome.ReadFault = 0
write_fault outcome.WriteFault = 1
write_fault (outcome.Refused refusal) = 0

-- how often putting an output has failed
abbrev pub write_faults : List Outcome → ℕ
write_faults [] = 0
write_faults (o ∷ os) = write_fault o + write_faults os

-- the bytes of a job that were put without a fault
abbrev pub bytes_put : Work → Outcome → Text
bytes_put work end = if write_fault end == 0 then unwrap_or (bytes_of work) [] else []

-- how many bytes of all jobs were put
abbrev pub written_count : List Work → List Outcome → ℕ
written_count [] es = 0
written_count (w ∷ ws) [] = 0
written_count (w ∷ ws) (e ∷ es) = length (bytes_put w e) + written_count ws es

-- the journal's text is put where a file was named
abbrev pub PutsJournal : Option Shelf → Option Text → List Entry → Sent → Option Shelf → Type 0
PutsJournal old None entries answer new = (answer ≡ sent.Done) × (new ≡ old)
PutsJournal old (Some name) entries sent.Done new = PutsWhereTold old new name (journal_text entries) put.Done
PutsJournal old (Some name) entries sent.Failed new = PutsWhereTold old new name (journal_text entries) put.Failed

-- how often a call has failed, of one that was answered so
abbrev pub sent_fault : Sent → ℕ
sent_fault sent.Done = 0
sent_fault sent.Failed = 1
