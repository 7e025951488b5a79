-- What a batch means: each job by itself, one after another, without a fault.
use Rattle.std.specs.Prelude.{◌≡◌, ℕ, ◌+◌, ◌-◌, ◌<◌, nat_le, if◌then◌else◌, List, [], ◌∷◌, length, map, Option, Some, None, IsSomeAnd}
use Rattle.std.specs.Str.{bytes_eq}
use Rattle.outside.specs.Faults.{IsCalm}
use Rattle.outside.specs.Shelves.{Shelf, content_of}
use Rattle.outside.specs.declared.sinks.Sent.{Sent}
use Rattle.outside.specs.declared.sinks.Sent.TheVariants as sent
use Rattle.runtime_histories.specs.declared.entries.Entry.{Entry}
use Rattle.runtime_histories.specs.declared.refusals.Refusal.{Refusal}
use Rattle.runtime_histories.specs.declared.refusals.Refusal.TheVariants.{BadName, NoConversion, LibraryFault, NoCharmap, BadCharmap, StoreFull, JournalFull, Memory}
use Rattle.batch_jobs.specs.Jobs.{Text, JobLine}
use Rattle.batch_jobs.specs.Journals.{journal_text}
use Rattle.batch_runs.specs.Takings.{Taking, Got, Missed, room, all_inputs, length_taken}
use Rattle.batch_runs.specs.declared.misses.Miss.TheVariants.{NoFile, Large}
use Rattle.batch_runs.specs.Works.{Work, Skipped, Denied, Converted, outcome_of, bytes_of}
use Rattle.batch_runs.specs.Histories.{Call, calls_of, weight}
use Rattle.batch_runs.specs.Batches.{World, Batch}
use Rattle.runtime_histories.specs.Settings.{Setting}
use Rattle.batch_runs.specs.Meanings.{Made, Refuses, Makes}
use Rattle.runtime_histories.specs.Legal.{Legal}

-- what is taken of a name with this content, of which at most limit bytes are wanted
abbrev pub judged : ℕ → Option Text → Taking
judged limit None = Missed NoFile
judged limit (Some x) = if nat_le (length x) limit then Got x else Missed Large

-- what is taken of these names, one after another, where all may have so many bytes
abbrev pub inputs_of : Shelf → ℕ → List Text → List Taking
inputs_of files left [] = []
inputs_of files left (n ∷ ns) =
    let t = judged (room left) (content_of files n) in t ∷ inputs_of files (left - length_taken t) ns

-- what a job's work is of what was taken, whatever the library's faults and the store
abbrev pub Means : Setting → JobLine → Taking → Work → Type 0
Means s job (Missed miss) work = work ≡ Skipped miss
Means s job (Got x) (Skipped miss) = ⊥
Means s job (Got x) (Denied refusal) = Refuses s job.from job.to refusal
Means s job (Got x) (Converted made) = Makes s job.from job.to x made

-- the work of jobs, each by itself
abbrev pub AreMeant : Setting → List JobLine → List Taking → List Work → Type 0
AreMeant s [] [] [] = Unit {0}
AreMeant s [] [] (w ∷ ws) = ⊥
AreMeant s [] (t ∷ ts) ws = ⊥
AreMeant s (j ∷ js) [] ws = ⊥
AreMeant s (j ∷ js) (t ∷ ts) [] = ⊥
AreMeant s (j ∷ js) (t ∷ ts) (w ∷ ws) = Means s j t w × AreMeant s js ts ws

-- a batch over files that hold this: the inputs as the files are at first, each job's work by itself,
-- and each outcome that of the work
pub record IsBatch (s : Setting) (jobs : List JobLine) (files : Shelf) (b : Batch) : Type 0 where
  pub inputs : b.inputs ≡ inputs_of files all_inputs (map (λ (j : JobLine). j.input) jobs)
  pub works : AreMeant s jobs b.inputs b.works
  pub outcomes : b.outcomes ≡ map outcome_of b.works

-- what files hold, by name
abbrev pub Contents : Type 0
Contents = Text → Option Text

-- the contents after bytes, if any, were put to a name
abbrev pub put_on : Contents → Text → Option Text → Contents
put_on c name None other = c other
put_on c name (Some bytes) other = if bytes_eq other name then Some bytes else c other

-- the contents after the jobs' bytes were put, one job after another
abbrev pub after_puts : Contents → List JobLine → List Work → Contents
after_puts c [] ws = c
after_puts c (j ∷ js) [] = c
after_puts c (j ∷ js) (w ∷ ws) = after_puts (put_on c j.output (bytes_of w)) js ws

-- the contents after the journal's text was put, where a file was named
abbrev pub after_journal : Contents → Option Text → List Entry → Contents
after_journal c None history = c
after_journal c (Some name) history = put_on c name (Some (journal_text history))

-- files hold this
abbrev pub Hold : Option Shelf → Contents → Type 0
Hold told c = IsSomeAnd told (λ files. (name : Text) → content_of files name ≡ c name)

-- one where a refusal is that of a full store
abbrev pub is_full : Option Refusal → ℕ
is_full None = 0
is_full (Some (BadName which fault)) = 0
is_full (Some NoConversion) = 0
is_full (Some (LibraryFault m charmap)) = 0
is_full (Some (NoCharmap m charmap)) = 0
is_full (Some (BadCharmap m charmap fault)) = 0
is_full (Some (StoreFull need free)) = 1
is_full (Some (JournalFull n)) = 0
is_full (Some Memory) = 0

-- the store has room for all: no legal history tells that it was full
abbrev pub HasRoom : Setting → Type 0
HasRoom s = (history : List Entry) → Legal s history → weight (λ c. is_full c.refusal) (calls_of history) ≡ 0

-- no count of faults rises
pub record IsFaultless (old new : World) : Type 0 where
  pub takes : IsCalm old.files.takes new.files.takes
  pub puts : IsCalm old.files.puts new.files.puts
  pub library : IsCalm old.library.faults new.library.faults

-- what a run has come to: the batch, and what the files hold
pub record ComesTo (s : Setting) (jobs : List JobLine) (files : Shelf) (file : Option Text) (history : List Entry) (new : Option Shelf) (put : Sent) (b : Batch) : Type 0 where
  pub is_batch : IsBatch s jobs files b
  pub is_put : put ≡ sent.Done
  pub holds : Hold new (after_journal (after_puts (content_of files) jobs b.works) file history)

-- two names have one refusal or one conversion of an input, and not both
pub record IsDetermined (s : Setting) : Type 0 where
  pub refusal : (from to : Text) (r q : Refusal) → Refuses s from to r → Refuses s from to q → r ≡ q
  pub made : (from to x : Text) (u v : Made) → Makes s from to x u → Makes s from to x v → u ≡ v
  pub apart : (from to x : Text) (r : Refusal) (u : Made) → Refuses s from to r → Makes s from to x u → ⊥
