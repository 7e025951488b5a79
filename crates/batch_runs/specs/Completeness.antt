-- When a run comes to its end: valid words, accepted texts, no fault, and a store with room.
use Rattle.std.specs.Prelude.{◌≡◌, ◌⊎◌, List, [], Option, Some, None}
use Rattle.outside.specs.Faults.{IsCalm}
use Rattle.outside.specs.Shelves.{Shelf}
use Rattle.outside.specs.declared.sinks.Sent.TheVariants as sent
use Rattle.runtime_histories.specs.declared.entries.Entry.{Entry}
use Rattle.batch_jobs.specs.Jobs.{Text}
use Rattle.batch_words.specs.Asked.{Source, Texts, Single, Generated, Request, asked}
use Rattle.batch_runs.specs.declared.cause.Cause.{Cause}
use Rattle.batch_runs.specs.declared.cause.Cause.TheVariants.{Memory}
use Rattle.batch_runs.specs.Preparing.{AreRead, wanted, Prepared}
use Rattle.batch_runs.specs.Batches.{World, Batch, Writes}
use Rattle.batch_runs.specs.Endings.{cause_of}
use Rattle.batch_runs.specs.Runs.{Stands, report_for}
use Rattle.batch_runs.specs.Plain.{HasRoom, IsFaultless, ComesTo}
use Rattle.batch_jobs.specs.Generated.{generated}

-- the files over which a source's jobs are done, where the outside holds these
abbrev pub files_for : Source → Shelf → Shelf
files_for (Texts modules bindings charmaps jobs) files = files
files_for (Single from to input output) files = files
files_for (Generated n) files = (generated n).files

-- valid words, files that are told, texts that are present, within the limit and accepted, a store
-- with room, and no fault
pub record IsFair (words : List Text) (old new : World) (request : Request) (texts : List Text) (files : Shelf) : Type 0 where
  pub told : old.files.told ≡ Some files
  pub is_asked : asked words ≡ Some request
  pub read : AreRead old.files.told (wanted request.source) texts None
  pub room : (p : Prepared) → Stands request.source request.pages old.library.told texts p → HasRoom p.setting
  pub faultless : IsFaultless old new
  pub sink : IsCalm old.sink.faults new.sink.faults

-- the run came to its end: the outcomes are those of the batch, the files hold what it means, and the
-- report was written whole
pub record IsComplete (old new : World) (request : Request) (files : Shelf) (cause : Cause) (history : List Entry) : Type 0 where
  pub prepared : Prepared
  pub texts : List Text
  pub stands : Stands request.source request.pages old.library.told texts prepared
  pub last : Option Shelf
  pub batch : Batch
  pub comes : ComesTo prepared.setting prepared.jobs (files_for request.source files) request.journal history last sent.Done batch
  pub report : Writes old.sink new.sink (report_for request.source batch) sent.Done
  pub is_cause : cause ≡ cause_of batch.outcomes sent.Done sent.Done

-- a fair run comes to its end, or memory was wanting
abbrev pub Completes : World → World → Request → Shelf → Cause → List Entry → Type 0
Completes old new request files cause history = (cause ≡ Memory) ⊎ IsComplete old new request files cause history
