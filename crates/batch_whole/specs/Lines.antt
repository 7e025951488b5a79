-- How a run ends that does nothing but write a line.
use Rattle.std.specs.Prelude.{◌≡◌, List, []}
use Rattle.outside.specs.Moments.{Written, Holdings}
use Rattle.outside.specs.declared.sinks.Sent.{Sent}
use Rattle.runtime_histories.specs.declared.entries.Entry.{Entry}
use Rattle.batch_jobs.specs.Jobs.{Text}
use Rattle.batch_runs.specs.Batches.{Writes}

-- a line was written, or some first bytes of it; the library wasn't called, and there is no entry
pub record EndsWith (line : Text) (given left : Holdings) (old new : Written) (entries : List Entry)
    : Type 0 where
  pub same : left ≡ given
  pub answer : Sent
  pub wrote : Writes old new line answer
  pub empty : entries ≡ []
