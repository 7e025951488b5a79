use Rattle.batch_runs.proofs.Once.{batch_once}
use Rattle.batch_runs.proofs.laws.one_batch.Goals as goal

pub returns : goal.returns
returns c = λ s jobs files a b. batch_once s jobs files a b
