use Rattle.batch_runs.proofs.Sharing.{shared_history}
use Rattle.batch_runs.proofs.laws.shared_jobs_are_all.Goals as goal

pub returns : goal.returns
returns c = λ s workers jobs works shares history. shared_history s workers jobs works shares history
