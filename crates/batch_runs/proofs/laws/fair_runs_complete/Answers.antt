use Rattle.batch_runs.proofs.Complete.{completes}
use Rattle.batch_runs.proofs.laws.fair_runs_complete.Goals as goal

pub returns : goal.returns
returns c = λ words old new request texts files cause history. completes words old new request texts files cause history
