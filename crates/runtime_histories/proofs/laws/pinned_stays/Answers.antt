use Rattle.runtime_histories.proofs.Pinning.{pinned-stays}
use Rattle.runtime_histories.proofs.laws.pinned_stays.Goals as goal

pub returns : goal.returns
returns c = pinned-stays
