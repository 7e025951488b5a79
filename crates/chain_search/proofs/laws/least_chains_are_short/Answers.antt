use Rattle.chain_search.proofs.Shortness.{least_is_short}
use Rattle.chain_search.proofs.laws.least_chains_are_short.Goals as goal

pub returns : goal.returns
returns c = least_is_short
