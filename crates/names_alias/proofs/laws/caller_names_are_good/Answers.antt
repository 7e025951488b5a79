use Rattle.names_alias.proofs.CallerNames.{all_good}
use Rattle.names_alias.proofs.laws.caller_names_are_good.Goals as goal

pub returns : goal.returns
returns c = all_good
