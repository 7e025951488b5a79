use Rattle.std.proofs.Common.{rules}
use Rattle.history_core.proofs.Lists.{mine-committed}
use Rattle.history_core.proofs.tokens.Turn.commit.Goals as goal

pub returns-clause-mine : goal.returns-clause-mine
returns-clause-mine g c = search (rules, mine-committed)
