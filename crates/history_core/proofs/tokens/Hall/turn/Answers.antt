use Rattle.history_core.proofs.Lists.{mine-grows}
use Rattle.history_core.proofs.tokens.Hall.turn.Goals as goal

pub returns-clause-mine : goal.returns-clause-mine
returns-clause-mine g c = mine-grows _ _ _ c.take_turn-value.ensures.grows
