use Rattle.runtime_room.proofs.Publishing.{published_opened}
use Rattle.runtime_room.proofs.laws.opened_pairs_are_published.Goals as goal

pub returns : goal.returns
returns c = published_opened
