use Rattle.runtime_room.proofs.Publishing.{published_extends}
use Rattle.runtime_room.proofs.laws.published_grows.Goals as goal

pub returns : goal.returns
returns c = published_extends
