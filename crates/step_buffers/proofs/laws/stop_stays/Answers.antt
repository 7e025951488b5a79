use Rattle.step_buffers.proofs.Streams.{stands_stopped}
use Rattle.step_buffers.proofs.laws.stop_stays.Goals as goal

pub returns : goal.returns
returns c = stands_stopped c.illegal_stays.ensures
