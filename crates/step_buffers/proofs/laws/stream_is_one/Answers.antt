use Rattle.step_buffers.proofs.Streams.{tell_the_same}
use Rattle.step_buffers.proofs.laws.stream_is_one.Goals as goal

pub returns : goal.returns
returns c = tell_the_same c.meaning_is_one.ensures
