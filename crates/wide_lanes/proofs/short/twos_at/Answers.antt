use Rattle.wide_lanes.proofs.ShortLemmas.{from_bits}
use Rattle.wide_lanes.proofs.short.twos_at.Goals as goal

pub returns : goal.returns
returns c = from_bits 0x80 c.args.points c.fits-points.0
