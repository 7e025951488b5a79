use Rattle.wide_lanes.proofs.LaneLemmas.{numbers_low}
use Rattle.wide_lanes.proofs.units.numbers.Goals as goal

pub returns : goal.returns
returns c = numbers_low 8 c.args.bytes c.fits-bytes.0 c.fits-bytes.1
