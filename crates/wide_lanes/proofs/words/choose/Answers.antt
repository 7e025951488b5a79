use Rattle.wide_lanes.proofs.LaneLemmas.{chosen}
use Rattle.wide_lanes.proofs.words.choose.Goals as goal

pub returns : goal.returns
returns c = chosen c.args.points c.args.one c.args.two c.args.three c.fits-points.0
