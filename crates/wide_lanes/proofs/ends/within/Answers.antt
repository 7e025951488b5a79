use Rattle.wide_lanes.proofs.WindowLemmas.{range_lanes}
use Rattle.wide_lanes.proofs.ends.within.Goals as goal

pub returns : goal.returns
returns c = range_lanes c.args.from c.args.count c.ranges.from.fits c.requires c.args.bytes c.fits-bytes.0 c.fits-bytes.1
