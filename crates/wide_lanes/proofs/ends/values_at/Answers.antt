use Rattle.wide_lanes.proofs.WindowLemmas.{values_lanes}
use Rattle.wide_lanes.proofs.ends.values_at.Goals as goal

pub returns : goal.returns
returns c = λ ws f g of are. values_lanes c.args.from c.args.count c.ranges.from.fits c.requires c.args.bytes c.args.values c.fits-bytes.0 c.fits-bytes.1 ws f g of are
