use Rattle.wide_lanes.proofs.FourLemmas.{packs}
use Rattle.wide_lanes.proofs.fours.packed.Goals as goal

pub returns-clause-value : goal.returns-clause-value
returns-clause-value c = packs _ c.args.mask c.requires c.args.bytes c.fits-bytes.0
