use Rattle.wide_lanes.proofs.ShortLemmas.{packs}
use Rattle.wide_lanes.proofs.short.packed.Goals as goal

pub returns-clause-value : goal.returns-clause-value
returns-clause-value c = packs _ c.args.mask c.requires c.args.bytes c.fits-bytes.0
