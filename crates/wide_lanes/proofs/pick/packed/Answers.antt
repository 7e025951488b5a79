use Rattle.std.proofs.Common.{◌∙◌, w8}
use Rattle.std.proofs.lemmas.Simd.{length-swz_l}
use Rattle.wide_lanes.proofs.PickLemmas.{packs, row_ok, row_long}
use Rattle.wide_lanes.proofs.pick.packed.Goals as goal

pub swizzle : goal.swizzle
swizzle c = row_ok _ c.args.mask c.requires

pub returns-clause-value : goal.returns-clause-value
returns-clause-value c = packs _ c.args.mask c.requires c.args.bytes c.fits-bytes.0

pub returns-clause-long : goal.returns-clause-long
returns-clause-long c = length-swz_l w8 16 c.args.bytes 0 _ ∙ row_long _ c.args.mask c.requires
