use Rattle.std.proofs.Common.{eqb-true}
use Rattle.wide_lanes.proofs.ShortLemmas.{all_short}
use Rattle.wide_lanes.proofs.short.are_short.Goals as goal

pub returns : goal.returns
returns c = λ none. all_short c.args.points c.fits-points.0 (eqb-true _ 0 none)
