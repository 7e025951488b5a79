use Rattle.std.proofs.Common.{eqb-true}
use Rattle.ascii_lanes.proofs.Masks.{none_equal}
use Rattle.ascii_lanes.proofs.lacks.Goals as goal

pub returns : goal.returns
returns c = λ none. none_equal c.args.points c.args.byte c.fits-points.0 (eqb-true _ 0 none)
