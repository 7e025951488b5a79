use Rattle.std.proofs.Common.{eqb-true}
use Rattle.ascii_lanes.proofs.Masks.{none_high}
use Rattle.ascii_lanes.proofs.is_plain.Goals as goal

pub returns : goal.returns
returns c = λ none. none_high c.args.lanes c.fits-lanes.0 (eqb-true _ 0 none)
