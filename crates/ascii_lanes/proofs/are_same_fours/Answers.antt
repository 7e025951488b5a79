use Rattle.std.proofs.Common.{eqb-true, arith}
use Rattle.ascii_lanes.proofs.Masks.{none_differ}
use Rattle.ascii_lanes.proofs.are_same_fours.Goals as goal

pub returns : goal.returns
returns c = λ none. none_differ 64 (omega arith) c.args.a c.args.b c.fits-a.0 c.fits-b.0 (eqb-true _ 0 none)
