use Rattle.std.proofs.Common.{arith, eqb-true, w8}
use Rattle.wide_lanes.proofs.ReadLemmas.{none_differ}
use Rattle.wide_lanes.proofs.units.are_same.Goals as goal

pub returns : goal.returns
returns c = λ none. none_differ w8 32 (omega arith) c.args.first c.args.second c.fits-first.0 c.fits-second.0 (eqb-true _ 0 none)
