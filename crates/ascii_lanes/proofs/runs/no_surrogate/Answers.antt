use Rattle.std.proofs.Common.{eqb-true}
use Rattle.ascii_lanes.proofs.RunLemmas.{no_high}
use Rattle.ascii_lanes.proofs.runs.no_surrogate.Goals as goal

pub returns : goal.returns
returns c = λ none. no_high c.args.high c.fits-high.0 c.fits-high.1 (eqb-true _ 0 none)
