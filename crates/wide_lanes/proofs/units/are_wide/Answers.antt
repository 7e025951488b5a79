use Rattle.std.proofs.Common.{eqb-true}
use Rattle.wide_lanes.proofs.LaneLemmas.{no_surrogates}
use Rattle.wide_lanes.proofs.units.are_wide.Goals as goal

pub returns : goal.returns
returns c = λ none. no_surrogates c.args.numbers c.fits-numbers.0 c.fits-numbers.1 (eqb-true _ 0 none)
