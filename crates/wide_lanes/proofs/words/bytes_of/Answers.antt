use Rattle.wide_lanes.proofs.LaneLemmas.{bytes_low}
use Rattle.wide_lanes.proofs.words.bytes_of.Goals as goal

pub returns-clause-value : goal.returns-clause-value
returns-clause-value c = bytes_low 16 c.args.numbers c.fits-numbers.0 c.fits-numbers.1
