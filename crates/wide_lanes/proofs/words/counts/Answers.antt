use Rattle.wide_lanes.proofs.LaneLemmas.{constant_map}
use Rattle.wide_lanes.proofs.words.counts.Goals as goal

pub returns-clause-value : goal.returns-clause-value
returns-clause-value c = c.choose.ensures (λ _. 1) (λ _. 2) (λ _. 3) (constant_map 1 8 c.args.points c.fits-points.0) (constant_map 2 8 c.args.points c.fits-points.0) (constant_map 3 8 c.args.points c.fits-points.0)
