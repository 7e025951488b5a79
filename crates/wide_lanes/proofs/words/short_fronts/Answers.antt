use Rattle.wide_lanes.specs.Words.{front_two}
use Rattle.wide_lanes.proofs.LaneLemmas.{itself}
use Rattle.wide_lanes.proofs.words.short_fronts.Goals as goal

pub returns : goal.returns
returns c = c.choose.ensures (λ x. x) front_two front_two (itself c.args.points) c.twos.ensures c.twos-2.ensures
