use Rattle.std.proofs.Common.{◌∙◌, ap}
use Rattle.wide_lanes.specs.Wide.{widened}
use Rattle.wide_lanes.proofs.LaneLemmas.{widen_low}
use Rattle.wide_lanes.proofs.units.fours_of.Goals as goal

pub returns-clause-value : goal.returns-clause-value
returns-clause-value c = c.widen.ensures.value ∙ ap widened c.bytes_of.ensures.value ∙ widen_low c.args.numbers
