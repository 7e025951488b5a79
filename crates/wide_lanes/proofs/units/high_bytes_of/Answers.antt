use Rattle.std.proofs.Common.{◌∙◌, ap}
use Rattle.wide_lanes.specs.Wide.{swapped}
use Rattle.wide_lanes.proofs.LaneLemmas.{swap_low}
use Rattle.wide_lanes.proofs.units.high_bytes_of.Goals as goal

pub returns-clause-value : goal.returns-clause-value
returns-clause-value c = c.swap.ensures.value ∙ ap swapped c.bytes_of.ensures.value ∙ swap_low c.args.numbers
