use Rattle.std.proofs.Common.{◌∙◌, sym, ap, take}
use Rattle.wide_lanes.specs.Wide.{swapped}
use Rattle.wide_lanes.proofs.LaneLemmas.{swap_low, swap_twice}
use Rattle.wide_lanes.proofs.units.load_high_first.Goals as goal

pub returns-then-are_wide : goal.returns-then-are_wide
returns-then-are_wide c = (
  c.are_wide.ensures c.if-are_wide.true,
  sym (sym (swap_low c.numbers-points.result) ∙ ap swapped (c.numbers-points.ensures ∙ c.swap.ensures.value) ∙ swap_twice (take 16 c.args.bytes.now)),
)
