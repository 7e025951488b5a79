use Rattle.std.proofs.Common.{◌++◌, take, ap, ◌∙◌}
use Rattle.wide_lanes.specs.Wide.{swapped}
use Rattle.wide_lanes.specs.Ends.{picked_pairs}
use Rattle.wide_lanes.proofs.LaneLemmas.{swap_low}
use Rattle.wide_lanes.proofs.PickLemmas.{picked_high}
use Rattle.wide_lanes.proofs.pick.put_ends_high_first.Goals as goal

pub returns-clause-front : goal.returns-clause-front
returns-clause-front c =
    c.put_pairs.ensures.front
    ∙ ap (λ v. take c.args.at c.args.output.now ++ v)
    (ap (picked_pairs c.args.ends.mask) (c.swap.ensures ∙ ap swapped c.bytes_of.ensures.value ∙ swap_low c.args.ends.numbers) ∙ picked_high c.args.ends.mask c.args.ends.numbers)
