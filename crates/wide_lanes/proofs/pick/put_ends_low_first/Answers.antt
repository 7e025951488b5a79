use Rattle.std.proofs.Common.{◌++◌, take, ap, ◌∙◌}
use Rattle.wide_lanes.specs.Ends.{picked_pairs}
use Rattle.wide_lanes.proofs.PickLemmas.{picked_low}
use Rattle.wide_lanes.proofs.pick.put_ends_low_first.Goals as goal

pub returns-clause-front : goal.returns-clause-front
returns-clause-front c =
    c.put_pairs.ensures.front
    ∙ ap (λ v. take c.args.at c.args.output.now ++ v) (ap (picked_pairs c.args.ends.mask) c.bytes_of.ensures.value ∙ picked_low c.args.ends.mask c.args.ends.numbers)
