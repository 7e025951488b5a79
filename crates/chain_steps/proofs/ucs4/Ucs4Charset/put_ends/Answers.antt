use Rattle.wide_lanes.specs.Ends.{picked}
use Rattle.chain_steps.proofs.WideSets.{fours_wide}
use Rattle.chain_steps.proofs.ucs4.Ucs4Charset.put_ends.Goals as goal

pub returns : goal.returns
returns g c =
    let put = c.put_ends_in_fours in
    fours_wide c.args._state (picked c.args.ends.mask c.args.ends.numbers) c.args.at put.result c.args.output.now c.put_ends_in_fours.new.output c.requires.wide
    (record { within = put.ensures.within; front = put.ensures.front; rest = put.ensures.rest })
