use Rattle.wide_lanes.specs.Ends.{picked}
use Rattle.chain_steps.proofs.WideSets.{utf8_wide_block}
use Rattle.chain_steps.proofs.utf8.Utf8Charset.ends.Goals as goal

pub returns : goal.returns
returns g c =
    let e = c.in_ok-read.read.ends in
    let r = c.in_ok-read.ensures in
    utf8_wide_block c.args._state c.args.input.now (picked e.mask e.numbers) c.in_ok-read.read.used r.some r.within r.value r.points
