use Rattle.chain_steps.proofs.WideSets.{utf8_wide_block}
use Rattle.chain_steps.proofs.utf8.Utf8Charset.wide.Goals as goal

pub returns-clause-block : goal.returns-clause-block
returns-clause-block g c =
    let r = c.in_ok-read.ensures in
    utf8_wide_block c.args._state c.args.input.now c.in_ok-read.read.wide.points c.in_ok-read.read.used r.some r.within r.value r.points
