use Rattle.std.proofs.Common.{arith}
use Rattle.chain_steps.proofs.PlainSets.{four_block}
use Rattle.chain_steps.proofs.ucs4.Ucs4Charset.block.Goals as goal

pub returns : goal.returns
returns g c =
    four_block c.args._state c.args.input.now c.in_ok-lanes.lanes.points (omega arith) c.in_ok-lanes.ensures.1 c.in_ok-lanes.ensures.0
