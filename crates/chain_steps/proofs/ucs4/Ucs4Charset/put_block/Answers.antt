use Rattle.std.proofs.Common.{arith}
use Rattle.chain_steps.proofs.PlainSets.{four_put}
use Rattle.chain_steps.proofs.ucs4.Ucs4Charset.put_block.Goals as goal

pub returns : goal.returns
returns g c =
    four_put c.args._state c.args.lanes.points c.args.at 64 c.args.output.now c.put_last_of_four.new.output c.requires.plain
    (record { within = omega arith; front = c.put_last_of_four.ensures.front; rest = c.put_last_of_four.ensures.rest })
