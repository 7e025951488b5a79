use Rattle.std.proofs.Common.{arith}
use Rattle.chain_steps.proofs.WideSets.{high_block}
use Rattle.chain_steps.proofs.utf16.Utf16BeCharset.wide.Goals as goal

pub returns-clause-block : goal.returns-clause-block
returns-clause-block g c =
    high_block c.args._state c.args.input.now c.in_ok-wide.wide.points (omega arith) c.in_ok-wide.ensures.1 c.in_ok-wide.ensures.0
