use Rattle.std.proofs.Common.{arith}
use Rattle.chain_steps.proofs.WideSets.{high_wide}
use Rattle.chain_steps.proofs.utf16.Utf16BeCharset.put_wide.Goals as goal

pub returns-clause-put : goal.returns-clause-put
returns-clause-put g c =
    high_wide c.args._state c.args.wide.points c.args.at 16 c.args.output.now c.put_high_first.new.output c.requires.wide
    (record { within = omega arith; front = c.put_high_first.ensures.front; rest = c.put_high_first.ensures.rest })
