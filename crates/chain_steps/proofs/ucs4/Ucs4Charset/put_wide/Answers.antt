use Rattle.std.proofs.Common.{arith}
use Rattle.chain_steps.proofs.WideSets.{fours_wide}
use Rattle.chain_steps.proofs.ucs4.Ucs4Charset.put_wide.Goals as goal

pub returns-clause-put : goal.returns-clause-put
returns-clause-put g c =
    fours_wide c.args._state c.args.wide.points c.args.at 32 c.args.output.now c.put_in_fours.new.output c.requires.wide
    (record { within = omega arith; front = c.put_in_fours.ensures.front; rest = c.put_in_fours.ensures.rest })
