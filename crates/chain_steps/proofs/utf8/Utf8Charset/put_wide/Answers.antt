use Rattle.chain_steps.proofs.WideSets.{utf8_wide}
use Rattle.chain_steps.proofs.utf8.Utf8Charset.put_wide.Goals as goal

pub returns-clause-put : goal.returns-clause-put
returns-clause-put g c =
    utf8_wide c.args._state c.args.wide.points c.args.at c.put_utf8.result c.args.output.now c.put_utf8.new.output c.requires.wide
    (record { within = c.put_utf8.ensures.within; front = c.put_utf8.ensures.front; rest = c.put_utf8.ensures.rest })
