use Rattle.code_pairs.specs.Tables.{table_at}
use Rattle.chain_steps.proofs.TableSets.{all_put}
use Rattle.chain_steps.proofs.table.OfTableCharset.put_wide.Goals as goal

pub returns-clause-put : goal.returns-clause-put
returns-clause-put g c =
    let table = table_at (g.T.Lookup.tables c.args.tables.now) c.args.self.now.table in
    all_put table c.args._state c.args.wide.points c.args.at c.args.output.now c.write_eight.new.output c.write_eight.result c.write_eight.ensures.put
