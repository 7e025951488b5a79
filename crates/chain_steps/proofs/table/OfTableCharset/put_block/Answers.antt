use Rattle.std.proofs.Common.{arith, refl}
use Rattle.code_pairs.specs.Tables.{table_at}
use Rattle.chain_steps.proofs.TableSets.{table_put}
use Rattle.chain_steps.proofs.table.OfTableCharset.put_block.Goals as goal

pub returns : goal.returns
returns g c =
    let table = table_at (g.T.Lookup.tables c.args.tables.now) c.args.self.now.table in
    table_put table (c.if-not-is_ascii.ensures.ascii refl) c.args._state c.args.lanes.points c.args.at 16 c.args.output.now c.put_plain.new.output c.requires.plain
    (record { within = omega arith; front = c.put_plain.ensures.front; rest = c.put_plain.ensures.rest })
