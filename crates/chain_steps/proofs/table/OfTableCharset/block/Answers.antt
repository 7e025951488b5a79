use Rattle.std.proofs.Common.{arith, refl}
use Rattle.code_pairs.specs.Tables.{table_at}
use Rattle.chain_steps.proofs.TableSets.{table_block}
use Rattle.chain_steps.proofs.table.OfTableCharset.block.Goals as goal

pub returns : goal.returns
returns g c =
    let table = table_at (g.T.Lookup.tables c.args.tables.now) c.args.self.now.table in
    table_block table (c.if-not-is_ascii.ensures.ascii refl) c.args._state c.args.input.now c.in_ok-lanes.lanes.points (omega arith) c.in_ok-lanes.ensures.1 c.in_ok-lanes.ensures.0
