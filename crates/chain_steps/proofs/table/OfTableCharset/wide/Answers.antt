use Rattle.code_pairs.specs.Tables.{table_at}
use Rattle.chain_steps.proofs.TableSets.{eight_block}
use Rattle.chain_steps.proofs.table.OfTableCharset.wide.Goals as goal

pub returns-clause-block : goal.returns-clause-block
returns-clause-block g c =
    let table = table_at (g.T.Lookup.tables c.args.tables.now) c.args.self.now.table in
    eight_block table (g.met.T.Lookup.well_formed c.args.tables.now c.args.self.now.table c.requires.ready) c.codes_have_points.ensures
    c.args._state c.args.input.now c.in_ok-eight.eight c.in_ok-eight.ensures.eight
