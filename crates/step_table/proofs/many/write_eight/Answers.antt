use Rattle.std.proofs.Common.{◌∙◌, ◌++◌, ap, take}
use Rattle.code_pairs.specs.Tables.{table_at}
use Rattle.step_table.proofs.ManyLaws.{codes_spell, codes_there}
use Rattle.step_table.proofs.many.write_eight.Goals as goal

pub returns-clause-put : goal.returns-clause-put
returns-clause-put g c =
    let table = table_at (g.T.Lookup.tables c.args.tables.now) c.args.table in
    let codes = c.in_ok-codes.ensures.codes in
    let list = c.in_ok-codes.codes.list in
    record {
      has = codes_there table c.args.points list codes;
      within = c.put_codes.ensures.within;
      front = c.put_codes.ensures.front ∙ ap (λ z. take c.args.at c.args.output.now ++ z) (codes_spell table c.args.points list codes);
      rest = c.put_codes.ensures.rest;
    }
