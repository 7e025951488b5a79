use Rattle.std.proofs.Common.{◌∙◌, [], subst}
use Rattle.std.proofs.lemmas.List.{get_or_default}
use Rattle.code_table.specs.Eights.{GivesCodes}
use Rattle.code_table.proofs.owned.OwnedLookup.codes.Goals as goal

pub returns-clause-codes : goal.returns-clause-codes
returns-clause-codes c =
    let tables = c.args.self.now.tables.items in
    subst (λ t. GivesCodes t c.args.points.now c.codes.result)
    (c.index.ensures ∙ get_or_default tables c.args.table c.index.result.now [] c.requires.within) c.codes.ensures
