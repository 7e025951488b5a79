use Rattle.std.proofs.Common.{subst}
use Rattle.code_pairs.specs.Tables.{HasPoints}
use Rattle.code_table.proofs.table.CodeTable.is_of_points.Goals as goal

pub returns : goal.returns
returns c = subst HasPoints c.self.view_is c.self.invariant.0.numbers
