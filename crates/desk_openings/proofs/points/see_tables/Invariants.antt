use Rattle.std.proofs.Common.{drop}
use Rattle.std.specs.List.{AllByRecursion}
use Rattle.code_pairs.specs.Tables.{HasPoints}
use Rattle.desk_openings.proofs.points.see_tables.Given as goal

abbrev pub invariant-loop-table : goal.invariant-loop-table
invariant-loop-table l = record {
  seen : AllByRecursion HasPoints (drop l.table-index l.tables) → AllByRecursion HasPoints l.tables;
}
