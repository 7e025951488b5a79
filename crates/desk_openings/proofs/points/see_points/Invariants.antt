use Rattle.std.proofs.Common.{drop}
use Rattle.std.specs.List.{AllByRecursion}
use Rattle.code_pairs.specs.Tables.{HasPoints}
use Rattle.desk_openings.proofs.points.see_points.Given as goal

abbrev pub invariant-loop-tables : goal.invariant-loop-tables
invariant-loop-tables l = record {
  seen : AllByRecursion (AllByRecursion HasPoints) (drop l.tables-index l.all) → AllByRecursion (AllByRecursion HasPoints) l.all;
}
