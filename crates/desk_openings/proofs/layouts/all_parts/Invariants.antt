use Rattle.std.proofs.Common.{◌≡◌, ◌++◌, map, drop}
use Rattle.code_table.specs.Layouts.{layout_of}
use Rattle.desk_openings.proofs.layouts.all_parts.Given as goal

abbrev pub invariant-loop-table : goal.invariant-loop-table
invariant-loop-table l = record {
  made : l.list.items ++ map layout_of (drop l.table-index l.tables) ≡ map layout_of l.tables;
}
