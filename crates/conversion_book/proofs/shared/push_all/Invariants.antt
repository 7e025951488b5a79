use Rattle.std.proofs.Common.{◌≡◌, ◌++◌, map, take}
use Rattle.std.specs.Arc.{arc_value}
use Rattle.conversion_book.proofs.shared.push_all.Given as goal

abbrev pub invariant-loop-table : goal.invariant-loop-table
invariant-loop-table l = map arc_value l.list.items ≡ map arc_value l.initial.list.items ++ map arc_value (take l.table-index l.tables)
