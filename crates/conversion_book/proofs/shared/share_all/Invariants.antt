use Rattle.std.proofs.Common.{◌≡◌, ◌++◌, map}
use Rattle.std.specs.Arc.{arc_value}
use Rattle.std.specs.Vec.Iter.{into_iter_items, into_iter_len}
use Rattle.conversion_book.proofs.shared.share_all.Given as goal

abbrev pub invariant-loop-table : goal.invariant-loop-table
invariant-loop-table l = map arc_value l.list.items ++ into_iter_items l.rest ≡ into_iter_items l.initial.rest

abbrev pub decreases-loop-table : goal.decreases-loop-table
decreases-loop-table l = into_iter_len l.rest
