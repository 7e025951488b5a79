use Rattle.std.proofs.Common.{◌≡◌, ◌+◌, drop}
use Rattle.runtime_histories.specs.Places.{pages_for}
use Rattle.pair_openings.proofs.parts.pages_of.Given as goal

abbrev pub invariant-loop-table : goal.invariant-loop-table
invariant-loop-table l = record {
  counted : l.count + pages_for (drop l.table-index l.tables) ≡ pages_for l.tables;
}
