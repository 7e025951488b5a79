use Rattle.std.proofs.Common.{◌≡◌, take}
use Rattle.desk_openings.proofs.pins.copied.Given as goal

abbrev pub invariant-loop-page : goal.invariant-loop-page
invariant-loop-page l = record {
  same : l.list.items ≡ take l.page-index l.pages;
}
