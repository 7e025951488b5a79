use Rattle.std.proofs.Common.{◌≡◌, take}
use Rattle.pair_openings.proofs.parts.copied.Given as goal

abbrev pub invariant-loop-page : goal.invariant-loop-page
invariant-loop-page l = record {
  same : l.list.items ≡ take l.page-index l.pages;
}
