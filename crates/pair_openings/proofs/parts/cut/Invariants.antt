use Rattle.std.proofs.Common.{◌≡◌, ◌≤◌, ◌++◌, length, drop}
use Rattle.module_counts.specs.Stocks.{lists}
use Rattle.pair_openings.specs.Cuts.{cut_by, needs, total}
use Rattle.pair_openings.proofs.parts.cut.Given as goal

abbrev pub invariant-loop-tables : goal.invariant-loop-tables
invariant-loop-tables l = record {
  parts : lists l.parts.items ++ cut_by l.rest (needs (drop l.tables-index l.all)) ≡ cut_by l.pages (needs l.all);
  enough : total (needs (drop l.tables-index l.all)) ≤ length l.rest;
}
