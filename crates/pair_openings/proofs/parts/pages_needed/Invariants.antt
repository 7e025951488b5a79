use Rattle.std.proofs.Common.{◌≡◌, ◌+◌, drop}
use Rattle.pair_openings.specs.Cuts.{needs, total}
use Rattle.pair_openings.proofs.parts.pages_needed.Given as goal

abbrev pub invariant-loop-tables : goal.invariant-loop-tables
invariant-loop-tables l = record {
  counted : l.count + total (needs (drop l.tables-index l.all)) ≡ total (needs l.all);
}
