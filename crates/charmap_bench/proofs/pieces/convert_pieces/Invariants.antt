use Rattle.std.proofs.Common.{length, ◌-◌, ◌≡◌, ◌≤◌}
use Rattle.charmap_bench.proofs.pieces.convert_pieces.Given as goal

abbrev pub invariant-loop-consumed : goal.invariant-loop-consumed
invariant-loop-consumed g l = record {
  within : l.consumed ≤ length l.input;
  recipe : l.runner.recipe ≡ l.initial.runner.recipe;
  same : g.T.Lookup.tables l.tables ≡ g.T.Lookup.tables l.initial.tables;
  ready : g.T.Lookup.ready l.tables;
}

abbrev pub decreases-loop-consumed : goal.decreases-loop-consumed
decreases-loop-consumed g l = length l.input - l.consumed
