use Rattle.std.proofs.Common.{◌≡◌}
use Rattle.charmap_bench.proofs.measure.best_run.Given as goal

abbrev pub invariant-loop : goal.invariant-loop
invariant-loop g l = record {
  same : g.T.Lookup.tables l.tables ≡ g.T.Lookup.tables l.initial.tables;
  ready : g.T.Lookup.ready l.tables;
}
