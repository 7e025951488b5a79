use Rattle.std.proofs.Common.{◌≡◌}
use Rattle.two_threads.proofs.measure.look_ups.Given as goal

abbrev pub invariant-loop-k : goal.invariant-loop-k
invariant-loop-k g l = g.T.Lookup.ready l.tables
    × (g.T.Lookup.tables l.tables ≡ g.T.Lookup.tables l.initial.tables)
