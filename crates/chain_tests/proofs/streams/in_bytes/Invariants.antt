use Rattle.std.proofs.Common.{◌≤◌}
use Rattle.chain_tests.proofs.streams.in_bytes.Given as goal

abbrev pub invariant-loop-byte : goal.invariant-loop-byte
invariant-loop-byte g l = record {
  ready : g.C.Converter.ready l.converter;
  taken : l.session.taken ≤ l.byte-index;
}
