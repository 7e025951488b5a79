use Rattle.gconv_runtime.specs.Tokens.{Knows, Leads}
use Rattle.gconv_tests.proofs.seats.end.Given as goal

abbrev pub invariant-loop : goal.invariant-loop
invariant-loop g l = record {
  lead : Leads l.gconv l.lead;
  knows : Knows l.gconv l.staying;
}
