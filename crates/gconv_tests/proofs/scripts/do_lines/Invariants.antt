use Rattle.gconv_runtime.specs.Tokens.{Leads}
use Rattle.gconv_tests.specs.Seats.{Sits}
use Rattle.gconv_tests.proofs.scripts.do_lines.Given as goal

abbrev pub invariant-loop-line : goal.invariant-loop-line
invariant-loop-line g l = record {
  lead : Leads l.gconv l.lead;
  one : Sits l.gconv l.seats.0;
  two : Sits l.gconv l.seats.1;
}
