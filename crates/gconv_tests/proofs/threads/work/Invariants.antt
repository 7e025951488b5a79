use Rattle.gconv_runtime.specs.Tokens.{Knows}
use Rattle.gconv_tests.proofs.threads.work.Given as goal

abbrev pub invariant-loop : goal.invariant-loop
invariant-loop g l = record { knows : Knows l.gconv l.caller }
