use Rattle.std.proofs.Common.{◌≡◌}
use Rattle.history_core.specs.Tokens.{IsPassOf}
use Rattle.two_threads.proofs.adding.add_often.Given as goal

abbrev pub invariant-loop : goal.invariant-loop
invariant-loop g l = IsPassOf l.hall l.pass × (l.hall ≡ l.initial.hall) × (l.lead ≡ l.initial.lead)
