use Rattle.std.proofs.Common.{◌≡◌, ◌≤◌, ◌<◌, ◌-◌}
use Rattle.std.specs.List.{range_with_len}
use Rattle.history_core.specs.Tokens.{IsPassOf, number, front}
use Rattle.two_threads.specs.Amounts.{amounts_of}
use Rattle.two_threads.proofs.adding.add_all.Given as goal

abbrev pub invariant-loop-amount : goal.invariant-loop-amount
invariant-loop-amount g l = IsPassOf l.hall l.pass × (number l.pass ≡ number l.initial.pass)
    × (0 < l.amount) × (l.amount ≤ 1001)
    × (amounts_of (number l.initial.pass) (front l.pass) ≡ range_with_len 1 (l.amount - 1))

abbrev pub decreases-loop-amount : goal.decreases-loop-amount
decreases-loop-amount g l = 1001 - l.amount
