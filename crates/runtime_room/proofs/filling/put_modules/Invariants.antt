use Rattle.std.proofs.Common.{length, ◌-◌, ◌≡◌}
use Rattle.history_core.specs.Tokens.{number, front, filled, IsTurnOf}
use Rattle.module_counts.specs.Stocks.{lists}
use Rattle.runtime_room.proofs.Putting.{IsPuttingAll}
use Rattle.runtime_room.proofs.filling.put_modules.Given as goal

abbrev pub invariant-loop-k : goal.invariant-loop-k
invariant-loop-k g l = record {
  turn : IsTurnOf l.initial.turn.hall.now l.turn;
  same : (l.turn.pass.ghost_name ≡ l.initial.turn.pass.ghost_name)
      × (l.turn.hall ≡ l.initial.turn.hall) × (l.turn.value ≡ l.initial.turn.value);
  pass : (number l.turn.pass.now ≡ number l.initial.turn.pass.now)
      × (front l.turn.pass.now ≡ front l.initial.turn.pass.now);
  putting : IsPuttingAll l.modules (lists l.places) l.k (filled l.turn.pass.now);
}

abbrev pub decreases-loop-k : goal.decreases-loop-k
decreases-loop-k g l = length l.modules - l.k
