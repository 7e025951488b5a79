use Rattle.std.proofs.Common.{length, ◌-◌, ◌≡◌}
use Rattle.history_core.specs.Tokens.{number, front, filled, IsTurnOf}
use Rattle.runtime_room.specs.Puts.{KeepsElse}
use Rattle.runtime_room.proofs.Putting.{IsPutting}
use Rattle.runtime_room.proofs.filling.put_tables.Given as goal

abbrev pub invariant-loop-k : goal.invariant-loop-k
invariant-loop-k g l = record {
  turn : IsTurnOf l.initial.turn.hall.now l.turn;
  same : (l.turn.pass.ghost_name ≡ l.initial.turn.pass.ghost_name)
      × (l.turn.hall ≡ l.initial.turn.hall) × (l.turn.value ≡ l.initial.turn.value);
  pass : (number l.turn.pass.now ≡ number l.initial.turn.pass.now)
      × (front l.turn.pass.now ≡ front l.initial.turn.pass.now);
  putting : IsPutting l.tables l.pages l.k l.rest (filled l.turn.pass.now);
  others : KeepsElse l.pages (filled l.initial.turn.pass.now) (filled l.turn.pass.now);
}

abbrev pub decreases-loop-k : goal.decreases-loop-k
decreases-loop-k g l = length l.tables - l.k
