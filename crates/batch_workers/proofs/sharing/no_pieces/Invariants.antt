use Rattle.std.proofs.Common.{◌≡◌}
use Rattle.batch_workers.specs.Teams.{no_pieces}
use Rattle.batch_workers.proofs.sharing.no_pieces.Given as goal

abbrev pub invariant-slots : goal.invariant-slots
invariant-slots l = l.slots.items ≡ no_pieces l.counter
