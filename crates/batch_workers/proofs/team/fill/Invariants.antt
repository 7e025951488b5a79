use Rattle.std.proofs.Common.{◌≡◌}
use Rattle.batch_workers.specs.Teams.{filled}
use Rattle.batch_workers.proofs.team.fill.Given as goal

abbrev pub invariant-pieces : goal.invariant-pieces
invariant-pieces l = filled l.slots l.pieces.items ≡ filled l.initial.slots l.initial.pieces.items

abbrev pub decreases-pieces : goal.decreases-pieces
decreases-pieces l = goal.left-pieces l
