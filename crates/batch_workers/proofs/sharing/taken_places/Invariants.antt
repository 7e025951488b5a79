use Rattle.std.proofs.Common.{◌≡◌, map, take}
use Rattle.batch_alone.specs.Readings.{taking_of}
use Rattle.batch_workers.specs.Toils.{taken_places}
use Rattle.batch_workers.proofs.sharing.taken_places.Given as goal

abbrev pub invariant-inputs : goal.invariant-inputs
invariant-inputs l = l.places.items ≡ taken_places (map taking_of (take l.at l.inputs))
