use Rattle.std.proofs.Common.{◌++◌, Option, map, subst}
use Rattle.runtime_histories.specs.Deeds.{releases}
use Rattle.module_counts.specs.Tracking.{IsTracking, listed}
use Rattle.module_counts.proofs.ages.Ages.stop_one.Goals as goal
use Rattle.std.proofs.Common.{ℕ}

pub returns-in-Some-clause-tracks : goal.returns-in-Some-clause-tracks
returns-in-Some-clause-tracks c = λ ms t.
    subst (λ (o : Option ℕ). IsTracking c.stop.new.self (ms ++ map releases (listed o))) c.in-Some.ensures (c.stop.ensures.tracks ms t)
