use Rattle.std.proofs.Common.{◌++◌, Option, map, subst}
use Rattle.runtime_histories.specs.Deeds.{uses}
use Rattle.module_counts.specs.Tracking.{IsTracking, listed}
use Rattle.module_counts.proofs.ages.Ages.start_one.Goals as goal
use Rattle.std.proofs.Common.{ℕ}

pub returns-in-Some-clause-tracks : goal.returns-in-Some-clause-tracks
returns-in-Some-clause-tracks c = λ ms t.
    subst (λ (o : Option ℕ). IsTracking c.start.new.self (ms ++ map uses (listed o))) c.in-Some.ensures (c.start.ensures.tracks ms t)
