use Rattle.std.proofs.Common.{◌≡◌, drop}
use Rattle.batch_runs.specs.Batches.{all_good}
use Rattle.batch_alone.proofs.settling.all_good.Given as goal

abbrev pub invariant-outcomes : goal.invariant-outcomes
invariant-outcomes l = all_good l.outcomes ≡ all_good (drop l.outcome-index l.outcomes)
