use Rattle.std.proofs.Common.{◌≡◌, drop}
use Rattle.module_counts.specs.Tracking.{is_kept}
use Rattle.module_counts.specs.Stocks.{lists, cleared}
use Rattle.module_counts.proofs.homes.clear_all.Given as goal

abbrev pub invariant-loop-module : goal.invariant-loop-module
invariant-loop-module l = cleared (is_kept l.ages) (lists l.rows) (drop l.module-index l.order) ≡ cleared (is_kept l.ages) (lists l.initial.rows) l.order
