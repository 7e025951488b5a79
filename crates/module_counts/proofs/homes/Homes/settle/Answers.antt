use Rattle.std.proofs.Common.{◌≡◌, ◌<◌, ℕ, length, sym, ap, ◌∙◌, subst}
use Rattle.std.specs.List.{AllByRecursion}
use Rattle.runtime_histories.specs.declared.loads.Load.{Load}
use Rattle.module_counts.specs.Tracking.{is_kept}
use Rattle.module_counts.specs.Stocks.{lists}
use Rattle.module_counts.proofs.Homing.{length-cleared, length-lists}
use Rattle.module_counts.proofs.homes.Homes.settle.Goals as goal

pub place_all-requires-clause-known : goal.place_all-requires-clause-known
place_all-requires-clause-known c =
    let old = c.args.self.now in let new = c.sweep.new.self in
    let same : length new.rows.items ≡ length old.rows.items = sym (length-lists new.rows.items) ∙ (ap length c.sweep.ensures.rows
    ∙ (length-cleared (is_kept c.args.ages.now) (lists old.rows.items) old.order.items ∙ length-lists old.rows.items)) in
    subst (λ (n : ℕ). AllByRecursion (λ (l : Load). l.«module» < n) c.args.loads.now) (sym same) c.requires.known
