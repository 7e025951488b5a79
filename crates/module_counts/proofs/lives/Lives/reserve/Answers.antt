use Rattle.std.proofs.Common.{List, Option, sym, ap, subst}
use Rattle.std.specs.Option.{unwrap_or}
use Rattle.module_counts.specs.Lives.{counts_of, AreLives}
use Rattle.module_counts.specs.declared.lives.Live.{Live}
use Rattle.module_counts.proofs.Slots.{lives_same}
use Rattle.module_counts.proofs.lives.Lives.reserve.Goals as goal

pub invariant_of-self-2 : goal.invariant_of-self-2
invariant_of-self-2 c = subst (λ (z : List (Option Live)). AreLives z (counts_of c.reserve-2.new.self) c.self.inside.count) (sym c.reserve.ensures.items)
    (lives_same c.self.inside.slots.items (counts_of c.self.inside.pairs) (counts_of c.reserve-2.new.self) c.self.inside.count c.self.invariant
    (λ q. ap (λ o. unwrap_or o 0) (c.reserve-2.ensures.entries.2 q)))
