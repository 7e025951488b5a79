use Rattle.std.proofs.Common.{◌∙◌, List, Option, sym, ap, subst}
use Rattle.module_counts.specs.Lives.{Living, counts_of, AreLives, somes}
use Rattle.module_counts.specs.declared.lives.Live.{Live}
use Rattle.module_counts.proofs.Slots.{lives_skip, somes_skipped}
use Rattle.module_counts.proofs.lives.Lives.skip.Goals as goal

pub invariant_of-self : goal.invariant_of-self
invariant_of-self c = subst (λ (z : List (Option Live)). AreLives z (counts_of c.self.inside.pairs) c.self.inside.count) (sym c.push_within.ensures.items)
    (lives_skip c.self.inside.slots.items (counts_of c.self.inside.pairs) c.self.inside.count c.self.invariant)

pub returns-clause-items : goal.returns-clause-items
returns-clause-items c = ap somes c.push_within.ensures.items ∙ (somes_skipped c.self.inside.slots.items ∙ ap (λ (z : Living). z.items) c.self.view_is)
