use Rattle.std.proofs.Common.{sym, subst, rules, is_some, false, ◌≡◌}
use Rattle.std.specs.Arc.{arc_value}
use Rattle.derivation_cache.specs.Known.{Known, IsLeastPair, pair_by, pair_of}
use Rattle.derivation_cache.specs.Trees.{known_of, in_order}
use Rattle.derivation_cache.proofs.Trees.{grows}
use Rattle.derivation_cache.proofs.told.Told.with.Goals as goal

pub invariant_of-result : goal.invariant_of-result
invariant_of-result c =
    let l = arc_value c.self.inside.list in let k = known_of l.record in let n = arc_value c.in_ok-new.field-0 in
    let p = pair_by c.args.from.now c.args.to.now c.args.chain.now in
    grows k p (known_of n.record) (in_order l.tree) (in_order n.tree) l.count n.count c.self.invariant
    (subst (λ (x : Known). IsLeastPair x.graph p) (sym c.self.view_is) c.requires.least)
    (subst (λ (x : Known). is_some (pair_of x p.from p.to) ≡ false) (sym c.self.view_is) c.requires.new)
    (search rules)
    (search rules)
    (search rules)
