use Rattle.std.proofs.Common.{Some, ap, ◌∙◌, sym}
use Rattle.std.specs.Arc.{arc_value}
use Rattle.derivation_cache.specs.Trees.{names_order}
use Rattle.derivation_cache.proofs.Forks.{left_rises, right_rises, left_fewer, right_fewer, finds_left, finds_here, finds_right}
use Rattle.derivation_cache.proofs.tree.Tree.+pair.Goals as goal

pub pair-requires : goal.pair-requires
pair-requires t c =
    let s = c.args.self.now in let n = c.deref-in-Less.result.now in
    (left_fewer s c.in-Fork.node n c.in-Fork.is c.deref-in-Less.ensures c.requires t c.decreases, left_rises s c.in-Fork.node n c.in-Fork.is c.deref-in-Less.ensures c.requires)

pub pair-requires-in-Greater : goal.pair-requires-in-Greater
pair-requires-in-Greater t c =
    let s = c.args.self.now in let n = c.deref-in-Greater.result.now in
    (right_fewer s c.in-Fork.node n c.in-Fork.is c.deref-in-Greater.ensures c.requires t c.decreases, right_rises s c.in-Fork.node n c.in-Fork.is c.deref-in-Greater.ensures c.requires)

pub returns-in-Less : goal.returns-in-Less
returns-in-Less t c = let s = c.args.self.now in let n = c.deref-in-Less.result.now in
    c.pair.ensures ∙ sym (finds_left s c.in-Fork.node n c.in-Fork.is c.deref-in-Less.ensures c.requires c.args.from.now c.args.to.now
    (ap (λ p. names_order c.args.from.now c.args.to.now p) (ap (λ m. arc_value m.pair) (c.deref-in-Less.ensures ∙ sym c.deref.ensures) ∙ sym c.deref-in-Fork.ensures) ∙ sym c.place.ensures ∙ c.in-Less.is))

pub returns-in-Equal : goal.returns-in-Equal
returns-in-Equal t c = let s = c.args.self.now in let n = c.deref-in-Equal.result.now in
    ap (λ p. Some p) c.deref-in-Equal-2.ensures ∙ sym (finds_here s c.in-Fork.node n c.in-Fork.is c.deref-in-Equal.ensures c.requires c.args.from.now c.args.to.now
    (ap (λ p. names_order c.args.from.now c.args.to.now p) (ap (λ m. arc_value m.pair) (c.deref-in-Equal.ensures ∙ sym c.deref.ensures) ∙ sym c.deref-in-Fork.ensures) ∙ sym c.place.ensures ∙ c.in-Equal.is))

pub returns-in-Greater : goal.returns-in-Greater
returns-in-Greater t c = let s = c.args.self.now in let n = c.deref-in-Greater.result.now in
    c.pair-in-Greater.ensures ∙ sym (finds_right s c.in-Fork.node n c.in-Fork.is c.deref-in-Greater.ensures c.requires c.args.from.now c.args.to.now
    (ap (λ p. names_order c.args.from.now c.args.to.now p) (ap (λ m. arc_value m.pair) (c.deref-in-Greater.ensures ∙ sym c.deref.ensures) ∙ sym c.deref-in-Fork.ensures) ∙ sym c.place.ensures ∙ c.in-Greater.is))
