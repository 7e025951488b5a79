use Rattle.std.proofs.Common.{rules}
use Rattle.std.specs.Arc.{arc_value}
use Rattle.derivation_cache.specs.Trees.{in_order, put}
use Rattle.derivation_cache.proofs.Forks.{left_rises, right_rises, left_fewer, right_fewer, puts_left, puts_right, forks}
use Rattle.derivation_cache.proofs.tree.Tree.+with.Goals as goal

pub with-requires : goal.with-requires
with-requires t c =
    let s = c.args.self.now in let n = c.deref-in-Less.result.now in
    (left_fewer s c.in-Fork.node n c.in-Fork.is c.deref-in-Less.ensures c.requires t c.decreases, left_rises s c.in-Fork.node n c.in-Fork.is c.deref-in-Less.ensures c.requires)

pub with-requires-in_default : goal.with-requires-in_default
with-requires-in_default t c =
    let s = c.args.self.now in let n = c.deref-in_default.result.now in
    (right_fewer s c.in-Fork.node n c.in-Fork.is c.deref-in_default.ensures c.requires t c.decreases, right_rises s c.in-Fork.node n c.in-Fork.is c.deref-in_default.ensures c.requires)

pub returns-in_ok-shared-in-Less : goal.returns-in_ok-shared-in-Less
returns-in_ok-shared-in-Less t c =
    let s = c.args.self.now in let n = c.deref-in-Less.result.now in let p = arc_value c.args.pair in
    forks c.balanced.result c.in_ok-left-in-Less.left c.in_ok-shared-in-Less.field-0 (arc_value c.in_ok-here-in-Fork.here) (put p (in_order n.left)) (arc_value n.pair) (in_order n.right) (put p (in_order s))
    c.balanced.ensures (c.in_ok-left-in-Less.ensures) (search rules) (search rules)
    (puts_left s c.in-Fork.node n c.in-Fork.is c.deref-in-Less.ensures c.requires p (search rules))

pub returns-in_ok-shared-in_default : goal.returns-in_ok-shared-in_default
returns-in_ok-shared-in_default t c =
    let s = c.args.self.now in let n = c.deref-in_default.result.now in let p = arc_value c.args.pair in
    forks c.balanced-in_default.result c.in_ok-shared-in_default.field-0 c.in_ok-right-in_default.right (arc_value c.in_ok-here-in-Fork.here) (in_order n.left) (arc_value n.pair) (put p (in_order n.right)) (put p (in_order s))
    c.balanced-in_default.ensures (search rules) (search rules) (c.in_ok-right-in_default.ensures)
    (puts_right s c.in-Fork.node n c.in-Fork.is c.deref-in_default.ensures c.requires p (search rules))
