-- Trees may cross threads. A tree leads back to itself, so each layer is shown to cross where its members do.
use denote.RattleType.{RattleType}
use denote.Param.Send.{IsSend, IsSync, sendable}
use denote.Param.SendFields.{declared_send, declared_sync, variants_send, variants_sync}
use denote.Hole.FixSend.{both_send, both_sync, Crosses}
use denote.Enum.Declared as E
use denote.Struct.Declared as S
use Rattle.std.proofs.Crossing.{crosses}
use Rattle.derivation_cache.specs.declared.tree.Tree.TheBlock as block
use Rattle.derivation_cache.specs.contracts.tree.Tree as tree
use Rattle.derivation_cache.specs.contracts.tree.Tree.TheKnot as knot
use Rattle.derivation_cache.proofs.pair.Pair.TheSendSync as pair

fork_send : (R : RattleType) → IsSend R → IsSync R → IsSend (E.row (E.declared (knot.type-Tree R)))
fork_send R s y = variants_send (knot.type-Tree R) (tt, ((search (sendable, crosses, s, y) depth 20, tt), tt))

fork_sync : (R : RattleType) → IsSend R → IsSync R → IsSync (E.row (E.declared (knot.type-Tree R)))
fork_sync R s y = variants_sync (knot.type-Tree R) (tt, ((search (sendable, crosses, s, y) depth 20, tt), tt))

node_layer_send : (R : RattleType) → IsSend R → IsSend (S.row (knot.type-Node R R))
node_layer_send R s = declared_send (knot.type-Node R R) (
  search (sendable, crosses, pair.the_send, pair.the_sync) depth 20,
  (search sendable depth 20, (search (sendable, s) depth 20, (search (sendable, s) depth 20, tt))),
)

node_layer_sync : (R : RattleType) → IsSync R → IsSync (S.row (knot.type-Node R R))
node_layer_sync R y = declared_sync (knot.type-Node R R) (
  search (sendable, crosses, pair.the_send, pair.the_sync) depth 20,
  (search sendable depth 20, (search (sendable, y) depth 20, (search (sendable, y) depth 20, tt))),
)

layers : (i : knot.the_members) → Crosses knot.ring i
layers block.member-Tree = record {
  send = λ h s y. let r = fork_send (h knot.member-Node) (s knot.member-Node) (y knot.member-Node) in record { owned = r.owned; leaving = r.leaving };
  sync = λ h s y. let r = fork_sync (h knot.member-Node) (s knot.member-Node) (y knot.member-Node) in record { shared = r.shared };
}
layers block.member-Node = record {
  send = λ h s y. let r = node_layer_send (h knot.member-Tree) (s knot.member-Tree) in record { owned = r.owned; leaving = r.leaving };
  sync = λ h s y. let r = node_layer_sync (h knot.member-Tree) (y knot.member-Tree) in record { shared = r.shared };
}

node_send : IsSend knot.hole-Node
node_send = both_send knot.ring layers block.member-Node

node_sync : IsSync knot.hole-Node
node_sync = both_sync knot.ring layers block.member-Node

pub tree_send : IsSend tree.the_field.row
tree_send = search (sendable, crosses, node_send, node_sync) depth 20

pub tree_sync : IsSync tree.the_field.row
tree_sync = search (sendable, crosses, node_send, node_sync) depth 20
