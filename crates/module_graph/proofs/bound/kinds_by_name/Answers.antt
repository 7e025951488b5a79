use Rattle.std.proofs.Common.{◌∙◌, sym}
use Rattle.module_graph.proofs.KindsByName.{map_kept, map_more}
use Rattle.module_graph.proofs.bound.kinds_by_name.Goals.{then-not-contains_key+in_ok-insert, else-not-contains_key}
use Rattle.module_graph.proofs.bound.kinds_by_name.Goals as goal

pub loop-binding-preserved : goal.loop-binding-preserved
loop-binding-preserved c = elim c.if-not-contains_key.branch [
  | then-not-contains_key+in_ok-insert w ↦ rw w.kinds-is
      (map_more c.loop-binding.kinds c.args.bindings.now c.loop-binding.binding-index c.binding-item.result c.loop-binding-test.true c.binding-item.is c.loop-binding.invariant w.insert.new.self
      (sym c.contains_key.ensures ∙ w.if-not-contains_key.true) (rw (w.copied.ensures, w.copied-then-not-contains_key.ensures) at w.in_ok-insert.ensures.updates.0))
  | else-not-contains_key w ↦ rw w.kinds-is
      (map_kept c.loop-binding.kinds c.args.bindings.now c.loop-binding.binding-index c.binding-item.result c.loop-binding-test.true c.binding-item.is c.loop-binding.invariant
      (sym c.contains_key.ensures ∙ w.if-not-contains_key.false))
]
