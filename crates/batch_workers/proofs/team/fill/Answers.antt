use Rattle.std.proofs.Common.{◌∙◌, ◌<◌, Some, length, slice_set, sym, arith}
use Rattle.batch_workers.proofs.Filling.{filled-last, slot_set-out, slot_set-set}
use Rattle.batch_workers.proofs.team.fill.Goals as goal

pub pieces-preserved-then-at-slots : goal.pieces-preserved-then-at-slots
pieces-preserved-then-at-slots c =
    let d = c.in-Some.piece in
    let low : d.place < length c.pieces.slots = (let t = c.if-at-slots.true in let a = c.pieces.auto.slots in omega (arith, t, a)) in
    filled-last c.pieces.slots (slice_set c.pieces.slots d.place (Some d)) c.pieces.pieces.items c.pop.new.self.items d c.in-Some.ensures.items
    (sym (slot_set-set c.pieces.slots d.place d low)) ∙ c.pieces.invariant

pub pieces-preserved-then-at-slots-2 : goal.pieces-preserved-then-at-slots-2
pieces-preserved-then-at-slots-2 c =
    let d = c.in-Some.piece in
    let low : d.place < length c.pieces.slots = (let t = c.if-at-slots.true in let a = c.pieces.auto.slots in omega (arith, t, a)) in
    filled-last c.pieces.slots (slice_set c.pieces.slots d.place (Some d)) c.pieces.pieces.items c.pop.new.self.items d c.in-Some.ensures.items
    (sym (slot_set-set c.pieces.slots d.place d low)) ∙ c.pieces.invariant

pub pieces-preserved : goal.pieces-preserved
pieces-preserved c =
    let d = c.in-Some.piece in
    filled-last c.pieces.slots c.pieces.slots c.pieces.pieces.items c.pop.new.self.items d c.in-Some.ensures.items
    (sym (slot_set-out c.pieces.slots d.place d (let t = c.if-at-slots.false in let a = c.pieces.auto.slots in omega (arith, t, a)))) ∙ c.pieces.invariant
