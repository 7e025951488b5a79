use Rattle.std.proofs.Common.{subst, sym, ap, ◌∙◌, ◌+◌, drop, length, ℕ, List, arith}
use Rattle.std.specs.List.{AllByRecursion}
use Rattle.code_pairs.specs.Tables.{Tables}
use Rattle.history_core.specs.Tokens.{filled, IsTurnOf}
use Rattle.module_counts.specs.Stocks.{lists}
use Rattle.runtime_histories.specs.Places.{pages_for}
use Rattle.runtime_room.specs.Puts.{IsPut, KeepsElse, CanPut, joined}
use Rattle.runtime_room.specs.Rooms.{parts}
use Rattle.runtime_room.proofs.Putting.{can_cut, can_later, can_first, next_module, fits_next, putting_all_next, putting_all_done}
use Rattle.runtime_room.proofs.filling.put_modules.Goals as goal

pub put_tables-requires-clause-fits : goal.put_tables-requires-clause-fits
put_tables-requires-clause-fits g c =
    let n = next_module c.args.modules.now c.args.places.now c.loop-k.k c.index-modules-k.result c.index-places-k.result c.requires.fits c.loop-k-test.true (sym c.index-modules-k.is) (sym c.index-places-k.is) in
    ap length c.as_slice-in-loop-k.ensures.value
    ∙ ((fits_next c.args.modules.now c.args.places.now c.loop-k.k c.index-modules-k.result c.index-places-k.result n c.loop-k.invariant.putting.fits).0
    ∙ ap pages_for (sym c.as_slice.ensures.value))

pub put_tables-requires-clause-free : goal.put_tables-requires-clause-free
put_tables-requires-clause-free g c =
    let n = next_module c.args.modules.now c.args.places.now c.loop-k.k c.index-modules-k.result c.index-places-k.result c.requires.fits c.loop-k-test.true (sym c.index-modules-k.is) (sym c.index-places-k.is) in
    let inv = c.loop-k.invariant in
    let hall = c.args.turn.now.hall.now in let pass = c.args.turn.now.pass.now in
    subst (λ (p : List ℕ). CanPut c.loop-k.turn.hall.now c.loop-k.turn.pass.now p) (sym c.as_slice-in-loop-k.ensures.value)
    (can_later c.args.turn.now c.loop-k.turn c.index-places-k.result.items inv.same.1 inv.pass.1
    (can_first hall pass (joined (drop c.loop-k.k (lists c.args.places.now))) c.index-places-k.result.items (joined (drop (c.loop-k.k + 1) (lists c.args.places.now)))
    (can_cut hall pass (joined (lists c.args.places.now)) (joined (drop c.loop-k.k (lists c.args.places.now))) inv.putting.n c.requires.free inv.putting.rest_is) (ap joined n.places)))

pub loop-k-preserved : goal.loop-k-preserved
loop-k-preserved g c =
    let n = next_module c.args.modules.now c.args.places.now c.loop-k.k c.index-modules-k.result c.index-places-k.result c.requires.fits c.loop-k-test.true (sym c.index-modules-k.is) (sym c.index-places-k.is) in
    let inv = c.loop-k.invariant in
    let f = c.put_tables.ensures in
    let can = can_cut c.args.turn.now.hall.now c.args.turn.now.pass.now (joined (lists c.args.places.now)) (joined (drop c.loop-k.k (lists c.args.places.now))) inv.putting.n c.requires.free inv.putting.rest_is in
    record {
      turn = subst (λ h. IsTurnOf h c.put_tables.new.turn) (ap (λ h. h.now) inv.same.1) f.turn;
      same = (f.same.0 ∙ inv.same.0, f.same.1 ∙ inv.same.1, f.same.2 ∙ inv.same.2);
      pass = (f.pass.0 ∙ inv.pass.0, f.pass.1 ∙ inv.pass.1);
      putting = putting_all_next c.args.modules.now c.args.places.now c.loop-k.k (filled c.loop-k.turn.pass.now) (filled c.put_tables.new.turn.pass.now) c.index-modules-k.result c.index-places-k.result
          inv.putting n can.once
          (subst (λ (t : Tables). AllByRecursion (IsPut (filled c.put_tables.new.turn.pass.now)) (parts t c.index-places-k.result.items)) c.as_slice.ensures.value
          (subst (λ (p : List ℕ). AllByRecursion (IsPut (filled c.put_tables.new.turn.pass.now)) (parts c.as_slice.result.now p)) c.as_slice-in-loop-k.ensures.value f.put))
          (subst (λ (p : List ℕ). KeepsElse p (filled c.loop-k.turn.pass.now) (filled c.put_tables.new.turn.pass.now)) c.as_slice-in-loop-k.ensures.value f.others);
    }

pub returns-clause-put : goal.returns-clause-put
returns-clause-put g c = let z = c.loop-k-test.false in
    putting_all_done c.args.modules.now (lists c.args.places.now) c.loop-k.k (filled c.loop-k.turn.pass.now) c.loop-k.invariant.putting (omega arith)
