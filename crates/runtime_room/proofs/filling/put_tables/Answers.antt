use Rattle.std.proofs.Common.{subst, sym, ap, ◌∙◌, ◌+◌, false, ◌≡◌, ◌/◌, ℕ, List, arith}
use Rattle.code_table.specs.Images.{page_count}
use Rattle.history_core.specs.Tokens.{filled, IsTurnOf}
use Rattle.runtime_histories.specs.Places.{among}
use Rattle.runtime_room.proofs.Putting.{IsPutting, can_cut, can_later, enough_next, putting_next, putting_all, among-take, among-drop}
use Rattle.runtime_room.proofs.filling.put_tables.Goals as goal

pub put_next-rest-requires-clause-enough : goal.put_next-rest-requires-clause-enough
put_next-rest-requires-clause-enough g c =
    enough_next c.args.tables.now c.loop-k.k c.index-tables-k.result _ c.loop-k-test.true (sym c.index-tables-k.is) c.loop-k.invariant.putting.fits

pub put_next-rest-requires-clause-free : goal.put_next-rest-requires-clause-free
put_next-rest-requires-clause-free g c = let inv = c.loop-k.invariant in
    can_later c.args.turn.now c.loop-k.turn c.loop-k.rest.now inv.same.1 inv.pass.1
    (can_cut c.args.turn.now.hall.now c.args.turn.now.pass.now c.args.pages.now c.loop-k.rest.now inv.putting.n c.requires.free inv.putting.rest_is)

pub loop-k-preserved : goal.loop-k-preserved
loop-k-preserved g c =
    let inv = c.loop-k.invariant in
    let f = c.put_next-rest.ensures in
    let can = can_cut c.args.turn.now.hall.now c.args.turn.now.pass.now c.args.pages.now c.loop-k.rest.now inv.putting.n c.requires.free inv.putting.rest_is in
    record {
      turn = subst (λ h. IsTurnOf h c.put_next-rest.new.turn) (ap (λ h. h.now) inv.same.1) f.turn;
      same = (f.same.0 ∙ inv.same.0, f.same.1 ∙ inv.same.1, f.same.2 ∙ inv.same.2);
      pass = (f.pass.0 ∙ inv.pass.0, f.pass.1 ∙ inv.pass.1);
      putting = subst (λ (r : List ℕ). IsPutting c.args.tables.now c.args.pages.now (c.loop-k.k + 1) r (filled c.put_next-rest.new.turn.pass.now)) (sym f.rest)
          (putting_next c.args.tables.now c.args.pages.now c.loop-k.k c.loop-k.rest.now (filled c.loop-k.turn.pass.now) (filled c.put_next-rest.new.turn.pass.now) c.index-tables-k.result
          inv.putting c.loop-k-test.true (sym c.index-tables-k.is) can.once f.put f.others);
      others = λ place e. f.others place (among-take (page_count c.index-tables-k.result) (place / 256) c.loop-k.rest.now
          (subst (λ (r : List ℕ). among (place / 256) r ≡ false) (sym inv.putting.rest_is) (among-drop inv.putting.n (place / 256) c.args.pages.now e))) ∙ inv.others place e;
    }

pub returns-clause-put : goal.returns-clause-put
returns-clause-put g c = let z = c.loop-k-test.false in
    putting_all c.args.tables.now c.args.pages.now c.loop-k.k c.loop-k.rest.now (filled c.loop-k.turn.pass.now) c.loop-k.invariant.putting (omega arith)
