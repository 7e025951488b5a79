use Rattle.std.proofs.Common.{get_or, ◌≡◌, ◌∙◌, eq-eqb, ne_eqb, ◌+◌, ap, sym, cond, Some, Bool, List, ℕ, drop}
use Rattle.module_counts.specs.Stocks.{lists}
use Rattle.runtime_histories.specs.declared.loads.Load.{Load}
use Rattle.desk_openings.specs.Pinning.{given_to}
use Rattle.desk_openings.proofs.Pinned.{given_at, given_other}
use Rattle.desk_openings.proofs.pins.given_pages.Goals as goal

pub returns-then-loads-place : goal.returns-then-loads-place
returns-then-loads-place c =
    let k = c.loop-place.place in
    let x : Load = get_or c.args.loads.now k c.index-loads-place.result in
    let x_is : x ≡ get_or c.args.loads.now k x = ap (λ (z : Load). get_or c.args.loads.now k z) c.index-loads-place.is in
    c.loop-place.invariant.same
    ∙ (given_at c.args.«module» c.loop-place.place c.args.loads.now c.args.places.now x c.index-places-place.result c.requires c.loop-place-test.true x_is c.index-places-place.is
    ∙ (ap (λ (b : Bool). cond b (Some c.index-places-place.result.items) (given_to c.args.«module» (drop (c.loop-place.place + 1) c.args.loads.now) (drop (c.loop-place.place + 1) (lists c.args.places.now)))) (eq-eqb x.«module» c.args.«module» c.if-loads-place.true)
    ∙ ap (λ (z : List ℕ). Some z) (sym c.as_slice.ensures.value)))

pub loop-place-preserved : goal.loop-place-preserved
loop-place-preserved c =
    let k = c.loop-place.place in
    let x : Load = get_or c.args.loads.now k c.index-loads-place.result in
    let x_is : x ≡ get_or c.args.loads.now k x = ap (λ (z : Load). get_or c.args.loads.now k z) c.index-loads-place.is in
    record {
      same = c.loop-place.invariant.same
          ∙ given_other c.args.«module» c.loop-place.place c.args.loads.now c.args.places.now x c.requires c.loop-place-test.true x_is (ne_eqb x.«module» c.args.«module» c.if-loads-place.false);
    }
