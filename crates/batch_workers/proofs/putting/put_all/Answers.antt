use Rattle.std.proofs.Common.{◌≡◌, ◌≢◌, ◌∙◌, ◌<◌, ◌+◌, [], ◌∷◌, ◌++◌, Option, length, take, map, ap, sym, subst, refl, arith}
use Rattle.std.proofs.lemmas.List.{get_or-set_other, length-map}
use Rattle.batch_jobs.specs.Jobs.{line_of}
use Rattle.batch_alone.specs.declared.totals.Totals.{Totals}
use Rattle.batch_alone.specs.Readings.{taking_of}
use Rattle.batch_alone.proofs.Cutting.{err_gives}
use Rattle.batch_workers.specs.declared.piece.Piece.{Piece}
use Rattle.batch_workers.specs.Toils.{IsHeld, work_in, works_in}
use Rattle.batch_workers.specs.Settling.{PutsNext}
use Rattle.batch_workers.proofs.Puts.{held-next, put-as, put-next, put-whole, some-put}
use Rattle.batch_workers.proofs.putting.put_all.Goals as goal

pub put_next-requires : goal.put_next-requires
put_next-requires g c =
    let i = c.jobs.at in
    let r = c.index-slots-at.result in
    let few : i < length c.args.jobs.now = c.jobs-test.true in
    let low : i < length c.args.inputs.now = (let a = c.requires.alike in omega (arith, few, a)) in
    let H : Option Piece → Type 0 = λ o. IsHeld (taking_of c.index-inputs-at.result) o in
    subst H c.index-slots-at.is
    (held-next c.args.inputs.now c.args.slots.now i c.index-inputs-at.result r low c.requires.held c.index-inputs-at.is (c.index-slots-at.is ∙ c.jobs.invariant.rest i r (omega arith)))

pub returns-in_err-ending : goal.returns-in_err-ending
returns-in_err-ending g c = record {
  done = err_gives c.from_residual.result _ _ c.from_residual.ensures.0
      (some-put (g.F.Files.outside c.args.files.now) (g.F.Files.outside c.jobs.files) (g.F.Files.outside c.put_next.new.files) (map line_of c.args.jobs.now)
      (works_in (map taking_of c.args.inputs.now) c.args.slots.now) c.jobs.at c.jobs.outcomes.items c.args.sums c.jobs.totals c.jobs.invariant.done c.in_err-ending.ensures.err);
}

pub returns-in_err-push : goal.returns-in_err-push
returns-in_err-push g c =
    let i = c.jobs.at in
    let r = c.index-slots-at.result in
    let few : i < length c.args.jobs.now = c.jobs-test.true in
    let P : Option Piece → Type 0 = λ o. PutsNext (g.F.Files.outside c.jobs.files) (g.F.Files.outside c.put_next.new.files) (line_of c.index-jobs-at.result)
    (work_in (taking_of c.index-inputs-at.result) o) c.in_ok-ending.ending.outcome c.args.sums c.in_ok-ending.ending.totals in
    record {
      done = err_gives c.from_residual-in_err-push.result _ _ c.from_residual-in_err-push.ensures.0
          (some-put (g.F.Files.outside c.args.files.now) (g.F.Files.outside c.put_next.new.files) (g.F.Files.outside c.put_next.new.files) (map line_of c.args.jobs.now)
          (works_in (map taking_of c.args.inputs.now) c.args.slots.now) (i + 1) (c.jobs.outcomes.items ++ c.in_ok-ending.ending.outcome ∷ []) c.args.sums
          (record { written = c.jobs.totals.written + c.in_ok-ending.ending.totals.written; sum = c.jobs.totals.sum + c.in_ok-ending.ending.totals.sum })
          (put-next (g.F.Files.outside c.args.files.now) (g.F.Files.outside c.jobs.files) (g.F.Files.outside c.put_next.new.files) c.args.jobs.now c.args.inputs.now c.args.slots.now
          i c.index-jobs-at.result c.index-inputs-at.result r c.jobs.outcomes.items c.args.sums c.jobs.totals c.in_ok-ending.ending.totals c.in_ok-ending.ending.outcome
          few c.requires.alike c.requires.slots c.index-jobs-at.is c.index-inputs-at.is (c.index-slots-at.is ∙ c.jobs.invariant.rest i r (omega arith))
          c.jobs.invariant.done (subst P (sym c.index-slots-at.is) c.in_ok-ending.ensures.put)) refl);
    }

pub jobs-preserved : goal.jobs-preserved
jobs-preserved g c =
    let i = c.jobs.at in
    let r = c.index-slots-at.result in
    let few : i < length c.args.jobs.now = c.jobs-test.true in
    let P : Option Piece → Type 0 = λ o. PutsNext (g.F.Files.outside c.jobs.files) (g.F.Files.outside c.put_next.new.files) (line_of c.index-jobs-at.result)
    (work_in (taking_of c.index-inputs-at.result) o) c.in_ok-ending.ending.outcome c.args.sums c.in_ok-ending.ending.totals in
    let ws = works_in (map taking_of c.args.inputs.now) c.args.slots.now in
    let w = ap (λ (t : Totals). t.written) c.both-totals.ensures in
    let v = ap (λ (t : Totals). t.sum) c.both-totals.ensures in
    let small = c.jobs.invariant.small in
    let low = c.jobs.invariant.low in
    let more = c.in_ok-ending.ensures.written in
    let most = c.in_ok-ending.ensures.sum in
    let total : Totals = record { written = c.jobs.totals.written + c.in_ok-ending.ending.totals.written; sum = c.jobs.totals.sum + c.in_ok-ending.ending.totals.sum } in
    record {
      done = put-as (g.F.Files.outside c.args.files.now) (g.F.Files.outside c.put_next.new.files) (take (i + 1) (map line_of c.args.jobs.now)) (take (i + 1) (map line_of c.args.jobs.now))
          (take (i + 1) ws) (take (i + 1) ws) (c.jobs.outcomes.items ++ c.in_ok-ending.ending.outcome ∷ []) c.push.new.self.items c.args.sums total c.both-totals.result
          (put-next (g.F.Files.outside c.args.files.now) (g.F.Files.outside c.jobs.files) (g.F.Files.outside c.put_next.new.files) c.args.jobs.now c.args.inputs.now c.args.slots.now
          i c.index-jobs-at.result c.index-inputs-at.result r c.jobs.outcomes.items c.args.sums c.jobs.totals c.in_ok-ending.ending.totals c.in_ok-ending.ending.outcome
          few c.requires.alike c.requires.slots c.index-jobs-at.is c.index-inputs-at.is (c.index-slots-at.is ∙ c.jobs.invariant.rest i r (omega arith))
          c.jobs.invariant.done (subst P (sym c.index-slots-at.is) c.in_ok-ending.ensures.put))
          refl refl c.in_ok-push.ensures.items c.both-totals.ensures;
      small = omega (arith, small, more, w);
      low = omega (arith, low, most, w, v);
      rest = λ k d le.
          let other : k ≢ i = omega (arith, le) in
          get_or-set_other c.jobs.slots i k c.put_next.new.slot d other ∙ c.jobs.invariant.rest k d (omega (arith, le));
    }

pub returns : goal.returns
returns g c =
    let end : c.jobs.at ≡ length (map line_of c.args.jobs.now) = (let a = c.jobs-test.false in let b = c.jobs.auto.at-end in let m = length-map c.args.jobs.now line_of in omega (arith, a, b, m)) in
    record {
      done = put-whole (g.F.Files.outside c.args.files.now) (g.F.Files.outside c.jobs.files) (map line_of c.args.jobs.now) (map taking_of c.args.inputs.now) c.args.slots.now
          c.jobs.at c.jobs.outcomes.items c.args.sums c.jobs.totals end
          (length-map c.args.inputs.now taking_of ∙ c.requires.alike ∙ sym (length-map c.args.jobs.now line_of)) c.jobs.invariant.done;
    }
