use Rattle.std.proofs.Common.{rules, ◌≡◌, ◌≤◌, ◌<◌, ◌+◌, ◌*◌, ℕ, List, [], ◌∷◌, ◌++◌, length, take, map, ap, sym, subst, arith, refl}
use Rattle.std.proofs.lemmas.List.{length-map, length-take-le}
use Rattle.batch_jobs.specs.Jobs.{JobLine, line_of}
use Rattle.batch_alone.specs.declared.totals.Totals.{Totals}
use Rattle.batch_alone.specs.Readings.{taking_of}
use Rattle.batch_alone.specs.Steps.{AreDone, AreHalted}
use Rattle.batch_alone.proofs.Snoc.{take_next_map}
use Rattle.batch_alone.proofs.Cutting.{err_gives}
use Rattle.batch_alone.proofs.Entered.{entered_length}
use Rattle.batch_alone.proofs.Progress.{first_done, next_done, done_with, halted_after, halted_before}
use Rattle.batch_alone.proofs.one_by_one.do_jobs.Goals as goal

pub jobs-init : goal.jobs-init
jobs-init g c =
    let w = ap (λ (t : Totals). t.written) c.no_totals-totals.ensures in
    let v = ap (λ (t : Totals). t.sum) c.no_totals-totals.ensures in
    record {
      done = first_done (g.B.Runtime.book c.args.book.now) (g.F.Files.outside c.args.files.now) c.new-outcomes.result.items c.args.sums c.no_totals-totals.result
          c.requires.fresh.empty c.requires.fresh.live c.new-outcomes.ensures.items c.no_totals-totals.ensures;
      small = omega (arith, w);
      low = omega (arith, w, v);
    }

pub one_job-requires-clause-place : goal.one_job-requires-clause-place
one_job-requires-clause-place g c =
    let P : ℕ → Type 0 = λ n. 2 * length (g.B.Runtime.book c.jobs.book).journal + 2 ≤ n in
    let few = entered_length (g.B.Runtime.book c.args.book.now).setting 1 0 (take c.jobs.at (map line_of c.args.jobs.now)) c.jobs.invariant.done.works
    (g.B.Runtime.book c.jobs.book).journal c.jobs.invariant.done.entered in
    let lines = length-map c.args.jobs.now line_of in
    let next = c.jobs-test.true in
    let taken = length-take-le c.jobs.at (map line_of c.args.jobs.now) (omega (arith, lines, next)) in
    let places = c.requires.places in
    subst P (sym c.jobs.invariant.done.keeps.limit) (omega (arith, few, taken, lines, next, places))

pub returns-in_err-ending : goal.returns-in_err-ending
returns-in_err-ending g c = record {
  done = err_gives c.from_residual.result _ _ c.from_residual.ensures.0
      (halted_before (g.B.Runtime.book c.args.book.now) (g.B.Runtime.book c.jobs.book) (g.B.Runtime.book c.one_job.new.book)
      (g.F.Files.outside c.args.files.now) (g.F.Files.outside c.jobs.files) (g.F.Files.outside c.one_job.new.files)
      (map line_of c.args.jobs.now) (map taking_of c.args.inputs.now) c.jobs.at (line_of c.index-jobs-at.result) c.jobs.outcomes.items c.args.sums c.jobs.totals
      c.jobs.invariant.done c.in_err-ending.ensures.done (take_next_map line_of c.args.jobs.now c.jobs.at c.index-jobs-at.result c.jobs-test.true c.index-jobs-at.is));
}

pub returns-in_err-push : goal.returns-in_err-push
returns-in_err-push g c = record {
  done = err_gives c.from_residual-in_err-push.result _ _ c.from_residual-in_err-push.ensures.0
      (halted_after (g.B.Runtime.book c.args.book.now) (g.B.Runtime.book c.one_job.new.book)
      (g.F.Files.outside c.args.files.now) (g.F.Files.outside c.one_job.new.files)
      (map line_of c.args.jobs.now) (map taking_of c.args.inputs.now) (c.jobs.at + 1) (c.jobs.outcomes.items ++ c.in_ok-ending.ending.outcome ∷ []) c.args.sums
      (record { written = c.jobs.totals.written + c.in_ok-ending.ending.totals.written; sum = c.jobs.totals.sum + c.in_ok-ending.ending.totals.sum })
      (next_done (g.B.Runtime.book c.args.book.now) (g.B.Runtime.book c.jobs.book) (g.B.Runtime.book c.one_job.new.book)
      (g.F.Files.outside c.args.files.now) (g.F.Files.outside c.jobs.files) (g.F.Files.outside c.one_job.new.files)
      c.args.jobs.now c.args.inputs.now c.jobs.at c.index-jobs-at.result c.index-inputs-at.result c.jobs.outcomes.items c.args.sums c.jobs.totals
      c.in_ok-ending.ending.outcome c.in_ok-ending.ending.totals c.jobs-test.true c.requires.alike c.index-jobs-at.is c.index-inputs-at.is c.requires.fresh.empty
      c.jobs.invariant.done c.in_ok-ending.ensures.done));
}

pub jobs-preserved : goal.jobs-preserved
jobs-preserved g c =
    let w = ap (λ (t : Totals). t.written) c.both-totals.ensures in
    let v = ap (λ (t : Totals). t.sum) c.both-totals.ensures in
    let small = c.jobs.invariant.small in
    let low = c.jobs.invariant.low in
    let more = c.in_ok-ending.ensures.written in
    let most = c.in_ok-ending.ensures.sum in
    record {
      done = done_with (g.B.Runtime.book c.args.book.now) (g.B.Runtime.book c.one_job.new.book) (g.F.Files.outside c.args.files.now) (g.F.Files.outside c.one_job.new.files)
          (take (c.jobs.at + 1) (map line_of c.args.jobs.now)) (take (c.jobs.at + 1) (map taking_of c.args.inputs.now))
          (c.jobs.outcomes.items ++ c.in_ok-ending.ending.outcome ∷ []) _ c.args.sums
          (record { written = c.jobs.totals.written + c.in_ok-ending.ending.totals.written; sum = c.jobs.totals.sum + c.in_ok-ending.ending.totals.sum }) c.both-totals.result
          (next_done (g.B.Runtime.book c.args.book.now) (g.B.Runtime.book c.jobs.book) (g.B.Runtime.book c.one_job.new.book)
          (g.F.Files.outside c.args.files.now) (g.F.Files.outside c.jobs.files) (g.F.Files.outside c.one_job.new.files)
          c.args.jobs.now c.args.inputs.now c.jobs.at c.index-jobs-at.result c.index-inputs-at.result c.jobs.outcomes.items c.args.sums c.jobs.totals
          c.in_ok-ending.ending.outcome c.in_ok-ending.ending.totals c.jobs-test.true c.requires.alike c.index-jobs-at.is c.index-inputs-at.is c.requires.fresh.empty
          c.jobs.invariant.done c.in_ok-ending.ensures.done)
          (search rules) c.both-totals.ensures;
      small = omega (arith, small, more, w);
      low = omega (arith, low, most, w, v);
    }
