use Rattle.std.proofs.Common.{rules, ◌≡◌, ◌≤◌, ◌∙◌, ◌++◌, ℕ, List, All, length, map, ap, sym, subst, arith, refl}
use Rattle.std.proofs.lemmas.List.{length-map}
use Rattle.batch_jobs.specs.Jobs.{JobLine, line_of}
use Rattle.batch_jobs.specs.declared.outcomes.Outcome.{Outcome}
use Rattle.batch_alone.specs.declared.inputs.Input.{Input}
use Rattle.batch_runs.specs.Takings.{Taking, all_inputs, read_count}
use Rattle.batch_runs.specs.Batches.{all_good}
use Rattle.batch_alone.specs.Steps.{AreDone, AreHalted, report_with}
use Rattle.batch_alone.proofs.Snoc.{names_of}
use Rattle.batch_alone.proofs.SettleLemmas.{IsShort, taken_alike, taken_short, halts_none, settle_halts, settle_short, settle_done, done_count}
use Rattle.batch_alone.proofs.settling.settle.Goals as goal
use Rattle.batch_alone.specs.Readings.{taking_of}

pub do_jobs-requires-clause-alike : goal.do_jobs-requires-clause-alike
do_jobs-requires-clause-alike g c =
    let items = c.in-Ok.inputs.list.items in
    let same : length (map taking_of items) ≡ length (names_of (map line_of c.args.jobs.now)) = taken_alike _ all_inputs _ _ c.in-Ok.ensures.taken in
    ap length c.as_slice.ensures.value ∙ sym (length-map items taking_of) ∙ same
    ∙ length-map (map line_of c.args.jobs.now) (λ (j : JobLine). j.input) ∙ length-map c.args.jobs.now line_of

pub do_jobs-requires-clause-short : goal.do_jobs-requires-clause-short
do_jobs-requires-clause-short g c =
    let P : List Input → Type 0 = λ is. All IsShort is in
    subst P (sym c.as_slice.ensures.value) (taken_short _ all_inputs (names_of (map line_of c.args.jobs.now)) c.in-Ok.inputs.list.items c.in-Ok.ensures.taken)

pub returns-in_default : goal.returns-in_default
returns-in_default g c = record {
  done = halts_none (g.B.Runtime.book c.args.book.now) (g.F.Files.outside c.args.files.now) (g.F.Files.outside c.take_inputs.new.files)
      (map line_of c.args.jobs.now) c.requires.fresh.empty c.take_inputs.ensures.told;
}

pub returns-in_default-do_jobs : goal.returns-in_default-do_jobs
returns-in_default-do_jobs g c =
    let P : List Input → Type 0 = λ is. AreHalted (g.B.Runtime.book c.args.book.now) (g.B.Runtime.book c.do_jobs.new.book)
    (g.F.Files.outside c.take_inputs.new.files) (g.F.Files.outside c.do_jobs.new.files) (map line_of c.args.jobs.now) (map taking_of is) in
    record {
      done = settle_halts (g.B.Runtime.book c.args.book.now) (g.B.Runtime.book c.do_jobs.new.book)
          (g.F.Files.outside c.args.files.now) (g.F.Files.outside c.take_inputs.new.files) (g.F.Files.outside c.do_jobs.new.files)
          (map line_of c.args.jobs.now) (map taking_of c.in-Ok.inputs.list.items) (subst P c.as_slice.ensures.value c.in_default-do_jobs.ensures.done) c.in-Ok.ensures.taken c.take_inputs.ensures.told;
    }

pub report_text-requires : goal.report_text-requires
report_text-requires g c =
    let done = done_count (g.B.Runtime.book c.args.book.now) (g.B.Runtime.book c.do_jobs.new.book)
    (g.F.Files.outside c.take_inputs.new.files) (g.F.Files.outside c.do_jobs.new.files)
    (map line_of c.args.jobs.now) (map taking_of c.as_slice.result.now) c.in-Ok-do_jobs.settled.outcomes.items c.args.sums c.in-Ok-do_jobs.settled.totals c.in-Ok-do_jobs.ensures.done in
    let lines = length-map c.args.jobs.now line_of in
    let slice = ap length c.as_slice-outcomes.ensures.value in
    let few = c.requires.few in
    omega (arith, done, lines, slice, few)

pub returns-in-Ok-report_text : goal.returns-in-Ok-report_text
returns-in-Ok-report_text g c =
    let es = c.in-Ok-do_jobs.settled.outcomes.items in
    let t = c.in-Ok-do_jobs.settled.totals in
    let items = c.in-Ok.inputs.list.items in
    let P : List Input → Type 0 = λ is. AreDone (g.B.Runtime.book c.args.book.now) (g.B.Runtime.book c.do_jobs.new.book)
    (g.F.Files.outside c.take_inputs.new.files) (g.F.Files.outside c.do_jobs.new.files) (map line_of c.args.jobs.now) (map taking_of is) es c.args.sums t in
    let T : List Outcome → ℕ → Type 0 = λ os n. c.in-Ok-report_text.text.items ≡ report_with c.args.sums os n t in
    record {
      done = settle_done (g.B.Runtime.book c.args.book.now) (g.B.Runtime.book c.do_jobs.new.book)
          (g.F.Files.outside c.args.files.now) (g.F.Files.outside c.take_inputs.new.files) (g.F.Files.outside c.do_jobs.new.files)
          (map line_of c.args.jobs.now) (map taking_of items) es c.args.sums t c.in-Ok-report_text.text.items c.all_good-good.result
          (subst P c.as_slice.ensures.value c.in-Ok-do_jobs.ensures.done) c.in-Ok.ensures.taken c.take_inputs.ensures.told c.in-Ok.ensures.takes c.take_inputs.ensures.puts
          (subst (T es) c.in-Ok.ensures.read (subst (λ os. T os c.in-Ok.inputs.read) c.as_slice-outcomes.ensures.value c.in-Ok-report_text.ensures))
          (c.all_good-good.ensures ∙ ap all_good c.as_slice-outcomes.ensures.value);
    }

pub returns : goal.returns
returns g c =
    let es = c.in-Ok-do_jobs.settled.outcomes.items in
    let t = c.in-Ok-do_jobs.settled.totals in
    let P : List Input → Type 0 = λ is. AreDone (g.B.Runtime.book c.args.book.now) (g.B.Runtime.book c.do_jobs.new.book)
    (g.F.Files.outside c.take_inputs.new.files) (g.F.Files.outside c.do_jobs.new.files) (map line_of c.args.jobs.now) (map taking_of is) es c.args.sums t in
    record {
      done = settle_short (g.B.Runtime.book c.args.book.now) (g.B.Runtime.book c.do_jobs.new.book)
          (g.F.Files.outside c.args.files.now) (g.F.Files.outside c.take_inputs.new.files) (g.F.Files.outside c.do_jobs.new.files)
          (map line_of c.args.jobs.now) (map taking_of c.in-Ok.inputs.list.items) es c.args.sums t
          (subst P c.as_slice.ensures.value c.in-Ok-do_jobs.ensures.done) c.in-Ok.ensures.taken c.take_inputs.ensures.told;
    }
