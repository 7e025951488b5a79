use Rattle.std.proofs.Common.{◌∙◌, ◌<◌, ℕ, List, length, map, MatchResult, ap, subst, arith}
use Rattle.batch_jobs.specs.Jobs.{line_of}
use Rattle.batch_runs.specs.Takings.{Got}
use Rattle.batch_alone.specs.Readings.{taking_of}
use Rattle.batch_workers.specs.Toils.{is_got}
use Rattle.batch_workers.proofs.Places.{job_at-index, taking_at-index, taken_behind}
use Rattle.batch_workers.specs.Parts.{IsCutOff}
use Rattle.batch_workers.specs.Stints.{Hands}
use Rattle.batch_workers.proofs.Steps.{goes_by, goes_past}
use Rattle.batch_workers.proofs.worker.serve_at.Goals as goal

pub returns-then-at-jobs-clause-done : goal.returns-then-at-jobs-clause-done
returns-then-at-jobs-clause-done g c =
    goes_past (g.S.Shared.base c.args.shared.now).setting (map line_of c.args.jobs.now) (map taking_of c.args.inputs.now) (g.S.Shared.part c.args.worker.now.caller) c.args.worker.now.pieces.items c.args.place
    (taken_behind c.args.inputs.now c.args.place (let same = c.requires.alike in let high = c.if-at-jobs.true in omega (arith, same, high)))

pub returns-in-Missed-clause-done : goal.returns-in-Missed-clause-done
returns-in-Missed-clause-done g c =
    let low : c.args.place < length c.args.inputs.now = (let same = c.requires.alike in let high = c.if-at-jobs.false in omega (arith, same, high)) in
    goes_past (g.S.Shared.base c.args.shared.now).setting (map line_of c.args.jobs.now) (map taking_of c.args.inputs.now) (g.S.Shared.part c.args.worker.now.caller) c.args.worker.now.pieces.items c.args.place
    (ap is_got (taking_at-index c.args.inputs.now c.args.place c.index-inputs-at.result low c.index-inputs-at.is ∙ ap taking_of c.in-Missed.is))

pub returns-in-Bytes-clause-done : goal.returns-in-Bytes-clause-done
returns-in-Bytes-clause-done g c =
    let few : c.args.place < length c.args.jobs.now = c.if-at-jobs.false in
    let low : c.args.place < length c.args.inputs.now = (let same = c.requires.alike in omega (arith, same, few)) in
    let S : List ℕ → Type 0 = λ x. MatchResult c.serve.result
    (λ _. Hands (g.S.Shared.base c.args.shared.now).setting (g.S.Shared.part c.args.worker.now.caller) (g.S.Shared.part c.serve.new.worker.caller) c.args.worker.now.pieces.items c.serve.new.worker.pieces.items c.args.place (line_of c.index-jobs-at.result) (Got x))
    (λ _. IsCutOff (g.S.Shared.base c.args.shared.now).setting (g.S.Shared.part c.args.worker.now.caller) (g.S.Shared.part c.serve.new.worker.caller) (line_of c.index-jobs-at.result)) in
    goes_by (g.S.Shared.base c.args.shared.now).setting (map line_of c.args.jobs.now) (map taking_of c.args.inputs.now) (g.S.Shared.part c.args.worker.now.caller) (g.S.Shared.part c.serve.new.worker.caller)
    c.args.worker.now.pieces.items c.serve.new.worker.pieces.items c.args.place (line_of c.index-jobs-at.result) c.in-Bytes.bytes.items c.serve.result
    (job_at-index c.args.jobs.now c.args.place c.index-jobs-at.result few c.index-jobs-at.is)
    (taking_at-index c.args.inputs.now c.args.place c.index-inputs-at.result low c.index-inputs-at.is ∙ ap taking_of c.in-Bytes.is)
    (subst S c.as_slice.ensures.value c.serve.ensures.done)
