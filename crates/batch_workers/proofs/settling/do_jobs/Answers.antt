use Rattle.std.proofs.Common.{◌≡◌, ◌∙◌, List, All, length, map, ap, sym, subst}
use Rattle.std.proofs.lemmas.List.{length-map}
use Rattle.batch_jobs.specs.Jobs.{JobLine, line_of}
use Rattle.batch_runs.specs.Takings.{all_inputs}
use Rattle.batch_alone.specs.declared.inputs.Input.{Input}
use Rattle.batch_alone.specs.Readings.{taking_of}
use Rattle.batch_alone.proofs.Snoc.{names_of}
use Rattle.batch_alone.proofs.SettleLemmas.{IsShort, taken_alike, taken_short}
use Rattle.batch_workers.proofs.settling.do_jobs.Goals as goal

pub share_jobs-requires-clause-alike : goal.share_jobs-requires-clause-alike
share_jobs-requires-clause-alike g c κs within =
    let items = c.in_ok-inputs.inputs.list.items in
    let same : length (map taking_of items) ≡ length (names_of (map line_of c.args.jobs.now)) = taken_alike _ all_inputs _ _ c.in_ok-inputs.ensures.taken in
    ap length c.as_slice.ensures.value ∙ sym (length-map items taking_of) ∙ same
    ∙ length-map (map line_of c.args.jobs.now) (λ (j : JobLine). j.input) ∙ length-map c.args.jobs.now line_of

pub share_jobs-requires-clause-short : goal.share_jobs-requires-clause-short
share_jobs-requires-clause-short g c κs within =
    let P : List Input → Type 0 = λ is. All IsShort is in
    subst P (sym c.as_slice.ensures.value) (taken_short _ all_inputs (names_of (map line_of c.args.jobs.now)) c.in_ok-inputs.inputs.list.items c.in_ok-inputs.ensures.taken)
