use Rattle.std.proofs.Common.{◌∙◌, ◌<◌, length, ap, sym}
use Rattle.std.proofs.lemmas.List.{append-nil}
use Rattle.batch_runs.specs.Takings.{Got, Missed}
use Rattle.batch_alone.specs.Readings.{taking_of}
use Rattle.batch_workers.proofs.Boards.{places-next}
use Rattle.batch_workers.proofs.sharing.taken_places.Goals.{in-Bytes+in_ok-push-in-Bytes, in-Missed}
use Rattle.batch_workers.proofs.sharing.taken_places.Goals as goal

pub inputs-preserved : goal.inputs-preserved
inputs-preserved c =
    let low : c.inputs.at < length c.args.inputs.now = c.inputs-test.true in
    elim c.match-inputs-at.branch [
      | in-Bytes+in_ok-push-in-Bytes w ↦ places-next c.args.inputs.now c.inputs.at c.index-inputs-at.result (Got w.in-Bytes.field-0.items) c.inputs.places.items c.match-inputs-at.places.items
          low c.index-inputs-at.is (ap taking_of w.in-Bytes.is) c.inputs.invariant (ap (λ v. v.items) w.places-is ∙ w.in_ok-push-in-Bytes.ensures.items)
      | in-Missed w ↦ places-next c.args.inputs.now c.inputs.at c.index-inputs-at.result (Missed w.in-Missed.field-0) c.inputs.places.items c.match-inputs-at.places.items
          low c.index-inputs-at.is (ap taking_of w.in-Missed.is) c.inputs.invariant (ap (λ v. v.items) w.places-is ∙ sym (append-nil c.inputs.places.items))
    ]
