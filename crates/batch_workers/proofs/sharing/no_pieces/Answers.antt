use Rattle.std.proofs.Common.{◌∙◌, ◌++◌, ◌∷◌, [], None, ap}
use Rattle.batch_workers.proofs.Boards.{none-next}
use Rattle.batch_workers.proofs.sharing.no_pieces.Goals as goal

pub slots-preserved : goal.slots-preserved
slots-preserved c = c.in_ok-push.ensures.items ∙ ap (λ os. os ++ None ∷ []) c.slots.invariant ∙ none-next c.slots.counter
