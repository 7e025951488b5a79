use Rattle.std.proofs.Common.{ap}
use Rattle.job_board.proofs.Fairs.{puts, learns}
use Rattle.job_board.proofs.board.fill.Goals as goal

pub push_as-requires-clause-rule : goal.push_as-requires-clause-rule
push_as-requires-clause-rule g c = (
  puts _ _ _ _ (ap (λ v. v.leads) c.loop-number.invariant.1) (ap (λ v. v.fresh) c.loop-number.invariant.1),
  learns _ _,
)
