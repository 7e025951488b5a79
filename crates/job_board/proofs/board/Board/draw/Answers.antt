use Rattle.job_board.proofs.Fairs.{learns}
use Rattle.job_board.proofs.board.Board.draw.Goals as goal

pub learn_as-requires-clause-rule : goal.learn_as-requires-clause-rule
learn_as-requires-clause-rule g c = learns _ _
