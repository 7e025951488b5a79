use Rattle.job_board.proofs.Fairs.{begins}
use Rattle.job_board.proofs.board.Board.new.Goals as goal

pub ruled-requires-clause-rule : goal.ruled-requires-clause-rule
ruled-requires-clause-rule g c = begins
