use Rattle.job_board.proofs.Fairs.{splits}
use Rattle.job_board.proofs.board.Board.split.Goals as goal

pub another-pass-requires-clause-rule : goal.another-pass-requires-clause-rule
another-pass-requires-clause-rule c = splits _ _ c.requires.leads
