use Rattle.job_board.proofs.Fairs.{joins}
use Rattle.job_board.proofs.board.Board.join.Goals as goal

pub absorb-requires-clause-rule : goal.absorb-requires-clause-rule
absorb-requires-clause-rule c = joins _ _ _ _ c.requires.lead.leads c.requires.drawer.out
