use Rattle.std.proofs.Common.{sym}
use Rattle.modules_conf.proofs.CommentLemmas.{before_first-none, before_first-some}
use Rattle.modules_conf.proofs.words.before_comment.Goals as goal

pub returns-in-None-clause-value : goal.returns-in-None-clause-value
returns-in-None-clause-value c = before_first-none _ c.args.line.now (sym c.in-None.ensures)

pub returns-in-Some-clause-value : goal.returns-in-Some-clause-value
returns-in-Some-clause-value c = before_first-some _ c.args.line.now c.in-Some.at (sym c.in-Some.ensures)
