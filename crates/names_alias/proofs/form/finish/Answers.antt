use Rattle.std.proofs.Common.{ap, Ok, ◌∙◌}
use Rattle.names_alias.proofs.Scans.{finish_ok}
use Rattle.names_alias.proofs.form.finish.Goals as goal

pub returns : goal.returns
returns c = λ head tail f e. ap Ok c.from_buffer.ensures ∙ finish_ok head tail c.args.front f c.args.first e c.if-first-eq0.false c.if-front-gt64.false
