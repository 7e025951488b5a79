use Rattle.names_alias.proofs.Scans.{Scanned}
use Rattle.names_alias.proofs.form.normal.Given as goal

abbrev pub invariant-loop-at : goal.invariant-loop-at
invariant-loop-at l = Scanned l.text l.first l.slashes l.at l.front
