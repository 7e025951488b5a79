use Rattle.step_unicode.proofs.Apart.{are_apart}
use Rattle.step_unicode.proofs.Short.{short_units}
use Rattle.step_unicode.proofs.laws.units_are_apart.Goals as goal

pub returns-clause-apart : goal.returns-clause-apart
returns-clause-apart c = are_apart

pub returns-clause-few : goal.returns-clause-few
returns-clause-few c = short_units
