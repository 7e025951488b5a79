use Rattle.step_table.proofs.Codes.{code_point}
use Rattle.step_table.proofs.laws.codes_have_points.Goals as goal

pub returns : goal.returns
returns c = code_point
