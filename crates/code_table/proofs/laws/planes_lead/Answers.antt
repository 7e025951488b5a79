use Rattle.code_table.proofs.PlaneLaws.{plane_leads}
use Rattle.code_table.proofs.laws.planes_lead.Goals as goal

pub returns : goal.returns
returns c = plane_leads
