use Rattle.module_graph.proofs.GraphLaws.{charmaps_named}
use Rattle.module_graph.proofs.laws.modules_name_charmaps.Goals as goal

pub returns : goal.returns
returns c = charmaps_named
