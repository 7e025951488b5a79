use Rattle.module_graph.proofs.GraphLaws.{found}
use Rattle.module_graph.proofs.laws.edges_are_found.Goals as goal

pub returns : goal.returns
returns c = found
