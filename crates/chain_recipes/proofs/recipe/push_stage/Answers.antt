use Rattle.std.proofs.Common.{◌≡◌, Some, refl, sym, ap, ◌∙◌, arith}
use Rattle.module_graph.proofs.GraphLaws.{known_found}
use Rattle.chain_recipes.proofs.recipe.push_stage.Goals as goal

pub stage_of-tables-requires-clause-known : goal.stage_of-tables-requires-clause-known
stage_of-tables-requires-clause-known c = known_found c.args.graph.now c.args.ordinal c.in-Some.edge.now c.edges-graph.ensures.graph (grind (arith, sym c.edge.ensures, c.in-Some.is))
