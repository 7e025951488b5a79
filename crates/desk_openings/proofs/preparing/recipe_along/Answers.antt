use Rattle.conversion_book.proofs.Charting.{led_some, led_short}
use Rattle.desk_openings.proofs.preparing.recipe_along.Goals as goal

pub recipe_of-requires-clause-some : goal.recipe_of-requires-clause-some
recipe_of-requires-clause-some c = led_some c.edges_are_found.ensures c.args.graph.now c.nodes-nodes.ensures.graph c.args.chain.now c.requires

pub recipe_of-requires-clause-short : goal.recipe_of-requires-clause-short
recipe_of-requires-clause-short c = led_short c.least_chains_are_short.ensures c.args.graph.now c.nodes-nodes.ensures.graph c.args.chain.now c.requires
