use Rattle.std.proofs.Common.{◌≡◌, ℕ, ◌*◌, ◌≤◌, ◌++◌, drop}
use Rattle.chain_recipes.specs.Recipes.{stages, edges_at}
use Rattle.chain_recipes.proofs.recipe.stages_of.Given as goal

abbrev pub invariant-loop-ordinal : goal.invariant-loop-ordinal
invariant-loop-ordinal l = record {
  reads : l.list.items ++ stages l.graph l.first (edges_at l.graph (drop l.ordinal-index l.ordinals)) ≡ stages l.graph 0 (edges_at l.graph l.ordinals);
  few : l.first ≤ 2 * l.ordinal-index;
}
