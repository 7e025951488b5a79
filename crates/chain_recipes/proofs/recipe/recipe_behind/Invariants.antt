use Rattle.std.proofs.Common.{◌≡◌, ◌++◌, drop}
use Rattle.chain_recipes.specs.Recipes.{joints_behind, last_behind}
use Rattle.chain_recipes.proofs.recipe.recipe_behind.Given as goal

abbrev pub invariant-loop-stage : goal.invariant-loop-stage
invariant-loop-stage l = record {
  joints : l.joints.items ++ joints_behind l.last (drop l.stage-index l.rest) ≡ joints_behind l.first l.rest;
  last : last_behind l.last (drop l.stage-index l.rest) ≡ last_behind l.first l.rest;
}
