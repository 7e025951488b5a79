use Rattle.std.proofs.Common.{◌≡◌, ◌<◌, ℕ, List, length, sym, ap, ◌∙◌, arith}
use Rattle.chain_recipes.specs.Recipes.{stages, edges_at}
use Rattle.chain_recipes.proofs.Along.{length-stages}
use Rattle.chain_recipes.proofs.recipe.recipe_of.Goals as goal

pub unreachable-requires : goal.unreachable-requires
unreachable-requires c =
    let g = c.args.graph.now in
    let list : c.as_slice-2.result.now ≡ stages g 0 (edges_at g c.args.chain.now.ordinals) =
    c.as_slice-2.ensures.value ∙ (c.in_ok-list.ensures ∙ ap (λ (z : List ℕ). stages g 0 (edges_at g z)) c.as_slice.ensures) in
    let long : length c.as_slice-2.result.now ≡ length (edges_at g c.args.chain.now.ordinals) = ap length list ∙ length-stages g 0 (edges_at g c.args.chain.now.ordinals) in
    let none = c.in-None.ensures.cases in
    let some = c.requires.some in
    omega (arith, long, none, some)
