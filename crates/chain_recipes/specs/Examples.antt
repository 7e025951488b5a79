-- Recipes of chains of a small configuration, by computation.
use Rattle.std.specs.Prelude.{◌≡◌, ℕ, List, [], ◌∷◌, codes, Some, refl}
use Rattle.modules_conf.specs.declared.lines.EdgeLine.{EdgeLine}
use Rattle.modules_conf.specs.declared.bindings.Binding.{Binding}
use Rattle.modules_conf.specs.declared.kind.Kind.TheVariants as kinds
use Rattle.module_graph.specs.Graph.{Shape}
use Rattle.module_graph.specs.Edges.{builtin_edges}
use Rattle.module_graph.specs.Numbers.{graph_of}
use Rattle.chain_steps.specs.declared.recipe.Set.TheVariants as sets
use Rattle.step_unicode.specs.declared.set.Uni.TheVariants.{Utf8, Ucs4}
use Rattle.chain_recipes.specs.Recipes.{recipe_for}

abbrev edge_line : ℕ → List ℕ → List ℕ → List ℕ → EdgeLine
edge_line line source target bound = record { line = line; source = source; target = target; «module» = bound; cost = 1 }

-- Two sets SA and SB by tables, JP by ISO-2022-JP, and a recoding from SB to SA.
abbrev pub graph : Shape
graph = graph_of
    (edge_line 1 (codes "SA//") (codes "INTERNAL//") (codes "TA") ∷ edge_line 2 (codes "INTERNAL//") (codes "SA//") (codes "TA")
    ∷ edge_line 3 (codes "SB//") (codes "INTERNAL//") (codes "TB") ∷ edge_line 4 (codes "INTERNAL//") (codes "SB//") (codes "TB")
    ∷ edge_line 5 (codes "INTERNAL//") (codes "JP//") (codes "JP") ∷ edge_line 6 (codes "SB//") (codes "SA//") (codes "R") ∷ [])
    (record { line = 1; name = codes "TA"; kind = kinds.Table (codes "CA") }
    ∷ record { line = 2; name = codes "TB"; kind = kinds.Table (codes "CB") }
    ∷ record { line = 3; name = codes "JP"; kind = kinds.Iso2022Jp (codes "CR") (codes "CK") }
    ∷ record { line = 4; name = codes "R"; kind = kinds.Recode (codes "CB") (codes "CA") } ∷ [])

-- A chain through INTERNAL has no joint; each edge has tables of its own.
pub through_internal : (recipe_for graph (16 ∷ 19 ∷ []) ≡ Some (record { reader = sets.Table 0; joints = []; writer = sets.Table 1 }))
    × (recipe_for graph (2 ∷ 11 ∷ []) ≡ Some (record { reader = sets.Unicode Utf8; joints = []; writer = sets.Unicode Ucs4 }))
    × (recipe_for graph (16 ∷ 20 ∷ []) ≡ Some (record { reader = sets.Table 0; joints = []; writer = sets.Iso2022Jp 1 2 }))
unfolding builtin_edges
through_internal = (refl, refl, refl)

-- A chain over a set in its middle has a joint there, and a recoding has two tables.
pub a_joint : recipe_for graph (2 ∷ 19 ∷ 21 ∷ [])
    ≡ Some (record { reader = sets.Unicode Utf8; joints = record { writer = sets.Table 0; reader = sets.Table 1 } ∷ []; writer = sets.Table 2 })
unfolding builtin_edges
a_joint = refl
