-- What the edges of a chain do, one after another.
use Rattle.std.proofs.Common.{◌≡◌, ℕ, suc, ◌+◌, ◌<◌, Bool, true, false, if◌then◌else◌, eqb, List, [], ◌∷◌, ◌++◌, length, drop, get_or, append_assoc, append-nil, Option, Some, None, unwrap_or, refl, sym, ap, ◌∙◌, subst, arith}
use Rattle.std.specs.List.{All, find, filter_map, cons_option}
use Rattle.module_graph.specs.declared.edge.Edge.{Edge}
use Rattle.module_graph.specs.Graph.{Shape, IsGraph, IsKnown}
use Rattle.chain_recipes.specs.declared.stage.Stage.{Stage}
use Rattle.chain_recipes.specs.Recipes.{stages, stage_of, edges_at, table_count, kind_at, joint_between, joints_behind, last_behind}

-- An edge more, where its ordinal is that of one.
pub reads_edge : (g : Shape) (list : List Stage) (k o : ℕ) (e : Edge) (later : List ℕ) → find (λ (x : Edge). eqb x.ordinal o) g.edges ≡ Some e
    → (list ++ stage_of g k e ∷ []) ++ stages g (k + table_count (kind_at g e)) (edges_at g later) ≡ list ++ stages g k (edges_at g (o ∷ later))
reads_edge g list k o e later is =
    append_assoc list (stage_of g k e ∷ []) (stages g (k + table_count (kind_at g e)) (edges_at g later))
    ∙ ap (λ (x : Option Edge). list ++ stages g k (cons_option x (edges_at g later))) (sym is)

pub reads_none : (g : Shape) (list : List Stage) (k o : ℕ) (later : List ℕ) → find (λ (x : Edge). eqb x.ordinal o) g.edges ≡ None
    → list ++ stages g k (edges_at g later) ≡ list ++ stages g k (edges_at g (o ∷ later))
reads_none g list k o later is = ap (λ (x : Option Edge). list ++ stages g k (cons_option x (edges_at g later))) (sym is)

pub length-stages : (g : Shape) (k : ℕ) (es : List Edge) → length (stages g k es) ≡ length es
length-stages g k [] = refl
length-stages g k (e ∷ es) = let ih = length-stages g (k + table_count (kind_at g e)) es in omega (arith, ih)
