-- Pairs in the order of their names, and what was added one after another.
use Rattle.std.specs.Prelude.{◌≡◌, ℕ, if◌then◌else◌, List, [], ◌∷◌, ◌++◌, length}
use Rattle.std.specs.List.{find, AllByRecursion}
use Rattle.std.specs.Arc.{arc_value}
use Rattle.std.specs.Ordering.{nat_cmp, ordering_then, is_lt}
use Rattle.std.specs.Cmp.Lexicographic.{slice_cmp}
use Rattle.std.specs.declared.cmp.Ordering.{Ordering}
use Rattle.std.specs.declared.cmp.Ordering.TheVariants.{Less}
use Rattle.derivation_cache.specs.declared.pair.Pair.{Pair}
use Rattle.derivation_cache.specs.declared.record.Record.{Record}
use Rattle.derivation_cache.specs.declared.record.Record.TheVariants.{Empty, Then'}
use Rattle.derivation_cache.specs.declared.tree.Tree.{Tree}
use Rattle.derivation_cache.specs.declared.tree.Tree.TheVariants.{Leaf, Fork'}
use Rattle.module_graph.specs.Graph.{IsGraph}
use Rattle.derivation_cache.specs.Known.{Known, none_known, and_pair, is_of, AllLeast}

-- What was added.
abbrev pub known_of : Record → Known
known_of (Empty graph) = none_known graph.value
known_of (Then' m before last) = and_pair (known_of before) last.value

-- The pairs of a tree from left to right.
abbrev pub in_order : Tree → List Pair
in_order Leaf = []
in_order (Fork' p pair height left right) = in_order left ++ arc_value pair ∷ in_order right

-- Two names are compared with those of a pair, the first ones first.
abbrev pub names_order : List ℕ → List ℕ → Pair → Ordering
names_order from to p = ordering_then (slice_cmp nat_cmp from p.from) (slice_cmp nat_cmp to p.to)

-- Each pair stands before all that follow it.
abbrev pub IsRising : List Pair → Type 0
IsRising [] = Unit {0}
IsRising (p ∷ ps) = AllByRecursion (λ q. names_order p.from p.to q ≡ Less) ps × IsRising ps

-- A pair is put before the first one that is after it.
abbrev pub put : Pair → List Pair → List Pair
put p [] = p ∷ []
put p (q ∷ qs) = if is_lt (names_order p.from p.to q) then p ∷ q ∷ qs else q ∷ put p qs

-- A tree is searched in place of a list.
pub record Serves (tree pairs : List Pair) : Type 0 where
  pub rising : IsRising tree
  pub same : (from to : List ℕ) → find (is_of from to) tree ≡ find (is_of from to) pairs

-- What a list keeps: it is of a graph, its chains are least, and it has a tree and a count of its pairs.
pub record Lists (k : Known) (tree : List Pair) (count : ℕ) : Type 0 where
  pub graph : IsGraph k.graph
  pub least : AllLeast k
  pub serves : Serves tree k.pairs
  pub counted : count ≡ length k.pairs
