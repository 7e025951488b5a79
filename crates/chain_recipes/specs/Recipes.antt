-- The recipe of a chain: what its first edge reads, a joint at each inner node but INTERNAL, and what its
-- last edge writes.
use Rattle.std.specs.Prelude.{ℕ, ◌+◌, ◌/◌, ◌==◌, Bool, false, if◌then◌else◌, List, [], ◌∷◌, ◌++◌, length, Option, Some, None, slice_index_or, slice_get}
use Rattle.std.specs.List.{find, filter_map, position}
use Rattle.std.specs.Option.{option_and_then}
use Rattle.std.specs.Str.{bytes_eq}
use Rattle.names_alias.specs.Builtin.{internal_name}
use Rattle.modules_conf.specs.declared.kind.Kind.{Kind}
use Rattle.modules_conf.specs.declared.kind.Kind.TheVariants as kinds
use Rattle.module_graph.specs.declared.edge.Edge.{Edge}
use Rattle.module_graph.specs.Graph.{Shape}
use Rattle.step_unicode.specs.declared.set.Uni.{Uni}
use Rattle.step_unicode.specs.declared.set.Uni.TheVariants.{Ascii, Utf8, Utf16, Utf16Le, Utf16Be, Ucs4}
use Rattle.chain_steps.specs.declared.recipe.Set.{Set}
use Rattle.chain_steps.specs.declared.recipe.Set.TheVariants.{Unicode, Table, Iso2022Jp}
use Rattle.chain_steps.specs.declared.recipe.Joint.{Joint}
use Rattle.chain_steps.specs.declared.recipe.Recipe.{Recipe}
use Rattle.chain_recipes.specs.declared.stage.Stage.{Stage}

-- The built-in sets in the order of their edges.
abbrev pub builtin_sets : List Uni
builtin_sets = Ascii ∷ Utf8 ∷ Utf16 ∷ Utf16Le ∷ Utf16Be ∷ Ucs4 ∷ []

-- The built-in set of an ordinal: each has two ordinals.
abbrev pub builtin_of : ℕ → Uni
builtin_of ordinal = slice_index_or builtin_sets (ordinal / 2) Ucs4

-- How many tables an edge has by the kind of its module, if it has one.
abbrev pub table_count : Option Kind → ℕ
table_count None = 0
table_count (Some (kinds.Table map)) = 1
table_count (Some (kinds.Iso2022Jp roman kanji)) = 2
table_count (Some (kinds.Recode first second)) = 2

-- The set that an edge reads, where its tables have the numbers from k on.
abbrev pub read_by : ℕ → ℕ → Option Kind → Set
read_by ordinal k None = Unicode (builtin_of ordinal)
read_by ordinal k (Some (kinds.Table map)) = Table k
read_by ordinal k (Some (kinds.Iso2022Jp roman kanji)) = Iso2022Jp k (k + 1)
read_by ordinal k (Some (kinds.Recode first second)) = Table k

-- The set that it writes.
abbrev pub written_by : ℕ → ℕ → Option Kind → Set
written_by ordinal k None = Unicode (builtin_of ordinal)
written_by ordinal k (Some (kinds.Table map)) = Table k
written_by ordinal k (Some (kinds.Iso2022Jp roman kanji)) = Iso2022Jp k (k + 1)
written_by ordinal k (Some (kinds.Recode first second)) = Table (k + 1)

-- The kind of an edge's module, if it has one.
abbrev pub kind_at : Shape → Edge → Option Kind
kind_at graph e = option_and_then (λ m. slice_get graph.kinds m) e.«module»

-- The number is that of a node, if there is one.
abbrev pub is_number : Option ℕ → ℕ → Bool
is_number None n = false
is_number (Some m) n = m == n

-- An edge ends at INTERNAL.
abbrev pub ends_between : Shape → Edge → Bool
ends_between graph e = is_number (position (bytes_eq internal_name) graph.nodes) e.target

-- What an edge does in a chain.
abbrev pub stage_of : Shape → ℕ → Edge → Stage
stage_of graph k e = record {
  reads = read_by e.ordinal k (kind_at graph e);
  writes = written_by e.ordinal k (kind_at graph e);
  ends_between = ends_between graph e;
}

-- What the edges of a chain do. Its tables are numbered along it, from k on.
abbrev pub stages : Shape → ℕ → List Edge → List Stage
stages graph k [] = []
stages graph k (e ∷ es) = stage_of graph k e ∷ stages graph (k + table_count (kind_at graph e)) es

-- Between two edges there is a joint, unless the first ends at INTERNAL.
abbrev pub joint_between : Stage → Stage → List Joint
joint_between s t = if s.ends_between then [] else record { writer = s.writes; reader = t.reads } ∷ []

-- The joints of some edges behind another one.
abbrev pub joints_behind : Stage → List Stage → List Joint
joints_behind s [] = []
joints_behind s (t ∷ ts) = joint_between s t ++ joints_behind t ts

-- The last of some edges behind another one.
abbrev pub last_behind : Stage → List Stage → Stage
last_behind s [] = s
last_behind s (t ∷ ts) = last_behind t ts

-- The recipe of edges by what they do.
abbrev pub recipe_by : List Stage → Option Recipe
recipe_by [] = None
recipe_by (s ∷ ss) = Some (record {
  reader = s.reads;
  joints = joints_behind s ss;
  writer = (last_behind s ss).writes;
})

-- The edges of ordinals.
abbrev pub edges_at : Shape → List ℕ → List Edge
edges_at graph ordinals = filter_map (λ o. find (λ e. e.ordinal == o) graph.edges) ordinals

-- The recipe of a chain by its ordinals.
abbrev pub recipe_for : Shape → List ℕ → Option Recipe
recipe_for graph ordinals = recipe_by (stages graph 0 (edges_at graph ordinals))
