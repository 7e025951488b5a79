-- The edges of a configuration, by names.
use Rattle.std.specs.Prelude.{ℕ, ◌+◌, ◌*◌, Bool, ◌&&◌, ◌||◌, not, if◌then◌else◌, List, [], ◌∷◌, ◌++◌, Option, Some, None, is_some, count_by}
use Rattle.std.specs.List.{find, filter_map, flat_map, enumerate_from}
use Rattle.std.specs.Option.{option_map}
use Rattle.std.specs.Str.{bytes_eq}
use Rattle.names_alias.specs.Builtin.{internal_name, builtin_sets, is_builtin_name}
use Rattle.modules_conf.specs.declared.lines.EdgeLine.{EdgeLine}
use Rattle.modules_conf.specs.declared.bindings.Binding.{Binding}
use Rattle.modules_conf.specs.declared.kind.Kind.{Kind}
use Rattle.modules_conf.specs.declared.kind.Kind.TheVariants.{Table, Iso2022Jp, Recode}

-- An edge between names, with the kind of its module, if it has one.
pub record NamedEdge : Type 0 where
  pub ordinal : ℕ
  pub source : List ℕ
  pub target : List ℕ
  pub cost : ℕ
  pub kind : Option Kind

-- A built-in set has two edges of cost 1, to INTERNAL and from it, and no module.
abbrev pub builtin_pair : ℕ × List ℕ → List NamedEdge
builtin_pair set =
    record { ordinal = 2 * set.0; source = set.1; target = internal_name; cost = 1; kind = None }
    ∷ record { ordinal = 2 * set.0 + 1; source = internal_name; target = set.1; cost = 1; kind = None }
    ∷ []

-- The built-in edges are those of all built-in sets in order.
unfoldable pub builtin_edges : List NamedEdge
builtin_edges = flat_map builtin_pair (enumerate_from 0 builtin_sets)

abbrev pub is_internal : List ℕ → Bool
is_internal name = bytes_eq name internal_name

-- A module line may end at INTERNAL and at a name that isn't built in.
abbrev pub may_end : List ℕ → Bool
may_end name = is_internal name || not (is_builtin_name name)

abbrev pub is_one_of : Bool → Bool → Bool
is_one_of p q = (p && not q) || (q && not p)

-- A table and ISO-2022-JP convert between a set and INTERNAL, a recoding between two sets.
abbrev pub suits : Kind → Bool → Bool → Bool
suits (Table _) from to = is_one_of from to
suits (Iso2022Jp _ _) from to = is_one_of from to
suits (Recode _ _) from to = not from && not to

-- A module line has an edge by a kind where its ends are allowed and suit the kind.
abbrev pub allows : EdgeLine → Kind → Bool
allows line kind =
    may_end line.source && may_end line.target
    && suits kind (is_internal line.source) (is_internal line.target)

-- The kind to which a module's name is bound.
abbrev pub kind_bound : List Binding → List ℕ → Option Kind
kind_bound bindings name = option_map (λ b. b.kind) (find (λ b. bytes_eq b.name name) bindings)

abbrev pub if_allowed : EdgeLine → Option Kind → Option Kind
if_allowed line None = None
if_allowed line (Some kind) = if allows line kind then Some kind else None

-- The kind by which a module line gives an edge, if it gives one: its module is bound, and the kind is
-- allowed.
abbrev pub kind_of_line : List Binding → EdgeLine → Option Kind
kind_of_line bindings line = if_allowed line (kind_bound bindings line.«module»)

-- The edge of a module line by a kind has an ordinal of 15 more than the line's number.
abbrev pub edge_by : EdgeLine → Kind → NamedEdge
edge_by line kind = record {
  ordinal = 15 + line.line;
  source = line.source;
  target = line.target;
  cost = line.cost;
  kind = Some kind;
}

abbrev pub edge_of_line : List Binding → EdgeLine → Option NamedEdge
edge_of_line bindings line = option_map (edge_by line) (kind_of_line bindings line)

-- All edges: the built-in ones, and those of the module lines that give one.
abbrev pub named_edges : List EdgeLine → List Binding → List NamedEdge
named_edges lines bindings = builtin_edges ++ filter_map (edge_of_line bindings) lines

-- How many module lines give no edge.
abbrev pub skipped_lines : List EdgeLine → List Binding → ℕ
skipped_lines lines bindings = count_by (λ line. not (is_some (kind_of_line bindings line))) lines
