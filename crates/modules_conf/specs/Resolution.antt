-- What a name stands for in a configuration.
use Rattle.std.specs.Prelude.{ℕ, List, [], ◌∷◌, map, flat_map}
use Rattle.names_alias.specs.Aliases.{AliasTable}
use Rattle.modules_conf.specs.declared.lines.EdgeLine.{EdgeLine}
use Rattle.modules_conf.specs.declared.conf.Conf.{Conf}

-- The ends of module lines, each line's source before its target.
abbrev pub ends_of : List EdgeLine → List (List ℕ)
ends_of edges = flat_map (λ e. e.source ∷ e.target ∷ []) edges

-- In a configuration the ends of its module lines are fixed, and its alias lines are the pairs.
abbrev pub alias_table_of : Conf → AliasTable
alias_table_of conf = record { fixed = ends_of conf.edges; pairs = map (λ a. (a.alias, a.original)) conf.aliases }
