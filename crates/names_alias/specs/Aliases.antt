-- Aliases, and what a name stands for.
use Rattle.std.specs.Prelude.{ℕ, Bool, ◌||◌, if◌then◌else◌, List, [], ◌∷◌, ◌++◌, Option, is_some, unwrap_or, Result, Ok, Err}
use Rattle.std.specs.List.{list_any}
use Rattle.std.specs.Map.{lookup}
use Rattle.std.specs.Str.{bytes_eq}
use Rattle.names_alias.specs.NameForm.{normal_of}
use Rattle.names_alias.specs.Builtin.{Pair, internal_name, is_builtin_name, builtin_aliases}
use Rattle.names_alias.specs.declared.fault.NameFault.{NameFault}
use Rattle.names_alias.specs.declared.fault.NameFault.TheVariants.{Reserved}

-- The names that are never aliases, and the first pair of each alias, in order.
pub record AliasTable : Type 0 where
  pub fixed : List (List ℕ)
  pub pairs : List Pair

-- The original of the first pair of an alias.
abbrev pub original_of : List Pair → List ℕ → Option (List ℕ)
original_of pairs name = lookup (bytes_eq name) pairs

-- A name is fixed where it is among the fixed ones.
abbrev pub is_fixed : List (List ℕ) → List ℕ → Bool
is_fixed fixed name = list_any (bytes_eq name) fixed

-- The table in which a name is fixed besides.
abbrev pub with_fixed : AliasTable → List ℕ → AliasTable
with_fixed table name =
    if is_fixed table.fixed name then table else record table { fixed = table.fixed ++ name ∷ [] }

-- The table with one pair more, unless it has a pair of this alias.
abbrev pub with_pair : AliasTable → List ℕ → List ℕ → AliasTable
with_pair table alias original =
    if is_some (original_of table.pairs alias) then table
    else record table { pairs = table.pairs ++ (alias, original) ∷ [] }

-- What a name stands for: itself where it is built in or fixed, else the original of its first pair,
-- else that of its built-in alias, else itself.
abbrev pub resolved : AliasTable → List ℕ → List ℕ
resolved table name =
    if is_builtin_name name || is_fixed table.fixed name then name
    else unwrap_or (original_of table.pairs name) (unwrap_or (original_of builtin_aliases name) name)

-- A name that a caller may give is any but INTERNAL.
abbrev pub unless_reserved : List ℕ → Result (List ℕ) NameFault
unless_reserved name = if bytes_eq name internal_name then Err Reserved else Ok name

-- What a normal form stands for, where there is one.
abbrev pub resolved_result : AliasTable → Result (List ℕ) NameFault → Result (List ℕ) NameFault
resolved_result table (Ok name) = unless_reserved (resolved table name)
resolved_result table (Err fault) = Err fault

-- What a caller's text names.
abbrev pub caller_name_of : AliasTable → List ℕ → Result (List ℕ) NameFault
caller_name_of table text = resolved_result table (normal_of text)
