-- Tables in which each name is looked up alike. No public clause cites it.
use Rattle.std.specs.Prelude.{◌≡◌, ℕ, List}
use Rattle.names_alias.specs.Builtin.{Pair}
use Rattle.names_alias.specs.Aliases.{AliasTable, is_fixed, original_of}

-- The table has the same fixed names as the list, and each alias has the original of its first pair in the other list.
pub record LooksLike (table : AliasTable) (fixed : List (List ℕ)) (pairs : List Pair) : Type 0 where
  pub names : (name : List ℕ) → is_fixed table.fixed name ≡ is_fixed fixed name
  pub originals : (name : List ℕ) → original_of table.pairs name ≡ original_of pairs name
