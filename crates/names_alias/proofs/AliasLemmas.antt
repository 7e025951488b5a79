-- What an alias more changes.
use Rattle.std.proofs.Common.{◌≡◌, ℕ, Bool, true, false, cond, Some, List, [], ◌∷◌, ◌++◌, refl, ap}
use Rattle.std.specs.Prelude.{is_some}
use Rattle.std.specs.Map.{lookup}
use Rattle.std.specs.Str.{bytes_eq}
use Rattle.indexmap.specs.IndexMap.{insert_entry}
use Rattle.names_alias.specs.Builtin.{Pair}
use Rattle.names_alias.specs.Aliases.{AliasTable, original_of, with_pair}

insert_entry-here : (b : Bool) (e : Pair) (es : List Pair) (k v : List ℕ) → is_some (cond b (Some e.1) (lookup (bytes_eq k) es)) ≡ false
    → (is_some (lookup (bytes_eq k) es) ≡ false → insert_entry bytes_eq es k v ≡ es ++ (k, v) ∷ [])
    → cond b ((e.0, v) ∷ es) (e ∷ insert_entry bytes_eq es k v) ≡ (e ∷ es) ++ (k, v) ∷ []
insert_entry-here true e es k v absent more = cc
insert_entry-here false e es k v absent more = ap (λ rest. e ∷ rest) (more absent)

-- An entry whose key is absent goes last.
pub insert_entry-absent : (es : List Pair) (k v : List ℕ) → is_some (lookup (bytes_eq k) es) ≡ false → insert_entry bytes_eq es k v ≡ es ++ (k, v) ∷ []
insert_entry-absent [] k v absent = refl
insert_entry-absent (e ∷ es) k v absent = insert_entry-here (bytes_eq k e.0) e es k v absent (insert_entry-absent es k v)

-- A table whose pairs are those of an insertion has one pair more.
pub with_pair-absent : (fixed : List (List ℕ)) (es more : List Pair) (table : AliasTable) (k v : List ℕ) → record { fixed = fixed; pairs = es } ≡ table
    → is_some (original_of es k) ≡ false → more ≡ insert_entry bytes_eq es k v → record { fixed = fixed; pairs = more } ≡ with_pair table k v
with_pair-absent fixed es more table k v is absent inserted =
    rw (← is, absent, inserted, insert_entry-absent es k v absent) refl
