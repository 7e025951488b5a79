-- The names that are built in.
use Rattle.std.specs.Prelude.{ℕ, Bool, List, [], ◌∷◌, codes}
use Rattle.std.specs.List.{list_any}
use Rattle.std.specs.Str.{bytes_eq}

-- INTERNAL, the name of the set between all others.
abbrev pub internal_name : List ℕ
internal_name = codes "INTERNAL//"

-- The names of the built-in sets, in the order of their conversions.
abbrev pub builtin_sets : List (List ℕ)
builtin_sets =
    codes "ASCII//" ∷ codes "UTF-8//" ∷ codes "UTF-16//" ∷ codes "UTF-16LE//" ∷ codes "UTF-16BE//"
    ∷ codes "UCS-4//" ∷ []

-- A name is built in where it is one of these.
abbrev pub is_builtin_name : List ℕ → Bool
is_builtin_name name = list_any (bytes_eq name) (internal_name ∷ builtin_sets)

-- An alias and its original.
abbrev pub Pair : Type 0
Pair = List ℕ × List ℕ

-- The aliases that are built in, each with its original.
abbrev pub builtin_aliases : List Pair
builtin_aliases =
    (codes "UTF8//", codes "UTF-8//") ∷ (codes "UTF16//", codes "UTF-16//")
    ∷ (codes "UCS4//", codes "UCS-4//") ∷ (codes "US-ASCII//", codes "ASCII//") ∷ []
