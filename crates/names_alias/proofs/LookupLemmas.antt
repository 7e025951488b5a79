-- Fixed names and pairs in a table are looked up as in a plain list to which they were appended.
use Rattle.std.proofs.Common.{◌≡◌, ℕ, Bool, true, false, cond, List, [], ◌∷◌, ◌++◌, Option, Some, None, Result, Ok, Err, refl, sym, ap, ◌∙◌}
use Rattle.std.specs.Prelude.{is_some, ◌||◌, unwrap_or}
use Rattle.std.specs.Str.{bytes_eq}
use Rattle.std.proofs.lemmas.List.Folds.{list_any-append}
use Rattle.std.proofs.lemmas.Slice.Eq.{bytes_eq-Decides}
use Rattle.names_alias.specs.NameForm.{normal_of}
use Rattle.names_alias.specs.Builtin.{Pair, is_builtin_name, builtin_aliases}
use Rattle.names_alias.specs.Aliases.{AliasTable, is_fixed, original_of, with_fixed, with_pair, resolved, resolved_result, unless_reserved, caller_name_of}
use Rattle.names_alias.specs.Lookups.{LooksLike}
use Rattle.names_alias.specs.declared.fault.NameFault.{NameFault}

-- The first of two, if it is there, and else the second.
abbrev pub first_of : {X : Type 0} → Option X → Option X → Option X
first_of None b = b
first_of (Some a) b = Some a

first-cond : {X : Type 0} (t : Bool) (x : X) (a b : Option X) → cond t (Some x) (first_of a b) ≡ first_of (cond t (Some x) a) b
first-cond true x a b = refl
first-cond false x a b = refl

-- A pair is looked up in the first list before the second.
pub original_of-append : (xs ys : List Pair) (name : List ℕ) → original_of (xs ++ ys) name ≡ first_of (original_of xs name) (original_of ys name)
original_of-append [] ys name = refl
original_of-append (x ∷ xs) ys name =
    ap (cond (bytes_eq name x.0) (Some x.1)) (original_of-append xs ys name) ∙ first-cond (bytes_eq name x.0) x.1 (original_of xs name) (original_of ys name)

-- A name that is there already changes no look-up.
pub is_fixed-with_fixed : (table : AliasTable) (x name : List ℕ) → is_fixed (with_fixed table x).fixed name ≡ is_fixed (table.fixed ++ x ∷ []) name
is_fixed-with_fixed table x name = at (is_fixed table.fixed x) refl
  where
    same_name : (t : Bool) → bytes_eq name x ≡ t → is_fixed table.fixed x ≡ true → is_fixed table.fixed name ≡ (is_fixed table.fixed name || (t || false))
    same_name true is fixed = let e : is_fixed table.fixed name ≡ true = ap (is_fixed table.fixed) ((bytes_eq-Decides name x).0 is) ∙ fixed in e ∙ sym (rw e refl)
    same_name false is fixed = or_false (is_fixed table.fixed name)
      where
        or_false : (b : Bool) → b ≡ (b || false)
        or_false true = refl
        or_false false = refl

    at : (t : Bool) → is_fixed table.fixed x ≡ t → is_fixed (cond t table (record table { fixed = table.fixed ++ x ∷ [] })).fixed name ≡ is_fixed (table.fixed ++ x ∷ []) name
    at true is = same_name (bytes_eq name x) refl is ∙ sym (list_any-append (bytes_eq name) table.fixed (x ∷ []))
    at false is = refl

-- A pair of an alias that has one already changes no look-up.
pub original_of-with_pair : (table : AliasTable) (alias original name : List ℕ)
    → original_of (with_pair table alias original).pairs name ≡ original_of (table.pairs ++ (alias, original) ∷ []) name
original_of-with_pair table alias original name = at (is_some (original_of table.pairs alias)) refl
  where
    kept : (o : Option (List ℕ)) (t : Bool) → bytes_eq name alias ≡ t → original_of table.pairs name ≡ o → is_some (original_of table.pairs alias) ≡ true
        → o ≡ first_of o (cond t (Some original) None)
    kept (Some x) t is there some = refl
    kept None false is there some = refl
    kept None true is there some = let e : original_of table.pairs alias ≡ None = ap (original_of table.pairs) (sym ((bytes_eq-Decides name alias).0 is)) ∙ there in absurd (cc)

    at : (t : Bool) → is_some (original_of table.pairs alias) ≡ t
        → original_of (cond t table (record table { pairs = table.pairs ++ (alias, original) ∷ [] })).pairs name ≡ original_of (table.pairs ++ (alias, original) ∷ []) name
    at true is = kept (original_of table.pairs name) (bytes_eq name alias) refl refl is ∙ sym (original_of-append table.pairs ((alias, original) ∷ []) name)
    at false is = refl

-- An empty table looks like empty lists.
pub LooksLike-empty : LooksLike (record { fixed = []; pairs = [] }) [] []
LooksLike-empty = record { names = λ name. refl; originals = λ name. refl }

-- A fixed name more is one more in the list.
pub LooksLike-fixed : (table : AliasTable) (fixed : List (List ℕ)) (pairs : List Pair) (x : List ℕ) → LooksLike table fixed pairs → LooksLike (with_fixed table x) (fixed ++ x ∷ []) pairs
LooksLike-fixed table fixed pairs x like = record {
  names = λ name. is_fixed-with_fixed table x name ∙ list_any-append (bytes_eq name) table.fixed (x ∷ []) ∙ ap (λ t. t || (bytes_eq name x || false)) (like.names name)
      ∙ sym (list_any-append (bytes_eq name) fixed (x ∷ []));
  originals = λ name. pairs_kept name (is_fixed table.fixed x) ∙ like.originals name;
}
  where
    pairs_kept : (name : List ℕ) (t : Bool) → original_of (cond t table (record table { fixed = table.fixed ++ x ∷ [] })).pairs name ≡ original_of table.pairs name
    pairs_kept name true = refl
    pairs_kept name false = refl

-- A pair more is one more in the list.
pub LooksLike-pair : (table : AliasTable) (fixed : List (List ℕ)) (pairs : List Pair) (alias original : List ℕ) → LooksLike table fixed pairs
    → LooksLike (with_pair table alias original) fixed (pairs ++ (alias, original) ∷ [])
LooksLike-pair table fixed pairs alias original like = record {
  names = λ name. fixed_kept name (is_some (original_of table.pairs alias)) ∙ like.names name;
  originals = λ name. original_of-with_pair table alias original name ∙ original_of-append table.pairs ((alias, original) ∷ []) name
      ∙ ap (λ o. first_of o (original_of ((alias, original) ∷ []) name)) (like.originals name) ∙ sym (original_of-append pairs ((alias, original) ∷ []) name);
}
  where
    fixed_kept : (name : List ℕ) (t : Bool) → is_fixed (cond t table (record table { pairs = table.pairs ++ (alias, original) ∷ [] })).fixed name ≡ is_fixed table.fixed name
    fixed_kept name true = refl
    fixed_kept name false = refl

-- What looks alike resolves alike.
pub resolved-LooksLike : (table : AliasTable) (fixed : List (List ℕ)) (pairs : List Pair) (name : List ℕ) → LooksLike table fixed pairs
    → resolved table name ≡ resolved (record { fixed = fixed; pairs = pairs }) name
resolved-LooksLike table fixed pairs name like =
    ap (λ t. cond (is_builtin_name name || t) name (unwrap_or (original_of table.pairs name) (unwrap_or (original_of builtin_aliases name) name))) (like.names name)
    ∙ ap (λ o. cond (is_builtin_name name || is_fixed fixed name) name (unwrap_or o (unwrap_or (original_of builtin_aliases name) name))) (like.originals name)

-- What looks alike names alike for a caller.
pub caller_name_of-LooksLike : (table : AliasTable) (fixed : List (List ℕ)) (pairs : List Pair) (text : List ℕ) → LooksLike table fixed pairs
    → caller_name_of table text ≡ caller_name_of (record { fixed = fixed; pairs = pairs }) text
caller_name_of-LooksLike table fixed pairs text like = at (normal_of text)
  where
    at : (r : Result (List ℕ) NameFault) → resolved_result table r ≡ resolved_result (record { fixed = fixed; pairs = pairs }) r
    at (Ok name) = ap unless_reserved (resolved-LooksLike table fixed pairs name like)
    at (Err fault) = refl
