-- Loads are kept with their tables.
use Rattle.std.proofs.Common.{◌≡◌, ◌++◌, ◌∷◌, [], ◌<◌, ◌+◌, ℕ, zero, suc, List, Option, Some, None, length, take, drop, map, get_or, sym, ap, ◌∙◌, subst, refl, arith, MatchOption}
use Rattle.std.specs.Option.{option_to_list}
use Rattle.std.proofs.lemmas.List.{drop-drop, map-append, take_more}
use Rattle.code_pairs.specs.Tables.{Tables}
use Rattle.runtime_histories.specs.declared.loads.Load.{Load}
use Rattle.std.specs.Prelude.{nat_lt, ◌&&◌, Bool, true, false, cond}
use Rattle.std.specs.List.{filter}
use Rattle.runtime_histories.specs.Deeds.{Deeds, Loaded, marks}
use Rattle.runtime_histories.specs.Residence.{resident}
use Rattle.conversion_book.specs.Descriptors.{kept_as}
use Rattle.conversion_book.specs.Preparing.{still_kept}
use Rattle.conversion_book.specs.declared.kept.Kept.{Kept}
use Rattle.runtime_histories.specs.Entries.{loaded_of}

-- The next tables, if there are some, are those at the index.
abbrev pub Case : List Tables → ℕ → Option Tables → List Tables → Type 0
Case given i o after = (v : Tables) × (o ≡ Some v) × (drop i given ≡ v ∷ drop (i + 1) given) × (after ≡ drop (i + 1) given)

pub next_is : (given : List Tables) (i n m : ℕ) (Q : Tables → Type 0) (o : Option Tables) (before after : List Tables) → before ≡ drop i given → before ≡ option_to_list o ++ after → MatchOption o ((n ≡ 0) × (m ≡ 0)) Q → 0 < n → Case given i o after
next_is given i n m Q None before after is e none pos = let h = none.0 in absurd (omega arith)
next_is given i n m Q (Some v) before after is e none pos =
    let whole : drop i given ≡ v ∷ after = sym is ∙ e in
    let tail : after ≡ drop (i + 1) given = ap (drop 1) (sym whole) ∙ drop-drop 1 i given in
    (v, refl, whole ∙ ap (λ (z : List Tables). v ∷ z) tail, tail)

-- What is done for the tables that there are.
pub put_is : (o : Option Tables) (v : Tables) (m : ℕ) (old new : List Loaded) → o ≡ Some v
    → MatchOption o (new ≡ old) (λ w. new ≡ old ++ record { «module» = m; tables = w } ∷ []) → new ≡ old ++ record { «module» = m; tables = v } ∷ []
put_is o v m old new e h = subst (λ (z : Option Tables). MatchOption z (new ≡ old) (λ w. new ≡ old ++ record { «module» = m; tables = w } ∷ [])) e h

tables_at : (loads : List Load) (i : ℕ) (l : Load) (t : Tables) (rest : List Tables) → i < length loads → drop i (map (λ (x : Loaded). x.tables) (map loaded_of loads)) ≡ t ∷ rest
    → t ≡ (get_or loads i l).tables.value
tables_at [] i l t rest lt e = absurd (omega (arith, lt))
tables_at (x ∷ xs) zero l t rest lt e = ap (λ (z : List Tables). get_or z 0 t) (sym e)
tables_at (x ∷ xs) (suc i) l t rest lt e = tables_at xs i l t rest (omega (arith, lt)) e

-- One load more is kept.
pub load_step : (loads : List Load) (given : List Tables) (i : ℕ) (l : Load) (t : Tables) (old new : List Loaded) → i < length loads → get_or loads i l ≡ l
    → map (λ (x : Loaded). x.tables) (map loaded_of loads) ≡ given → drop i given ≡ t ∷ drop (i + 1) given → old ≡ map loaded_of (take i loads)
    → new ≡ old ++ record { «module» = l.«module»; tables = t } ∷ [] → new ≡ map loaded_of (take (i + 1) loads)
load_step loads given i l t old new lt at all left was is =
    let same : t ≡ l.tables.value = tables_at loads i l t (drop (i + 1) given) lt (ap (drop i) all ∙ left) ∙ ap (λ (z : Load). z.tables.value) at in
    is ∙ ((λ k. was k ++ record { «module» = l.«module»; tables = same k } ∷ [])
    ∙ (sym (map-append loaded_of (take i loads) (l ∷ [])) ∙ ap (map loaded_of) (ap (λ (z : Load). take i loads ++ z ∷ []) (sym at) ∙ sym (take_more loads i l lt))))

-- What is said of an option, where it is known.
pub none_case : {X : Type 0} (o : Option X) (A : Type 0) (B : X → Type 0) → o ≡ None → MatchOption o A B → A
none_case o A B e h = subst (λ z. MatchOption z A B) e h

pub some_case : {X : Type 0} (o : Option X) (x : X) (A : Type 0) (B : X → Type 0) → o ≡ Some x → MatchOption o A B → B x
some_case o x A B e h = subst (λ z. MatchOption z A B) e h

-- The modules that are known and resident.
pub kept_still : (n : ℕ) (log : Deeds) (ks : List Kept) → map kept_as (filter (λ (k : Kept). nat_lt k.«module» n && resident (marks log) k.«module») ks) ≡ still_kept n log (map kept_as ks)
kept_still n log [] = refl
kept_still n log (k ∷ ks) = go (nat_lt k.«module» n && resident (marks log) k.«module») (kept_still n log ks)
  where
    go : (b : Bool) → map kept_as (filter (λ (k : Kept). nat_lt k.«module» n && resident (marks log) k.«module») ks) ≡ still_kept n log (map kept_as ks)
        → map kept_as (cond b (k ∷ filter (λ (k : Kept). nat_lt k.«module» n && resident (marks log) k.«module») ks) (filter (λ (k : Kept). nat_lt k.«module» n && resident (marks log) k.«module») ks))
        ≡ cond b (kept_as k ∷ still_kept n log (map kept_as ks)) (still_kept n log (map kept_as ks))
    go true e = ap (λ (z : List Loaded). kept_as k ∷ z) e
    go false e = e
