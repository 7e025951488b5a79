-- Elements in the order of their first appearance, and their places.
use Rattle.std.proofs.Common.{◌≡◌, ◌+◌, ◌<◌, ◌≤◌, Bool, true, false, ◌||◌, List, [], ◌∷◌, ◌++◌, length, position, if◌then◌else◌, Some, refl, sym, ap, ◌∙◌, arith, length-append}
use Rattle.std.specs.List.{list_any, position_or_len}
use Rattle.std.proofs.lemmas.List.Folds.{list_any-append, position_or_len_push}
use Rattle.std.proofs.lemmas.Bool.{false≢true, lt-ltb, eq-eqb, ne_eqb}
use Rattle.indexmap.specs.IndexSet.{insert_key}
use Rattle.module_graph.specs.Numbers.{with_new}

or_true : (b : Bool) → (b || true) ≡ true
or_true true = refl
or_true false = refl

-- a test that some element passes has its first place within the list
pub found_within : {X : Type 0} (p : X → Bool) (xs : List X) → list_any p xs ≡ true → position_or_len p xs < length xs
found_within p [] h = absurd (false≢true h)
found_within p (x ∷ xs) h = go (p x) refl (found_within p xs)
  where
    go : (b : Bool) → p x ≡ b → (list_any p xs ≡ true → position_or_len p xs < length xs) → position_or_len p (x ∷ xs) < length (x ∷ xs)
    go true e later = rw e (omega arith)
    go false e later = let ih : position_or_len p xs < length xs = later (sym (ap (λ c. c || list_any p xs) e) ∙ h) in rw e (omega arith)

-- one that no element passes has none
pub absent_past : {X : Type 0} (p : X → Bool) (xs : List X) → list_any p xs ≡ false → position_or_len p xs ≡ length xs
absent_past p [] h = refl
absent_past p (x ∷ xs) h = go (p x) refl (absent_past p xs)
  where
    go : (b : Bool) → p x ≡ b → (list_any p xs ≡ false → position_or_len p xs ≡ length xs) → position_or_len p (x ∷ xs) ≡ length (x ∷ xs)
    go true e later = absurd (false≢true (sym h ∙ ap (λ c. c || list_any p xs) e))
    go false e later = let ih : position_or_len p xs ≡ length xs = later (sym (ap (λ c. c || list_any p xs) e) ∙ h) in rw e (omega arith)

pub position_found : {X : Type 0} (p : X → Bool) (xs : List X) → list_any p xs ≡ true → position p xs ≡ Some (position_or_len p xs)
position_found p xs h = rw (lt-ltb (position_or_len p xs) (length xs) (found_within p xs h)) refl

module _ {K : Type 0} (same : K → K → Bool) (itself : (k : K) → same k k ≡ true) where
  -- what holds of the longer list: what the shorter one has keeps its place
  pub record Grows (ks later : List K) : Type 0 where
    pub kept : (j : K) → list_any (same j) ks ≡ true → list_any (same j) later ≡ true
    pub place : (j : K) → list_any (same j) ks ≡ true → position (same j) later ≡ position (same j) ks

  pub grows_refl : (ks : List K) → Grows ks ks
  grows_refl ks = record { kept = λ j h. h; place = λ j h. refl }

  pub grows_trans : (xs ys zs : List K) → Grows xs ys → Grows ys zs → Grows xs zs
  grows_trans xs ys zs f g = record { kept = λ j h. g.kept j (f.kept j h); place = λ j h. g.place j (f.kept j h) ∙ f.place j h }

  pushed_has : (ks : List K) (k j : K) → list_any (same j) ks ≡ true → list_any (same j) (ks ++ k ∷ []) ≡ true
  pushed_has ks k j h = list_any-append (same j) ks (k ∷ []) ∙ ap (λ c. c || list_any (same j) (k ∷ [])) h

  pushed_place : (ks : List K) (k j : K) → list_any (same j) ks ≡ true → position_or_len (same j) (ks ++ k ∷ []) ≡ position_or_len (same j) ks
  pushed_place ks k j h =
      let lt : position_or_len (same j) ks < length ks = found_within (same j) ks h in
      position_or_len_push (same j) ks k ∙ rw (ne_eqb (position_or_len (same j) ks) (length ks) (λ e. omega arith)) refl

  pub grows_pushed : (ks : List K) (k : K) → Grows ks (ks ++ k ∷ [])
  grows_pushed ks k = record {
    kept = pushed_has ks k;
    place = λ j h. position_found (same j) (ks ++ k ∷ []) (pushed_has ks k j h) ∙ ap Some (pushed_place ks k j h) ∙ sym (position_found (same j) ks h);
  }

  pub grows_insert : (ks : List K) (k : K) → Grows ks (insert_key same ks k)
  grows_insert ks k = elim (list_any (same k) ks) as (λ b. Grows ks (if b then ks else ks ++ k ∷ [])) [ true ↦ grows_refl ks | false ↦ grows_pushed ks k ]

  -- an inserted element is there
  pub inserted_has : (ks : List K) (k : K) → list_any (same k) (insert_key same ks k) ≡ true
  inserted_has ks k = go (list_any (same k) ks) refl
    where
      go : (b : Bool) → list_any (same k) ks ≡ b → list_any (same k) (if b then ks else ks ++ k ∷ []) ≡ true
      go true e = e
      go false e = list_any-append (same k) ks (k ∷ []) ∙ rw (e, itself k) refl

  -- at the place where the shorter list has it, or ends
  inserted_place : (ks : List K) (k : K) → position_or_len (same k) (insert_key same ks k) ≡ position_or_len (same k) ks
  inserted_place ks k = go (list_any (same k) ks) refl
    where
      go : (b : Bool) → list_any (same k) ks ≡ b → position_or_len (same k) (if b then ks else ks ++ k ∷ []) ≡ position_or_len (same k) ks
      go true e = refl
      go false e =
          let past : position_or_len (same k) ks ≡ length ks = absent_past (same k) ks e in
          position_or_len_push (same k) ks k ∙ rw (eq-eqb (position_or_len (same k) ks) (length ks) past, itself k) (omega arith)

  pub position_inserted : (ks : List K) (k : K) → position (same k) (insert_key same ks k) ≡ Some (position_or_len (same k) ks)
  position_inserted ks k = position_found (same k) (insert_key same ks k) (inserted_has ks k) ∙ ap Some (inserted_place ks k)

  pub with_new-append : (seen xs ys : List K) → with_new same seen (xs ++ ys) ≡ with_new same (with_new same seen xs) ys
  with_new-append seen [] ys = refl
  with_new-append seen (x ∷ xs) ys = with_new-append (insert_key same seen x) xs ys

  pub grows_with_new : (seen xs : List K) → Grows seen (with_new same seen xs)
  grows_with_new seen [] = grows_refl seen
  grows_with_new seen (x ∷ xs) = grows_trans seen (insert_key same seen x) (with_new same (insert_key same seen x) xs) (grows_insert seen x) (grows_with_new (insert_key same seen x) xs)

  length_insert : (ks : List K) (k : K) → length (insert_key same ks k) ≤ length ks + 1
  length_insert ks k = elim (list_any (same k) ks) as (λ b. length (if b then ks else ks ++ k ∷ []) ≤ length ks + 1) [ true ↦ omega arith | false ↦ omega (arith, length-append ks (k ∷ [])) ]

  -- no more elements than were given
  pub length_with_new : (seen xs : List K) → length (with_new same seen xs) ≤ length seen + length xs
  length_with_new seen [] = omega arith
  length_with_new seen (x ∷ xs) = let ih = length_with_new (insert_key same seen x) xs in omega (arith, ih, length_insert seen x)
