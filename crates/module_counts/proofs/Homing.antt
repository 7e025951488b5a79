-- Rows of pages, and the modules in the order in which they were placed.
use Rattle.std.proofs.Common.{◌≡◌, ◌≢◌, ℕ, ◌<◌, ◌≤◌, eqb, Bool, true, false, ◌||◌, cond, List, [], ◌∷◌, ◌++◌, length, map, get_or, sym, refl, ap, ◌∙◌, subst, arith, ⊎_elim, true≢false, eq-eqb, ne_eqb, get_or-set_same, get_or-set_other}
use Rattle.std.proofs.Math.ListN.{set}
use Rattle.std.proofs.lemmas.List.{map-append, length-map, length-set, get_or_past}
use Rattle.std.proofs.lemmas.Bool.{cases_lt}
use mathlib.Core.Logic.{dite}
use native.Mathlib.Decide.{ℕ_discrete}
use Rattle.std.specs.List.{AllByRecursion, filter}
use Rattle.std.specs.declared.vec.Vec.{Vec}
use Rattle.std.specs.declared.alloc.Global.{Global}
use Rattle.module_counts.specs.declared.ages.Ages.{Ages}
use Rattle.module_counts.specs.declared.homes.Homes.{Homes}
use Rattle.module_counts.specs.Tracking.{is_kept}
use Rattle.runtime_histories.specs.Places.{among}
use Rattle.module_counts.specs.Stocks.{seat_in, seated, lists, laid, cleared, Once, IsSettled, IsHomes}
use Rattle.module_counts.proofs.Tidying.{or_false_both, among-append}

set_at : (rows : List (List ℕ)) (m k : ℕ) (p : List ℕ) → m < length rows → m ≡ k → get_or (set rows m p) k [] ≡ p
set_at rows m k p lt e = subst (λ (z : ℕ). get_or (set rows m p) z [] ≡ p) e (get_or-set_same rows m p [] lt)

set_empty : (rows : List (List ℕ)) (m : ℕ) → get_or (set rows m []) m [] ≡ []
set_empty rows m = ⊎_elim (λ (z : m < length rows). get_or-set_same rows m [] [] z)
    (λ (z : length rows ≤ m). get_or_past (set rows m []) m [] (let l = length-set rows m [] in omega arith)) (cases_lt m (length rows))

differs : (m k : ℕ) → eqb m k ≡ false → k ≢ m
differs m k e z = true≢false (sym (eq-eqb m k (sym z)) ∙ e)

pub length-cleared : (p : ℕ → Bool) (rows : List (List ℕ)) (ms : List ℕ) → length (cleared p rows ms) ≡ length rows
length-cleared p rows [] = refl
length-cleared p rows (m ∷ ms) = length-cleared p (cond (p m) rows (set rows m [])) ms ∙ go (p m)
  where
    go : (b : Bool) → length (cond b rows (set rows m [])) ≡ length rows
    go true = refl
    go false = length-set rows m []

length-laid : (rows : List (List ℕ)) (ms : List ℕ) (ps : List (List ℕ)) → length (laid rows ms ps) ≡ length rows
length-laid rows [] ps = refl
length-laid rows (m ∷ ms) [] = refl
length-laid rows (m ∷ ms) (p ∷ ps) = length-laid (set rows m p) ms ps ∙ length-set rows m p

-- The row of a module that passes the test is left.
cleared-kept : (p : ℕ → Bool) (rows : List (List ℕ)) (ms : List ℕ) (k : ℕ) → p k ≡ true → get_or (cleared p rows ms) k [] ≡ get_or rows k []
cleared-kept p rows [] k e = refl
cleared-kept p rows (m ∷ ms) k e = cleared-kept p (cond (p m) rows (set rows m [])) ms k e ∙ go (p m) refl
  where
    go : (b : Bool) → p m ≡ b → get_or (cond b rows (set rows m [])) k [] ≡ get_or rows k []
    go true f = refl
    go false f = get_or-set_other rows m k [] [] (λ (z : k ≡ m). true≢false (sym e ∙ (ap p z ∙ f)))

-- The row of a module that doesn't stand among those that pass is empty.
cleared-empty : (p : ℕ → Bool) (rows : List (List ℕ)) (ms : List ℕ) (k : ℕ) → among k (filter p ms) ≡ false → (among k ms ≡ false → get_or rows k [] ≡ []) → get_or (cleared p rows ms) k [] ≡ []
cleared-empty p rows [] k e h = h refl
cleared-empty p rows (m ∷ ms) k e h = go (p m) e (λ f g. cleared-empty p rows ms k f g) (λ f g. cleared-empty p (set rows m []) ms k f g)
  where
    go : (b : Bool) → among k (cond b (m ∷ filter p ms) (filter p ms)) ≡ false
        → (among k (filter p ms) ≡ false → (among k ms ≡ false → get_or rows k [] ≡ []) → get_or (cleared p rows ms) k [] ≡ [])
        → (among k (filter p ms) ≡ false → (among k ms ≡ false → get_or (set rows m []) k [] ≡ []) → get_or (cleared p (set rows m []) ms) k [] ≡ [])
        → get_or (cleared p (cond b rows (set rows m [])) ms) k [] ≡ []
    go true f left empty = let r = or_false_both (eqb m k) (among k (filter p ms)) f in
        left r.1 (λ z. h (λ i. r.0 i || z i))
    go false f left empty = empty f (λ z. dite (ℕ_discrete m k)
        (λ (y : m ≡ k). subst (λ (x : ℕ). get_or (set rows m []) x [] ≡ []) y (set_empty rows m))
        (λ ne. get_or-set_other rows m k [] [] (λ (x : k ≡ m). ne (sym x)) ∙ h (λ i. ne_eqb m k ne i || z i)))

-- The rows of other modules are left.
laid-other : (rows : List (List ℕ)) (ms : List ℕ) (ps : List (List ℕ)) (k : ℕ) → among k ms ≡ false → get_or (laid rows ms ps) k [] ≡ get_or rows k []
laid-other rows [] ps k e = refl
laid-other rows (m ∷ ms) [] k e = refl
laid-other rows (m ∷ ms) (p ∷ ps) k e = let r = or_false_both (eqb m k) (among k ms) e in
    laid-other (set rows m p) ms ps k r.1 ∙ get_or-set_other rows m k p [] (differs m k r.0)

-- The seats of modules whose rows are the same.
seats_same : (old new : List (List ℕ)) (ks : List ℕ) → AllByRecursion (λ k. get_or new k [] ≡ get_or old k []) ks → map (seat_in new) ks ≡ map (seat_in old) ks
seats_same old new [] h = refl
seats_same old new (k ∷ ks) h = (λ i. record { «module» = k; pages = h.0 i } ∷ seats_same old new ks h.1 i)

-- The seats of modules that got their pages.
seats-laid : (rows : List (List ℕ)) (ms : List ℕ) (ps : List (List ℕ)) → Once ms → AllByRecursion (λ m. m < length rows) ms → length ps ≡ length ms → map (seat_in (laid rows ms ps)) ms ≡ seated ms ps
seats-laid rows [] ps once known same = refl
seats-laid rows (m ∷ ms) [] once known same = absurd (omega arith)
seats-laid rows (m ∷ ms) (p ∷ ps) once known same =
    let head : get_or (laid (set rows m p) ms ps) m [] ≡ p = laid-other (set rows m p) ms ps m once.0 ∙ get_or-set_same rows m p [] known.0 in
    let tail : map (seat_in (laid (set rows m p) ms ps)) ms ≡ seated ms ps =
    seats-laid (set rows m p) ms ps once.1 (subst (λ (n : ℕ). AllByRecursion (λ m. m < n) ms) (sym (length-set rows m p)) known.1) (omega arith) in
    (λ i. record { «module» = m; pages = head i } ∷ tail i)

once_behind : (xs ys : List ℕ) → Once (xs ++ ys) → Once ys
once_behind [] ys h = h
once_behind (x ∷ xs) ys h = once_behind xs ys h.1

pub all_behind : (P : ℕ → Type 0) (xs ys : List ℕ) → AllByRecursion P (xs ++ ys) → AllByRecursion P ys
all_behind P [] ys h = h
all_behind P (x ∷ xs) ys h = all_behind P xs ys h.1

-- What passes the test and stands once with those behind it has its row.
rows_stay : (p : ℕ → Bool) (rows : List (List ℕ)) (order ms : List ℕ) (ps : List (List ℕ)) (ks : List ℕ) → Once (filter p ks ++ ms)
    → AllByRecursion (λ k. get_or (laid (cleared p rows order) ms ps) k [] ≡ get_or rows k []) (filter p ks)
rows_stay p rows order ms ps [] once = tt
rows_stay p rows order ms ps (k ∷ ks) once = go (p k) refl once (rows_stay p rows order ms ps ks)
  where
    go : (b : Bool) → p k ≡ b → Once (cond b (k ∷ filter p ks) (filter p ks) ++ ms)
        → (Once (filter p ks ++ ms) → AllByRecursion (λ k. get_or (laid (cleared p rows order) ms ps) k [] ≡ get_or rows k []) (filter p ks))
        → AllByRecursion (λ k. get_or (laid (cleared p rows order) ms ps) k [] ≡ get_or rows k []) (cond b (k ∷ filter p ks) (filter p ks))
    go true e o rec =
        let apart = or_false_both (among k (filter p ks)) (among k ms) (sym (among-append k (filter p ks) ms) ∙ o.0) in
        (laid-other (cleared p rows order) ms ps k apart.1 ∙ cleared-kept p rows order k e, rec o.1)
    go false e o rec = rec o

-- The seats after modules were placed behind those that are kept.
pub seats_settled : (p : ℕ → Bool) (rows : List (List ℕ)) (order ms : List ℕ) (ps : List (List ℕ)) → Once (filter p order ++ ms) → AllByRecursion (λ m. m < length rows) (filter p order ++ ms) → length ps ≡ length ms
    → map (seat_in (laid (cleared p rows order) ms ps)) (filter p order ++ ms) ≡ map (seat_in rows) (filter p order) ++ seated ms ps
seats_settled p rows order ms ps once known same =
    let new = laid (cleared p rows order) ms ps in
    map-append (seat_in new) (filter p order) ms ∙ (λ i. seats_same rows new (filter p order) (rows_stay p rows order ms ps order once) i
    ++ seats-laid (cleared p rows order) ms ps (once_behind (filter p order) ms once)
    (subst (λ (n : ℕ). AllByRecursion (λ m. m < n) ms) (sym (length-cleared p rows order)) (all_behind (λ m. m < length rows) (filter p order) ms known)) same i)

-- As many rows as lists.
pub length-lists : (vs : List (Vec ℕ Global)) → length (lists vs) ≡ length vs
length-lists vs = length-map vs (λ (v : Vec ℕ Global). v.items)

-- Each module still has a row, and the empty ones are those of modules that don't stand in the order.
pub homes_settled : (n : ℕ) (a : Ages) (old new : Homes) (ms : List ℕ) (ps : List (List ℕ)) → IsHomes n old → IsSettled a old new ms ps → IsHomes n new
homes_settled n a old new ms ps h s = record {
  count = let x = ap length s.rows_are in let y = length-laid (cleared (is_kept a) (lists old.rows.items) old.order.items) ms ps in
      let z = length-cleared (is_kept a) (lists old.rows.items) old.order.items in let u = length-lists old.rows.items in let v = length-lists new.rows.items in
      let w = h.count in omega arith;
  empty = λ m e.
      let apart = or_false_both (among m (filter (is_kept a) old.order.items)) (among m ms)
      (sym (ap (among m) s.order_is ∙ among-append m (filter (is_kept a) old.order.items) ms) ∙ e) in
      ap (λ (z : List (List ℕ)). get_or z m []) s.rows_are
      ∙ (laid-other (cleared (is_kept a) (lists old.rows.items) old.order.items) ms ps m apart.1
      ∙ cleared-empty (is_kept a) (lists old.rows.items) old.order.items m apart.0 (h.empty m));
}
