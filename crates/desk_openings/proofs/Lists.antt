-- Numbers of lists, and places of modules.
use Rattle.std.proofs.Common.{◌≡◌, ◌⊎◌, ℕ, eqb, Bool, true, false, not, ◌||◌, cond, List, [], ◌∷◌, ◌++◌, Option, Some, None, sym, refl, ap, ◌∙◌, subst, inl, inr, ⊎_elim, true≢false, eq-eqb, eqb-true, ne_eqb, append-nil, append_assoc}
use Rattle.std.specs.List.{list_any, filter, AllByRecursion}
use Rattle.module_graph.specs.Numbers.{with_new}
use Rattle.runtime_histories.specs.Deeds.{Deeds, Loaded, marks}
use Rattle.runtime_histories.specs.Legal.{absent_among, loaded_modules}
use Rattle.runtime_histories.specs.Places.{Placed, among, placed_at, place_loads, place_deed, still, places_from, places}
use Rattle.runtime_histories.specs.Residence.{resident}
use Rattle.runtime_histories.proofs.Basics.{any-append}
use Rattle.desk_openings.specs.Parts.{place_of, IsThere}

pub or_true : (a b : Bool) → (a || b) ≡ true → (a ≡ true) ⊎ (b ≡ true)
or_true true b e = inl refl
or_true false b e = inr e

pub or_left : (a b : Bool) → a ≡ true → (a || b) ≡ true
or_left true b e = refl
or_left false b e = absurd (true≢false (sym e))

pub or_right : (a b : Bool) → b ≡ true → (a || b) ≡ true
or_right true b e = refl
or_right false b e = e

pub or_false : (a b : Bool) → (a || b) ≡ false → (a ≡ false) × (b ≡ false)
or_false true b e = absurd (true≢false e)
or_false false b e = (refl, e)

pub cases : (b : Bool) → (b ≡ true) ⊎ (b ≡ false)
cases true = inl refl
cases false = inr refl

pub among_more : (m : ℕ) (xs ys : List ℕ) → (among m xs ≡ true) ⊎ (among m ys ≡ true) → among m (xs ++ ys) ≡ true
among_more m xs ys h = any-append (λ y. eqb y m) xs ys ∙ ⊎_elim (λ z. or_left (among m xs) (among m ys) z) (λ z. or_right (among m xs) (among m ys) z) h

seen_stays : (m : ℕ) (seen xs : List ℕ) → among m seen ≡ true → among m (with_new (λ a k. eqb a k) seen xs) ≡ true
seen_stays m seen [] e = e
seen_stays m seen (x ∷ xs) e = seen_stays m (cond (list_any (λ k. eqb x k) seen) seen (seen ++ x ∷ [])) xs (go (list_any (λ k. eqb x k) seen))
  where
    go : (b : Bool) → among m (cond b seen (seen ++ x ∷ [])) ≡ true
    go true = e
    go false = any-append (λ y. eqb y m) seen (x ∷ []) ∙ or_left (among m seen) (among m (x ∷ [])) e

there_too : (x m : ℕ) (ys : List ℕ) → eqb x m ≡ true → list_any (λ k. eqb x k) ys ≡ true → among m ys ≡ true
there_too x m [] z f = f
there_too x m (y ∷ ys) z f = ⊎_elim
    (λ g. or_left (eqb y m) (among m ys) (eq-eqb y m (sym (eqb-true x y g) ∙ eqb-true x m z)))
    (λ g. or_right (eqb y m) (among m ys) (there_too x m ys z g))
    (or_true (eqb x y) (list_any (λ k. eqb x k) ys) f)

new_there : (m : ℕ) (seen xs : List ℕ) → among m xs ≡ true → among m (with_new (λ a k. eqb a k) seen xs) ≡ true
new_there m seen [] e = absurd (true≢false (sym e))
new_there m seen (x ∷ xs) e = ⊎_elim
    (λ (z : eqb x m ≡ true). seen_stays m (cond (list_any (λ k. eqb x k) seen) seen (seen ++ x ∷ [])) xs (here z (list_any (λ k. eqb x k) seen) refl))
    (λ z. new_there m (cond (list_any (λ k. eqb x k) seen) seen (seen ++ x ∷ [])) xs z)
    (or_true (eqb x m) (among m xs) e)
  where
    here : eqb x m ≡ true → (b : Bool) → list_any (λ k. eqb x k) seen ≡ b → among m (cond b seen (seen ++ x ∷ [])) ≡ true
    here z true f = there_too x m seen z f
    here z false f = any-append (λ y. eqb y m) seen (x ∷ []) ∙ or_right (among m seen) (among m (x ∷ [])) (or_left (eqb x m) false z)

among_filter : (p : ℕ → Bool) (m : ℕ) (xs : List ℕ) → p m ≡ true → among m xs ≡ true → among m (filter p xs) ≡ true
among_filter p m [] f e = e
among_filter p m (x ∷ xs) f e = ⊎_elim
    (λ (z : eqb x m ≡ true). ap (λ (b : Bool). among m (cond b (x ∷ filter p xs) (filter p xs))) (ap p (eqb-true x m z) ∙ f) ∙ or_left (eqb x m) (among m (filter p xs)) z)
    (λ z. go (p x) (among_filter p m xs f z))
    (or_true (eqb x m) (among m xs) e)
  where
    go : (b : Bool) → among m (filter p xs) ≡ true → among m (cond b (x ∷ filter p xs) (filter p xs)) ≡ true
    go true h = or_right (eqb x m) (among m (filter p xs)) h
    go false h = h

-- A module of a chain that isn't resident is absent.
pub absent_there : (log : Deeds) (m : ℕ) (ms : List ℕ) → among m ms ≡ true → resident (marks log) m ≡ false → among m (absent_among log ms) ≡ true
absent_there log m ms e r = new_there m [] (filter (λ k. not (resident (marks log) k)) ms) (among_filter (λ k. not (resident (marks log) k)) m ms (ap not r) e)

-- A place among some is that among all, where its module passes.
pub place_filter : (p : ℕ → Bool) (m : ℕ) (xs : List Placed) → p m ≡ true → place_of (filter (λ (x : Placed). p x.«module») xs) m ≡ place_of xs m
place_filter p m [] e = refl
place_filter p m (x ∷ xs) e = go (p x.«module») refl (place_filter p m xs e)
  where
    go : (b : Bool) → p x.«module» ≡ b → place_of (filter (λ (x : Placed). p x.«module») xs) m ≡ place_of xs m
        → place_of (cond b (x ∷ filter (λ (x : Placed). p x.«module») xs) (filter (λ (x : Placed). p x.«module») xs)) m ≡ cond (eqb x.«module» m) (Some x) (place_of xs m)
    go true f rec = ap (λ (z : Option Placed). cond (eqb x.«module» m) (Some x) z) rec
    go false f rec = rec ∙ sym (ap (λ (c : Bool). cond c (Some x) (place_of xs m)) (ne_eqb x.«module» m (λ z. true≢false (sym e ∙ (ap p (sym z) ∙ f)))))

-- A module has a place in a longer list.
pub there_more : (m : ℕ) (xs ys : List Placed) → IsThere (place_of xs m) ⊎ IsThere (place_of ys m) → IsThere (place_of (xs ++ ys) m)
there_more m [] ys h = ⊎_elim (λ z. absurd z) (λ z. z) h
there_more m (x ∷ xs) ys h = go (eqb x.«module» m) h (λ z. there_more m xs ys z)
  where
    go : (b : Bool) → IsThere (cond b (Some x) (place_of xs m)) ⊎ IsThere (place_of ys m) → (IsThere (place_of xs m) ⊎ IsThere (place_of ys m) → IsThere (place_of (xs ++ ys) m))
        → IsThere (cond b (Some x) (place_of (xs ++ ys) m))
    go true h rec = tt
    go false h rec = rec h

here_placed : (m : ℕ) (y : Placed) → eqb y.«module» m ≡ true → IsThere (place_of (y ∷ []) m)
here_placed m y e = subst (λ (b : Bool). IsThere (cond b (Some y) None)) (sym e) tt

-- A module that has a place, or that is loaded, has one behind the loads.
pub there_loads : (pages m : ℕ) (ls : List Loaded) (held : List Placed) → IsThere (place_of held m) ⊎ (among m (loaded_modules ls) ≡ true) → IsThere (place_of (place_loads pages ls held) m)
there_loads pages m [] held h = ⊎_elim (λ z. z) (λ e. absurd (true≢false (sym e))) h
there_loads pages m (l ∷ ls) held h =
    let y : Placed = placed_at pages held l in
    there_loads pages m ls (held ++ y ∷ []) (⊎_elim
    (λ z. inl (there_more m held (y ∷ []) (inl z)))
    (λ e. ⊎_elim (λ (z : eqb l.«module» m ≡ true). inl (there_more m held (y ∷ []) (inr (here_placed m y z)))) (λ z. inr z) (or_true (eqb l.«module» m) (among m (loaded_modules ls)) e))
    h)

-- What passes is what the filter leaves.
pub all_passed : {A : Type 0} (p : A → Bool) (xs : List A) → AllByRecursion (λ (x : A). p x ≡ true) (filter p xs)
all_passed p [] = tt
all_passed p (x ∷ xs) = go (p x) refl (all_passed p xs)
  where
    go : (b : Bool) → p x ≡ b → AllByRecursion (λ x. p x ≡ true) (filter p xs) → AllByRecursion (λ x. p x ≡ true) (cond b (x ∷ filter p xs) (filter p xs))
    go true e h = (e, h)
    go false e h = h

-- Each module that has a place is resident.
abbrev pub AllResident : Deeds → List Placed → Type 0
AllResident log xs = AllByRecursion (λ (x : Placed). resident (marks log) x.«module» ≡ true) xs

resident_from : (n : ℕ) (before : Deeds) (held : List Placed) (es : Deeds) → AllResident before held → AllResident (before ++ es) (places_from n before held es)
resident_from n before held [] h = subst (λ (z : Deeds). AllResident z held) (sym (append-nil before)) h
resident_from n before held (x ∷ es) h =
    let now : Deeds = before ++ x ∷ [] in
    let next : List Placed = still now (place_deed n x.deed held) in
    subst (λ (z : Deeds). AllResident z (places_from n now next es)) (append_assoc before (x ∷ []) es)
    (resident_from n now next es (all_passed (λ (y : Placed). resident (marks now) y.«module») (place_deed n x.deed held)))

pub all_resident : (n : ℕ) (log : Deeds) → AllResident log (places n log)
all_resident n log = resident_from n [] [] log tt
