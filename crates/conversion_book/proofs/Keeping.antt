-- The modules that are kept, from one deed to the next.
use Rattle.std.proofs.Common.{◌≡◌, ◌⊎◌, ℕ, ◌<◌, eqb, Bool, true, false, not, ◌&&◌, ◌||◌, cond, List, [], ◌∷◌, ◌++◌, map, sym, refl, ap, ◌∙◌, inl, inr, ⊎_elim, append-nil, append_assoc, true≢false, eq-eqb, eqb-true}
use Rattle.std.specs.Prelude.{nat_lt}
use Rattle.std.specs.List.{list_any, filter, AllByRecursion}
use Rattle.std.proofs.lemmas.Bool.{lt-ltb}
use Rattle.module_graph.specs.Graph.{Shape}
use Rattle.module_graph.specs.Numbers.{with_new}
use Rattle.runtime_histories.specs.Deeds.{Deeds, Act, act, opens, closes, rests, Pair, Loaded, Mark, marks, IsLive}
use Rattle.runtime_histories.specs.Fair.{IsBalanced}
use Rattle.runtime_histories.specs.Residence.{resident}
use Rattle.runtime_histories.specs.Places.{Placed, among, placed_at, place_loads, place_deed, still, places_from, places}
use Rattle.runtime_histories.specs.Settings.{Source}
use Rattle.runtime_histories.specs.Legal.{absent_among, loaded_modules, AreRead}
use Rattle.runtime_histories.proofs.Basics.{any-append}
use Rattle.runtime_histories.proofs.Pinning.{places-snoc}
use Rattle.module_counts.proofs.Living.{marks_rests}
use Rattle.conversion_book.specs.ChainTables.{kept_of, kept}
use Rattle.conversion_book.specs.Inside.{IsComplete}
use Rattle.conversion_book.specs.Preparing.{still_kept}
use Rattle.conversion_book.proofs.Residing.{resident_opens, resident_closes}

abbrev pub AllKnown : ℕ → List Loaded → Type 0
AllKnown n ls = AllByRecursion (λ m. m < n) (loaded_modules ls)

or_true : (a b : Bool) → (a || b) ≡ true → (a ≡ true) ⊎ (b ≡ true)
or_true true b e = inl refl
or_true false b e = inr e

true_or : (a b : Bool) → a ≡ true → (a || b) ≡ true
true_or true b e = refl
true_or false b e = absurd (true≢false (sym e))

or_right : (a b : Bool) → b ≡ true → (a || b) ≡ true
or_right true b e = refl
or_right false b e = e

both : (a b : Bool) → a ≡ true → b ≡ true → (a && b) ≡ true
both true b x y = y
both false b x y = x

-- The modules of two lists.
pub modules-append : (xs ys : List Loaded) → loaded_modules (xs ++ ys) ≡ loaded_modules xs ++ loaded_modules ys
modules-append [] ys = refl
modules-append (x ∷ xs) ys = ap (λ (z : List ℕ). x.«module» ∷ z) (modules-append xs ys)

known-append : (n : ℕ) (xs ys : List Loaded) → AllKnown n xs → AllKnown n ys → AllKnown n (xs ++ ys)
known-append n [] ys a b = b
known-append n (x ∷ xs) ys a b = (a.0, known-append n xs ys a.1 b)

known-filter : (n : ℕ) (p : Loaded → Bool) (xs : List Loaded) → AllKnown n xs → AllKnown n (filter p xs)
known-filter n p [] a = tt
known-filter n p (x ∷ xs) a = go (p x) (known-filter n p xs a.1)
  where
    go : (b : Bool) → AllKnown n (filter p xs) → AllKnown n (cond b (x ∷ filter p xs) (filter p xs))
    go true h = (a.0, h)
    go false h = h

-- What is kept is known.
pub known_still : (n k : ℕ) (log : Deeds) (xs : List Loaded) → AllKnown n xs → AllKnown n (still_kept k log xs)
known_still n k log xs a = known-filter n (λ l. nat_lt l.«module» k && resident (marks log) l.«module») xs a

-- So is what is kept of two lists.
pub known_both : (n k : ℕ) (log : Deeds) (xs ys : List Loaded) → AllKnown n xs → AllKnown n ys → AllKnown n (still_kept k log (xs ++ ys))
known_both n k log xs ys a b = known_still n k log (xs ++ ys) (known-append n xs ys a b)

-- Known modules are kept where they are resident.
still_is : (n : ℕ) (log : Deeds) (xs : List Loaded) → AllKnown n xs → still_kept n log xs ≡ filter (λ l. resident (marks log) l.«module») xs
still_is n log [] a = refl
still_is n log (x ∷ xs) a = λ i. cond (test i) (x ∷ still_is n log xs a.1 i) (still_is n log xs a.1 i)
  where
    test : (nat_lt x.«module» n && resident (marks log) x.«module») ≡ resident (marks log) x.«module»
    test = ap (λ (b : Bool). b && resident (marks log) x.«module») (lt-ltb x.«module» n a.0)

kept_filter : (p : ℕ → Bool) (xs : List Placed) → map kept_of (filter (λ x. p x.«module») xs) ≡ filter (λ (l : Loaded). p l.«module») (map kept_of xs)
kept_filter p [] = refl
kept_filter p (x ∷ xs) = go (p x.«module») (kept_filter p xs)
  where
    go : (b : Bool) → map kept_of (filter (λ x. p x.«module») xs) ≡ filter (λ (l : Loaded). p l.«module») (map kept_of xs)
        → map kept_of (cond b (x ∷ filter (λ x. p x.«module») xs) (filter (λ x. p x.«module») xs)) ≡ cond b (kept_of x ∷ filter (λ (l : Loaded). p l.«module») (map kept_of xs)) (filter (λ (l : Loaded). p l.«module») (map kept_of xs))
    go true e = ap (λ (z : List Loaded). kept_of x ∷ z) e
    go false e = e

kept_append : (xs ys : List Placed) → map kept_of (xs ++ ys) ≡ map kept_of xs ++ map kept_of ys
kept_append [] ys = refl
kept_append (x ∷ xs) ys = ap (λ (z : List Loaded). kept_of x ∷ z) (kept_append xs ys)

kept_loads : (pages : ℕ) (ls : List Loaded) (held : List Placed) → map kept_of (place_loads pages ls held) ≡ map kept_of held ++ ls
kept_loads pages [] held = sym (append-nil (map kept_of held))
kept_loads pages (l ∷ ls) held = kept_loads pages ls (held ++ placed_at pages held l ∷ [])
    ∙ (ap (λ (z : List Loaded). z ++ ls) (kept_append held (placed_at pages held l ∷ [])) ∙ append_assoc (map kept_of held) (l ∷ []) ls)

module _ (pages n : ℕ) (b : Deeds) (keeps : List Loaded) (is : keeps ≡ kept pages b) (known : AllKnown n keeps) where
  -- What is kept after an opening.
  pub kept_opens : (c : ℕ) (p : Pair) (ms : List ℕ) (l : List Loaded) → AllKnown n l
      → still_kept n (b ++ act c (opens p ms l) ∷ []) (keeps ++ l) ≡ kept pages (b ++ act c (opens p ms l) ∷ [])
  kept_opens c p ms l all = let e : Act = act c (opens p ms l) in
      still_is n (b ++ e ∷ []) (keeps ++ l) (known-append n keeps l known all)
      ∙ (ap (λ (z : List Loaded). filter (λ x. resident (marks (b ++ e ∷ [])) x.«module») (z ++ l)) is
      ∙ (ap (filter (λ (x : Loaded). resident (marks (b ++ e ∷ [])) x.«module»)) (sym (kept_loads pages l (places pages b)))
      ∙ (sym (kept_filter (resident (marks (b ++ e ∷ []))) (place_loads pages l (places pages b)))
      ∙ ap (map kept_of) (sym (places-snoc pages b e)))))

  -- What is kept after a closing.
  pub kept_closes : (c k : ℕ) → still_kept n (b ++ act c (closes k) ∷ []) keeps ≡ kept pages (b ++ act c (closes k) ∷ [])
  kept_closes c k = let e : Act = act c (closes k) in
      still_is n (b ++ e ∷ []) keeps known
      ∙ (ap (filter (λ (x : Loaded). resident (marks (b ++ e ∷ [])) x.«module»)) is
      ∙ (sym (kept_filter (resident (marks (b ++ e ∷ []))) (places pages b)) ∙ ap (map kept_of) (sym (places-snoc pages b e))))

filter_twice : (p : Placed → Bool) (xs : List Placed) → filter p (filter p xs) ≡ filter p xs
filter_twice p [] = refl
filter_twice p (x ∷ xs) = go (p x) refl (filter_twice p xs)
  where
    go : (b : Bool) → p x ≡ b → filter p (filter p xs) ≡ filter p xs → filter p (cond b (x ∷ filter p xs) (filter p xs)) ≡ cond b (x ∷ filter p xs) (filter p xs)
    go true e h = λ i. cond (e i) (x ∷ h i) (h i)
    go false e h = h

fresh_from : (n : ℕ) (before : Deeds) (held : List Placed) (es : Deeds) → still before held ≡ held → still (before ++ es) (places_from n before held es) ≡ places_from n before held es
fresh_from n before held [] e = ap (λ (z : Deeds). still z held) (append-nil before) ∙ e
fresh_from n before held (x ∷ es) e = let now : Deeds = before ++ x ∷ [] in let next : List Placed = still now (place_deed n x.deed held) in
    ap (λ (z : Deeds). still z (places_from n now next es)) (sym (append_assoc before (x ∷ []) es))
    ∙ fresh_from n now next es (filter_twice (λ y. resident (marks now) y.«module») (place_deed n x.deed held))

-- What is kept stays where nothing is done.
pub keep_rests : (pages : ℕ) (b : Deeds) (c : ℕ) → kept pages b ≡ kept pages (b ++ act c rests ∷ [])
keep_rests pages b c = ap (map kept_of) (sym (
    places-snoc pages b (act c rests)
    ∙ (ap (λ (z : List Mark). filter (λ (x : Placed). resident z x.«module») (places pages b)) (marks_rests b c)
    ∙ fresh_from pages [] [] b refl)))

read_filter : (s : Source) (g : Shape) (p : Loaded → Bool) (xs : List Loaded) → AreRead s g xs → AreRead s g (filter p xs)
read_filter s g p [] a = tt
read_filter s g p (x ∷ xs) a = go (p x) (read_filter s g p xs a.1)
  where
    go : (b : Bool) → AreRead s g (filter p xs) → AreRead s g (cond b (x ∷ filter p xs) (filter p xs))
    go true h = (a.0, h)
    go false h = h

-- The tables of two lists of modules are those of their charmaps.
pub read-append : (s : Source) (g : Shape) (xs ys : List Loaded) → AreRead s g xs → AreRead s g ys → AreRead s g (xs ++ ys)
read-append s g [] ys a b = b
read-append s g (x ∷ xs) ys a b = (a.0, read-append s g xs ys a.1 b)

-- So are those of what is kept.
pub read_still : (s : Source) (g : Shape) (n : ℕ) (log : Deeds) (xs : List Loaded) → AreRead s g xs → AreRead s g (still_kept n log xs)
read_still s g n log xs a = read_filter s g (λ l. nat_lt l.«module» n && resident (marks log) l.«module») xs a

among_kept : (n m : ℕ) (log : Deeds) (xs : List Loaded) → AllKnown n xs → resident (marks log) m ≡ true → among m (loaded_modules xs) ≡ true
    → among m (loaded_modules (filter (λ l. resident (marks log) l.«module») xs)) ≡ true
among_kept n m log [] known r e = e
among_kept n m log (x ∷ xs) known r e = ⊎_elim
    (λ (z : eqb x.«module» m ≡ true). let f : resident (marks log) x.«module» ≡ true = ap (resident (marks log)) (eqb-true x.«module» m z) ∙ r in
    ap (λ (b : Bool). among m (loaded_modules (cond b (x ∷ filter (λ l. resident (marks log) l.«module») xs) (filter (λ l. resident (marks log) l.«module») xs)))) f
    ∙ true_or (eqb x.«module» m) (among m (loaded_modules (filter (λ l. resident (marks log) l.«module») xs))) z)
    (λ z. go (resident (marks log) x.«module») (among_kept n m log xs known.1 r z))
    (or_true (eqb x.«module» m) (among m (loaded_modules xs)) e)
  where
    go : (b : Bool) → among m (loaded_modules (filter (λ l. resident (marks log) l.«module») xs)) ≡ true
        → among m (loaded_modules (cond b (x ∷ filter (λ l. resident (marks log) l.«module») xs) (filter (λ l. resident (marks log) l.«module») xs))) ≡ true
    go true h = or_right (eqb x.«module» m) (among m (loaded_modules (filter (λ l. resident (marks log) l.«module») xs))) h
    go false h = h

among-append : (m : ℕ) (xs ys : List Loaded) → (among m (loaded_modules xs) ≡ true) ⊎ (among m (loaded_modules ys) ≡ true) → among m (loaded_modules (xs ++ ys)) ≡ true
among-append m xs ys h = ap (among m) (modules-append xs ys) ∙ (any-append (λ y. eqb y m) (loaded_modules xs) (loaded_modules ys)
    ∙ ⊎_elim (λ z. true_or (among m (loaded_modules xs)) (among m (loaded_modules ys)) z) (λ z. or_right (among m (loaded_modules xs)) (among m (loaded_modules ys)) z) h)

seen_stays : (m : ℕ) (seen xs : List ℕ) → among m seen ≡ true → among m (with_new (λ a k. eqb a k) seen xs) ≡ true
seen_stays m seen [] e = e
seen_stays m seen (x ∷ xs) e = seen_stays m (cond (list_any (λ k. eqb x k) seen) seen (seen ++ x ∷ [])) xs (go (list_any (λ k. eqb x k) seen))
  where
    go : (b : Bool) → among m (cond b seen (seen ++ x ∷ [])) ≡ true
    go true = e
    go false = any-append (λ y. eqb y m) seen (x ∷ []) ∙ true_or (among m seen) (among m (x ∷ [])) e

there_too : (x m : ℕ) (ys : List ℕ) → eqb x m ≡ true → list_any (λ k. eqb x k) ys ≡ true → among m ys ≡ true
there_too x m [] z f = f
there_too x m (y ∷ ys) z f = ⊎_elim
    (λ g. true_or (eqb y m) (among m ys) (eq-eqb y m (sym (eqb-true x y g) ∙ eqb-true x m z)))
    (λ g. or_right (eqb y m) (among m ys) (there_too x m ys z g))
    (or_true (eqb x y) (list_any (λ k. eqb x k) ys) f)

new_there : (m : ℕ) (seen xs : List ℕ) → among m xs ≡ true → among m (with_new (λ a k. eqb a k) seen xs) ≡ true
new_there m seen [] e = absurd (true≢false (sym e))
new_there m seen (x ∷ xs) e = ⊎_elim
    (λ (z : eqb x m ≡ true). seen_stays m (cond (list_any (λ k. eqb x k) seen) seen (seen ++ x ∷ [])) xs (here z (list_any (λ k. eqb x k) seen) refl))
    (λ z. new_there m (cond (list_any (λ k. eqb x k) seen) seen (seen ++ x ∷ [])) xs z)
    (or_true (eqb x m) (among m xs) e)
  where
    here : eqb x m ≡ true → (b : Bool) → list_any (λ k. eqb x k) seen ≡ b → among m (cond b seen (seen ++ x ∷ [])) ≡ true
    here z true f = there_too x m seen z f
    here z false f = any-append (λ y. eqb y m) seen (x ∷ []) ∙ or_right (among m seen) (among m (x ∷ [])) (true_or (eqb x m) false z)

among_filter : (p : ℕ → Bool) (m : ℕ) (xs : List ℕ) → p m ≡ true → among m xs ≡ true → among m (filter p xs) ≡ true
among_filter p m [] f e = e
among_filter p m (x ∷ xs) f e = ⊎_elim
    (λ (z : eqb x m ≡ true). ap (λ (b : Bool). among m (cond b (x ∷ filter p xs) (filter p xs))) (ap p (eqb-true x m z) ∙ f) ∙ true_or (eqb x m) (among m (filter p xs)) z)
    (λ z. go (p x) (among_filter p m xs f z))
    (or_true (eqb x m) (among m xs) e)
  where
    go : (b : Bool) → among m (filter p xs) ≡ true → among m (cond b (x ∷ filter p xs) (filter p xs)) ≡ true
    go true h = or_right (eqb x m) (among m (filter p xs)) h
    go false h = h

-- A module of a chain that isn't resident is absent.
absent_there : (log : Deeds) (m : ℕ) (ms : List ℕ) → among m ms ≡ true → resident (marks log) m ≡ false → among m (absent_among log ms) ≡ true
absent_there log m ms e r = new_there m [] (filter (λ k. not (resident (marks log) k)) ms) (among_filter (λ k. not (resident (marks log) k)) m ms (ap not r) e)

cases : (b : Bool) → (b ≡ true) ⊎ (b ≡ false)
cases true = inl refl
cases false = inr refl

module _ (b : Deeds) (keeps : List Loaded) (complete : IsComplete b keeps) where
  -- Each module of a chain was kept or is loaded.
  pub chain_there : (ms : List ℕ) (l : List Loaded) → loaded_modules l ≡ absent_among b ms → (m : ℕ) → among m ms ≡ true → among m (loaded_modules (keeps ++ l)) ≡ true
  chain_there ms l is m e = among-append m keeps l (⊎_elim (λ r. inl (complete m r)) (λ r. inr (ap (among m) is ∙ absent_there b m ms e r)) (cases (resident (marks b) m)))

  module _ (n : ℕ) (known : AllKnown n keeps) where
    complete_in : (log : Deeds) (xs : List Loaded) → AllKnown n xs → ((m : ℕ) → resident (marks log) m ≡ true → among m (loaded_modules xs) ≡ true) → IsComplete log (still_kept n log xs)
    complete_in log xs all h m r = ap (λ (z : List Loaded). among m (loaded_modules z)) (still_is n log xs all) ∙ among_kept n m log xs all r (h m r)

    -- All resident modules are kept after an opening.
    pub complete_opens : (c : ℕ) (p : Pair) (ms : List ℕ) (l : List Loaded) → loaded_modules l ≡ absent_among b ms → AllKnown n l
        → IsComplete (b ++ act c (opens p ms l) ∷ []) (still_kept n (b ++ act c (opens p ms l) ∷ []) (keeps ++ l))
    complete_opens c p ms l is all = complete_in (b ++ act c (opens p ms l) ∷ []) (keeps ++ l) (known-append n keeps l known all)
        (λ m r. ⊎_elim (λ z. chain_there ms l is m z) (λ z. among-append m keeps l (inl (complete m z))) (resident_opens b c p ms l m r))

    -- All of them are kept after a closing.
    pub complete_closes : IsBalanced b → (c k : ℕ) → IsLive b c k → IsComplete (b ++ act c (closes k) ∷ []) (still_kept n (b ++ act c (closes k) ∷ []) keeps)
    complete_closes h c k live = complete_in (b ++ act c (closes k) ∷ []) keeps known (λ m r. complete m (resident_closes b h c k live m r))

  -- All of them are kept after what changes nothing.
  pub complete_rests : (c : ℕ) → IsComplete (b ++ act c rests ∷ []) keeps
  complete_rests c m r = complete m (ap (λ z. resident z m) (sym (marks_rests b c)) ∙ r)
