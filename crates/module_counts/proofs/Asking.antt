-- What the bookkeeping answers.
use Rattle.std.proofs.Common.{◌≡◌, ◌≢◌, ◌⊎◌, ℕ, ◌+◌, ◌<◌, ◌≤◌, eqb, Bool, true, false, not, ◌&&◌, ◌||◌, cond, List, [], ◌∷◌, ◌++◌, length, map, take, get_or, sym, refl, ap, ◌∙◌, inl, inr, ⊎_elim, true≢false, eq-eqb, ne_eqb, IsTrue, arith}
use mathlib.Core.Logic.{dite}
use native.Mathlib.Decide.{ℕ_discrete}
use Rattle.std.specs.List.{AllByRecursion, filter, list_any}
use Rattle.std.proofs.lemmas.List.{take_more, get_or_past}
use Rattle.std.proofs.lemmas.Bool.{cases_lt}
use Rattle.module_graph.specs.declared.edge.Edge.{Edge}
use Rattle.module_graph.specs.Graph.{Shape}
use Rattle.module_graph.specs.Numbers.{with_new}
use Rattle.module_counts.specs.declared.lives.Live.{Live}
use Rattle.module_counts.specs.declared.stock.Stock.{Stock}
use Rattle.runtime_histories.specs.Deeds.{Deeds, Desc, openings, closed, live, marks, IsIn, IsLive}
use Rattle.runtime_histories.specs.Residence.{resident}
use Rattle.module_counts.specs.Tracking.{is_kept, listed}
use Rattle.runtime_histories.specs.Places.{Placed, among, pages_of, all_pages, all_needs, places}
use Rattle.module_counts.specs.Stocks.{Seat, seat_in, seat_of, seat_pages, kept_seats, lists, placed_modules}
use Rattle.runtime_histories.specs.Settings.{module_at, modules_of}
use Rattle.runtime_histories.specs.Legal.{absent_among}
use Rattle.module_counts.specs.Counting.{shown, IsStock}
use Rattle.runtime_histories.proofs.Basics.{filter-append, filter-same, In-filter}
use Rattle.module_counts.proofs.Tracking.{is_kept-tracks}
use Rattle.module_counts.proofs.Starting.{modules_of-more}
use Rattle.module_counts.proofs.Tidying.{length-all_pages, seat_pages-all}
use Rattle.module_counts.proofs.Homing.{length-lists}
use Rattle.module_counts.proofs.Stocking.{in_modules}

and_true : (a b : Bool) → (a && b) ≡ true → (a ≡ true) × (b ≡ true)
and_true true b e = (refl, e)
and_true false b e = absurd (true≢false (sym e))

or_true : (a b : Bool) → (a || b) ≡ true → (a ≡ true) ⊎ (b ≡ true)
or_true true b e = inl refl
or_true false b e = inr e

not_is : (b : Bool) → not b ≡ true → b ≡ false
not_is true e = absurd (true≢false (sym e))
not_is false e = refl

eqb_is : (a b : ℕ) → eqb a b ≡ true → a ≡ b
eqb_is a b e = dite (ℕ_discrete a b) (λ (z : a ≡ b). z) (λ ne. absurd (true≢false (sym e ∙ ne_eqb a b ne)))

-- The pages of all kept places are as many as the modules need.
pub taken_is : (g : Shape) (s : Stock) (log : Deeds) → IsStock g s log → length (seat_pages (kept_seats s.ages s.homes)) ≡ all_needs (places s.pages log)
taken_is g s log h = ap (λ (z : List Seat). length (seat_pages z)) h.placed_is ∙ (ap length (seat_pages-all (places s.pages log)) ∙ length-all_pages (places s.pages log) h.tidy.fits)

-- The kept pages are the placed ones.
pub pages_are : (g : Shape) (s : Stock) (log : Deeds) → IsStock g s log → seat_pages (kept_seats s.ages s.homes) ≡ all_pages (places s.pages log)
pages_are g s log h = ap seat_pages h.placed_is ∙ seat_pages-all (places s.pages log)

-- the pages of a module, among seats
abbrev seat_find : ℕ → List Seat → List ℕ
seat_find m [] = []
seat_find m (x ∷ xs) = cond (eqb x.«module» m) x.pages (seat_find m xs)

find_seats : (m : ℕ) (xs : List Placed) → seat_find m (map seat_of xs) ≡ pages_of m xs
find_seats m [] = refl
find_seats m (x ∷ xs) = ap (λ (z : List ℕ). cond (eqb x.«module» m) x.pages z) (find_seats m xs)

find_rows : (m : ℕ) (rows : List (List ℕ)) (ks : List ℕ) → seat_find m (map (seat_in rows) ks) ≡ cond (among m ks) (get_or rows m []) []
find_rows m rows [] = refl
find_rows m rows (k ∷ ks) = dite (ℕ_discrete k m)
    (λ (e : k ≡ m). ap (λ (b : Bool). cond b (get_or rows k []) (seat_find m (map (seat_in rows) ks))) (eq-eqb k m e)
    ∙ (ap (λ (n : ℕ). get_or rows n []) e ∙ ap (λ (b : Bool). cond (b || among m ks) (get_or rows m []) []) (sym (eq-eqb k m e))))
    (λ ne. ap (λ (b : Bool). cond b (get_or rows k []) (seat_find m (map (seat_in rows) ks))) (ne_eqb k m ne)
    ∙ (find_rows m rows ks ∙ ap (λ (b : Bool). cond (b || among m ks) (get_or rows m []) []) (sym (ne_eqb k m ne))))

among_kept : (p : ℕ → Bool) (m : ℕ) (ks : List ℕ) → p m ≡ true → among m (filter p ks) ≡ among m ks
among_kept p m [] e = refl
among_kept p m (k ∷ ks) e = go (p k) refl (among_kept p m ks e)
  where
    go : (b : Bool) → p k ≡ b → among m (filter p ks) ≡ among m ks → among m (cond b (k ∷ filter p ks) (filter p ks)) ≡ (eqb k m || among m ks)
    go true f r = ap (λ (b : Bool). eqb k m || b) r
    go false f r = r ∙ sym (ap (λ (b : Bool). b || among m ks) (ne_eqb k m (λ (z : k ≡ m). true≢false (sym e ∙ (ap p (sym z) ∙ f)))))

placed_below : (n m : ℕ) (xs : List Placed) → AllByRecursion (λ k. k < n) (placed_modules xs) → n ≤ m → pages_of m xs ≡ []
placed_below n m [] h le = refl
placed_below n m (x ∷ xs) h le = let lt = h.0 in let ne : x.«module» ≢ m = omega arith in
    ap (λ (b : Bool). cond b x.pages (pages_of m xs)) (ne_eqb x.«module» m ne) ∙ placed_below n m xs h.1 le

-- The pages of a resident module are those of its row.
pub row_is : (g : Shape) (s : Stock) (log : Deeds) → IsStock g s log → (m : ℕ) → resident (marks log) m ≡ true → get_or (lists s.homes.rows.items) m [] ≡ pages_of m (places s.pages log)
row_is g s log h m e = ⊎_elim inside outside (cases_lt m (length s.ages.held.items))
  where
    inside : m < length s.ages.held.items → get_or (lists s.homes.rows.items) m [] ≡ pages_of m (places s.pages log)
    inside lt =
        let kept : is_kept s.ages m ≡ true = is_kept-tracks s.ages (marks log) m h.tracking lt ∙ e in
        go (among m s.homes.order.items) refl
        ∙ (ap (λ (b : Bool). cond b (get_or (lists s.homes.rows.items) m []) []) (sym (among_kept (is_kept s.ages) m s.homes.order.items kept))
        ∙ (sym (find_rows m (lists s.homes.rows.items) (filter (is_kept s.ages) s.homes.order.items)) ∙ (ap (seat_find m) h.placed_is ∙ find_seats m (places s.pages log))))
      where
        go : (b : Bool) → among m s.homes.order.items ≡ b → get_or (lists s.homes.rows.items) m [] ≡ cond (among m s.homes.order.items) (get_or (lists s.homes.rows.items) m []) []
        go true f = ap (λ (b : Bool). cond b (get_or (lists s.homes.rows.items) m []) []) (sym f)
        go false f = h.homes.empty m f ∙ ap (λ (b : Bool). cond b (get_or (lists s.homes.rows.items) m []) []) (sym f)

    outside : length s.ages.held.items ≤ m → get_or (lists s.homes.rows.items) m [] ≡ pages_of m (places s.pages log)
    outside le = get_or_past (lists s.homes.rows.items) m [] (let a = length-lists s.homes.rows.items in let b = h.homes.count in omega arith)
        ∙ sym (placed_below (length s.ages.held.items) m (places s.pages log) h.tidy.known le)

live_found : (n c : ℕ) (ds : List Desc) → list_any (λ (x : Live). eqb x.number n && eqb x.caller c) (map shown ds) ≡ true → (d : Desc) × IsIn d ds × (d.number ≡ n) × (d.caller ≡ c)
live_found n c [] e = absurd (true≢false (sym e))
live_found n c (d ∷ ds) e = ⊎_elim (λ z. let r = and_true (eqb d.number n) (eqb d.caller c) z in (d, inl refl, eqb_is d.number n r.0, eqb_is d.caller c r.1))
    (λ z. let r = live_found n c ds z in (r.0, inr r.1, r.2, r.3)) (or_true (eqb d.number n && eqb d.caller c) (list_any (λ (x : Live). eqb x.number n && eqb x.caller c) (map shown ds)) e)

live_there : (n c : ℕ) (d : Desc) (ds : List Desc) → IsIn d ds → d.number ≡ n → d.caller ≡ c → list_any (λ (x : Live). eqb x.number n && eqb x.caller c) (map shown ds) ≡ true
live_there n c d [] h e f = absurd h
live_there n c d (x ∷ ds) h e f = ⊎_elim
    (λ (z : x ≡ d). ap (λ (b : Bool). b || list_any (λ (x : Live). eqb x.number n && eqb x.caller c) (map shown ds)) (λ i. eq-eqb x.number n (ap (λ (y : Desc). y.number) z ∙ e) i && eq-eqb x.caller c (ap (λ (y : Desc). y.caller) z ∙ f) i))
    (λ z. ap (λ (b : Bool). (eqb x.number n && eqb x.caller c) || b) (live_there n c d ds z e f) ∙ or_both (eqb x.number n && eqb x.caller c)) h
  where
    or_both : (b : Bool) → (b || true) ≡ true
    or_both true = refl
    or_both false = refl

in_kept : (p : Desc → Bool) (x : Desc) (xs : List Desc) → IsIn x xs → p x ≡ true → IsIn x (filter p xs)
in_kept p x [] h e = absurd h
in_kept p x (y ∷ xs) h e = go (λ z. in_kept p x xs z e) (p y) refl h
  where
    go : (IsIn x xs → IsIn x (filter p xs)) → (b : Bool) → p y ≡ b → (y ≡ x) ⊎ IsIn x xs → IsIn x (cond b (y ∷ filter p xs) (filter p xs))
    go rec true f k = ⊎_elim (λ z. inl z) (λ z. inr (rec z)) k
    go rec false f k = ⊎_elim (λ (z : y ≡ x). absurd (true≢false (sym e ∙ (ap p (sym z) ∙ f)))) (λ z. rec z) k

-- The test of a number and a caller tells whether they are live.
pub live_is : (log : Deeds) (c n : ℕ) (xs : List Live) (r : Bool) → xs ≡ map shown (live log) → r ≡ list_any (λ (x : Live). eqb x.number n && eqb x.caller c) xs
    → (IsTrue r → IsLive log c n) × (IsLive log c n → IsTrue r)
live_is log c n xs r e is =
    let all : r ≡ list_any (λ (x : Live). eqb x.number n && eqb x.caller c) (map shown (live log)) = is ∙ ap (list_any (λ (x : Live). eqb x.number n && eqb x.caller c)) e in (
      (λ h. let f = live_found n c (live log) (sym all ∙ h) in
          let k = In-filter (λ (d : Desc). not (closed d.number log)) f.0 (openings 0 log) f.1 in
          record { desc = f.0; there = k.0; number_is = f.2; caller_is = f.3; unclosed = ap (λ (z : ℕ). closed z log) (sym f.2) ∙ not_is (closed (f.0).number log) k.1 }),
      (λ k. (all ∙ live_there n c k.desc (live log) (in_kept (λ (d : Desc). not (closed d.number log)) k.desc (openings 0 log) k.there (ap not (ap (λ (z : ℕ). closed z log) k.number_is ∙ k.unclosed))) k.number_is k.caller_is)),
    )

eqb-sym : (a b : ℕ) → eqb a b ≡ eqb b a
eqb-sym a b = dite (ℕ_discrete a b) (λ (e : a ≡ b). eq-eqb a b e ∙ sym (eq-eqb b a (sym e))) (λ ne. ne_eqb a b ne ∙ sym (ne_eqb b a (λ z. ne (sym z))))

any_flip : (w : ℕ) (xs : List ℕ) → list_any (λ b. eqb w b) xs ≡ list_any (λ b. eqb b w) xs
any_flip w [] = refl
any_flip w (x ∷ xs) = (λ i. eqb-sym w x i || any_flip w xs i)

-- A module that isn't kept goes last where it is new, and changes nothing where it is kept or isn't new.
pub add_new : (seen : List ℕ) (w : ℕ) (p : ℕ → Bool) → p w ≡ false → list_any (λ b. eqb b w) seen ≡ false → with_new (λ m k. eqb m k) seen (filter (λ m. not (p m)) (w ∷ [])) ≡ seen ++ w ∷ []
add_new seen w p kept new = (λ i. with_new (λ m k. eqb m k) seen (cond (not (kept i)) (w ∷ []) [])) ∙ (λ i. cond ((any_flip w seen ∙ new) i) seen (seen ++ w ∷ []))

pub add_kept : (seen : List ℕ) (w : ℕ) (p : ℕ → Bool) → p w ≡ true → with_new (λ m k. eqb m k) seen (filter (λ m. not (p m)) (w ∷ [])) ≡ seen
add_kept seen w p kept = (λ i. with_new (λ m k. eqb m k) seen (cond (not (kept i)) (w ∷ []) []))

pub add_old : (seen : List ℕ) (w : ℕ) (p : ℕ → Bool) → list_any (λ b. eqb b w) seen ≡ true → with_new (λ m k. eqb m k) seen (filter (λ m. not (p m)) (w ∷ [])) ≡ seen
add_old seen w p old = go (p w) refl
  where
    go : (b : Bool) → p w ≡ b → with_new (λ m k. eqb m k) seen (filter (λ m. not (p m)) (w ∷ [])) ≡ seen
    go true e = add_kept seen w p e
    go false e = (λ i. with_new (λ m k. eqb m k) seen (cond (not (e i)) (w ∷ []) [])) ∙ (λ i. cond ((any_flip w seen ∙ old) i) seen (seen ++ w ∷ []))

with_new-append : (seen xs ys : List ℕ) → with_new (λ m k. eqb m k) seen (xs ++ ys) ≡ with_new (λ m k. eqb m k) (with_new (λ m k. eqb m k) seen xs) ys
with_new-append seen [] ys = refl
with_new-append seen (x ∷ xs) ys = with_new-append (cond (list_any (λ b. eqb x b) seen) seen (seen ++ x ∷ [])) xs ys

-- One ordinal more.
pub missing_more : (edges : List Edge) (p : ℕ → Bool) (os : List ℕ) (i : ℕ) → i < length os
    → with_new (λ m k. eqb m k) [] (filter (λ m. not (p m)) (modules_of edges (take (i + 1) os)))
    ≡ with_new (λ m k. eqb m k) (with_new (λ m k. eqb m k) [] (filter (λ m. not (p m)) (modules_of edges (take i os)))) (filter (λ m. not (p m)) (listed (module_at edges (get_or os i 0))))
missing_more edges p os i lt =
    let f : List ℕ → List ℕ = filter (λ m. not (p m)) in
    ap (λ (z : List ℕ). with_new (λ m k. eqb m k) [] (f z)) (ap (modules_of edges) (take_more os i 0 lt) ∙ modules_of-more edges (take i os) (get_or os i 0))
    ∙ (ap (with_new (λ m k. eqb m k) []) (filter-append (λ m. not (p m)) (modules_of edges (take i os)) (listed (module_at edges (get_or os i 0))))
    ∙ with_new-append [] (f (modules_of edges (take i os))) (f (listed (module_at edges (get_or os i 0)))))

-- What the counters don't keep of a chain is what is absent.
pub absent_is : (g : Shape) (s : Stock) (log : Deeds) → IsStock g s log → (os : List ℕ)
    → with_new (λ m k. eqb m k) [] (filter (λ m. not (is_kept s.ages m)) (modules_of g.edges os)) ≡ absent_among log (modules_of g.edges os)
absent_is g s log h os = ap (with_new (λ m k. eqb m k) []) (filter-same (λ m. not (is_kept s.ages m)) (λ m. not (resident (marks log) m)) (modules_of g.edges os)
    (λ m z. ap not (is_kept-tracks s.ages (marks log) m h.tracking (in_modules g.edges (length s.ages.held.items) h.known os m z))))
