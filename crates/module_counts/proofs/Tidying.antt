-- Modules that are loaded and left out keep the places tidy.
use Rattle.std.proofs.Common.{◌≡◌, ◌≢◌, ℕ, zero, suc, ◌+◌, ◌<◌, ◌≤◌, eqb, Bool, true, false, not, ◌||◌, ◌&&◌, cond, List, [], ◌∷◌, ◌++◌, length, map, sym, refl, ap, ◌∙◌, subst, arith, append_assoc, append-nil, length-append, true≢false, eq-eqb, ne_eqb}
use mathlib.Core.Logic.{dite}
use native.Mathlib.Decide.{ℕ_discrete}
use Rattle.std.specs.List.{filter, range_with_len, AllByRecursion, IsDistinct, list_any}
use Rattle.std.proofs.lemmas.List.{map-append, length-take}
use Rattle.std.proofs.lemmas.List.FromFn.{length-range_with_len}
use Rattle.std.proofs.lemmas.Map.Steps.{length-le_from_distinct_below}
use Rattle.module_counts.specs.declared.ages.Ages.{Ages}
use Rattle.runtime_histories.specs.Deeds.{Loaded, Mark}
use Rattle.runtime_histories.specs.Residence.{resident}
use Rattle.module_counts.specs.Tracking.{IsTracking, is_kept}
use Rattle.runtime_histories.specs.Places.{Placed, among, pages_for, all_pages, all_needs, free_of, lowest, placed_at, place_loads}
use Rattle.runtime_histories.specs.Legal.{loaded_modules, load_pages}
use Rattle.module_counts.specs.Stocks.{Seat, seat_in, seat_of, seat_pages, kept_among, places_for, seated, Once, placed_modules, IsTidy}
use Rattle.runtime_histories.proofs.Basics.{filter-same}
use Rattle.module_counts.proofs.Tracking.{is_kept-tracks}

pub or_false_both : (a b : Bool) → (a || b) ≡ false → (a ≡ false) × (b ≡ false)
or_false_both true b e = absurd (true≢false e)
or_false_both false b e = (refl, e)

pub among-append : (m : ℕ) (xs ys : List ℕ) → among m (xs ++ ys) ≡ (among m xs || among m ys)
among-append m [] ys = refl
among-append m (x ∷ xs) ys = go (eqb x m) (among-append m xs ys)
  where
    go : (b : Bool) → among m (xs ++ ys) ≡ (among m xs || among m ys) → (b || among m (xs ++ ys)) ≡ ((b || among m xs) || among m ys)
    go true e = refl
    go false e = e

among_left_out : (p : ℕ → Bool) (m : ℕ) (xs : List Placed) → among m (placed_modules xs) ≡ false → among m (placed_modules (filter (λ (x : Placed). p x.«module») xs)) ≡ false
among_left_out p m [] e = refl
among_left_out p m (x ∷ xs) e = let r = or_false_both (eqb x.«module» m) (among m (placed_modules xs)) e in go (p x.«module») r.0 (among_left_out p m xs r.1)
  where
    go : (b : Bool) → eqb x.«module» m ≡ false → among m (placed_modules (filter (λ (x : Placed). p x.«module») xs)) ≡ false
        → among m (placed_modules (cond b (x ∷ filter (λ (x : Placed). p x.«module») xs) (filter (λ (x : Placed). p x.«module») xs))) ≡ false
    go true e h = ap (λ (z : Bool). z || among m (placed_modules (filter (λ (x : Placed). p x.«module») xs))) e ∙ h
    go false e h = h

known_filter : (n : ℕ) (p : ℕ → Bool) (xs : List Placed) → AllByRecursion (λ m. m < n) (placed_modules xs) → AllByRecursion (λ m. m < n) (placed_modules (filter (λ (x : Placed). p x.«module») xs))
known_filter n p [] h = tt
known_filter n p (x ∷ xs) h = go (p x.«module») (known_filter n p xs h.1)
  where
    go : (b : Bool) → AllByRecursion (λ m. m < n) (placed_modules (filter (λ (x : Placed). p x.«module») xs)) → AllByRecursion (λ m. m < n) (placed_modules (cond b (x ∷ filter (λ (x : Placed). p x.«module») xs) (filter (λ (x : Placed). p x.«module») xs)))
    go true r = (h.0, r)
    go false r = r

once_filter : (p : ℕ → Bool) (xs : List Placed) → Once (placed_modules xs) → Once (placed_modules (filter (λ (x : Placed). p x.«module») xs))
once_filter p [] h = tt
once_filter p (x ∷ xs) h = go (p x.«module») (once_filter p xs h.1)
  where
    go : (b : Bool) → Once (placed_modules (filter (λ (x : Placed). p x.«module») xs)) → Once (placed_modules (cond b (x ∷ filter (λ (x : Placed). p x.«module») xs) (filter (λ (x : Placed). p x.«module») xs)))
    go true r = (among_left_out p x.«module» xs h.0, r)
    go false r = r

fits_filter : (p : ℕ → Bool) (xs : List Placed) → AllByRecursion (λ (x : Placed). length x.pages ≡ pages_for x.tables) xs → AllByRecursion (λ (x : Placed). length x.pages ≡ pages_for x.tables) (filter (λ (x : Placed). p x.«module») xs)
fits_filter p [] h = tt
fits_filter p (x ∷ xs) h = go (p x.«module») (fits_filter p xs h.1)
  where
    go : (b : Bool) → AllByRecursion (λ (x : Placed). length x.pages ≡ pages_for x.tables) (filter (λ (x : Placed). p x.«module») xs) → AllByRecursion (λ (x : Placed). length x.pages ≡ pages_for x.tables) (cond b (x ∷ filter (λ (x : Placed). p x.«module») xs) (filter (λ (x : Placed). p x.«module») xs))
    go true r = (h.0, r)
    go false r = r

needs_filter : (p : ℕ → Bool) (xs : List Placed) → all_needs (filter (λ (x : Placed). p x.«module») xs) ≤ all_needs xs
needs_filter p [] = omega arith
needs_filter p (x ∷ xs) = go (p x.«module») (needs_filter p xs)
  where
    go : (b : Bool) → all_needs (filter (λ (x : Placed). p x.«module») xs) ≤ all_needs xs → all_needs (cond b (x ∷ filter (λ (x : Placed). p x.«module») xs) (filter (λ (x : Placed). p x.«module») xs)) ≤ all_needs (x ∷ xs)
    go true r = omega arith
    go false r = omega arith

-- What is left of tidy places is tidy.
pub tidy_filter : (modules pages : ℕ) (p : ℕ → Bool) (xs : List Placed) → IsTidy modules pages xs → IsTidy modules pages (filter (λ (x : Placed). p x.«module») xs)
tidy_filter modules pages p xs h = record {
  known = known_filter modules p xs h.known;
  once = once_filter p xs h.once;
  fits = fits_filter p xs h.fits;
  within = let a = needs_filter p xs in let b = h.within in omega arith;
}

-- numbers from a range stand once
below_range : (a n k : ℕ) → k < a → among k (range_with_len a n) ≡ false
below_range a zero k h = refl
below_range a (suc n) k h = let ne : a ≢ k = omega arith in ap (λ (b : Bool). b || among k (range_with_len (a + 1) n)) (ne_eqb a k ne) ∙ below_range (a + 1) n k (omega arith)

once_range : (a n : ℕ) → Once (range_with_len a n)
once_range a zero = tt
once_range a (suc n) = (below_range (a + 1) n a (omega arith), once_range (a + 1) n)

among_filtered : (p : ℕ → Bool) (m : ℕ) (xs : List ℕ) → among m xs ≡ false → among m (filter p xs) ≡ false
among_filtered p m [] e = refl
among_filtered p m (x ∷ xs) e = let r = or_false_both (eqb x m) (among m xs) e in go (p x) r.0 (among_filtered p m xs r.1)
  where
    go : (b : Bool) → eqb x m ≡ false → among m (filter p xs) ≡ false → among m (cond b (x ∷ filter p xs) (filter p xs)) ≡ false
    go true e h = ap (λ (z : Bool). z || among m (filter p xs)) e ∙ h
    go false e h = h

once_filtered : (p : ℕ → Bool) (xs : List ℕ) → Once xs → Once (filter p xs)
once_filtered p [] h = tt
once_filtered p (x ∷ xs) h = go (p x) (once_filtered p xs h.1)
  where
    go : (b : Bool) → Once (filter p xs) → Once (cond b (x ∷ filter p xs) (filter p xs))
    go true r = (among_filtered p x xs h.0, r)
    go false r = r

-- without a number that isn't there
nothing_out : (x : ℕ) (ys : List ℕ) → among x ys ≡ false → length (filter (λ k. not (eqb x k)) ys) ≡ length ys
nothing_out x [] e = refl
nothing_out x (y ∷ ys) e = let r = or_false_both (eqb y x) (among x ys) e in go (eqb x y) (not_same (eqb x y) refl r.0) (nothing_out x ys r.1)
  where
    not_same : (b : Bool) → eqb x y ≡ b → eqb y x ≡ false → b ≡ false
    not_same true e f = dite (ℕ_discrete y x) (λ (z : y ≡ x). absurd (true≢false (sym (eq-eqb y x z) ∙ f))) (λ ne. absurd (true≢false (sym e ∙ ne_eqb x y (λ z. ne (sym z)))))
    not_same false e f = refl

    go : (b : Bool) → b ≡ false → length (filter (λ k. not (eqb x k)) ys) ≡ length ys → length (cond (not b) (y ∷ filter (λ k. not (eqb x k)) ys) (filter (λ k. not (eqb x k)) ys)) ≡ length (y ∷ ys)
    go true e r = absurd (true≢false e)
    go false e r = omega arith

-- one number less at most
one_out : (x : ℕ) (ys : List ℕ) → Once ys → length ys ≤ length (filter (λ k. not (eqb x k)) ys) + 1
one_out x [] h = omega arith
one_out x (y ∷ ys) h = dite (ℕ_discrete x y)
    (λ (e : x ≡ y). let n : length (filter (λ k. not (eqb x k)) ys) ≡ length ys = nothing_out x ys (subst (λ (z : ℕ). among z ys ≡ false) (sym e) h.0) in
    let c : length (filter (λ k. not (eqb x k)) (y ∷ ys)) ≡ length (filter (λ k. not (eqb x k)) ys) = ap (λ (b : Bool). length (cond (not b) (y ∷ filter (λ k. not (eqb x k)) ys) (filter (λ k. not (eqb x k)) ys))) (eq-eqb x y e) in omega arith)
    (λ ne. let r = one_out x ys h.1 in
    let c : length (filter (λ k. not (eqb x k)) (y ∷ ys)) ≡ suc (length (filter (λ k. not (eqb x k)) ys)) = ap (λ (b : Bool). length (cond (not b) (y ∷ filter (λ k. not (eqb x k)) ys) (filter (λ k. not (eqb x k)) ys))) (ne_eqb x y ne) in omega arith)

neither : (a b : Bool) → not (a || b) ≡ (not b && not a)
neither true true = refl
neither true false = refl
neither false true = refl
neither false false = refl

filter-filter : (p q : ℕ → Bool) (xs : List ℕ) → filter q (filter p xs) ≡ filter (λ x. p x && q x) xs
filter-filter p q [] = refl
filter-filter p q (x ∷ xs) = go (p x) (filter-filter p q xs)
  where
    go : (b : Bool) → filter q (filter p xs) ≡ filter (λ x. p x && q x) xs → filter q (cond b (x ∷ filter p xs) (filter p xs)) ≡ cond (b && q x) (x ∷ filter (λ x. p x && q x) xs) (filter (λ x. p x && q x) xs)
    go true e = ap (λ (z : List ℕ). cond (q x) (x ∷ z) z) e
    go false e = e

free_least : (all xs : List ℕ) → Once xs → length xs ≤ length (filter (λ k. not (among k all)) xs) + length all
free_least [] xs h = let e : filter (λ (k : ℕ). true) xs ≡ xs = keep_all xs in let l = ap length e in omega arith
  where
    keep_all : (xs : List ℕ) → filter (λ (k : ℕ). true) xs ≡ xs
    keep_all [] = refl
    keep_all (x ∷ xs) = ap (λ (z : List ℕ). x ∷ z) (keep_all xs)
free_least (a ∷ all) xs h =
    let rest = free_least all xs h in
    let ys = filter (λ k. not (among k all)) xs in
    let out = one_out a ys (once_filtered (λ k. not (among k all)) xs h) in
    let same : filter (λ k. not (among k (a ∷ all))) xs ≡ filter (λ k. not (eqb a k)) ys =
    filter-same (λ k. not (among k (a ∷ all))) (λ k. not (among k all) && not (eqb a k)) xs (λ k _. neither (eqb a k) (among k all)) ∙ sym (filter-filter (λ k. not (among k all)) (λ k. not (eqb a k)) xs) in
    let l = ap length same in omega arith

-- As many pages are free as are not taken, at least.
pub free_count : (pages : ℕ) (all : List ℕ) → pages ≤ length (free_of pages all) + length all
free_count pages all = let h = free_least all (range_with_len 0 pages) (once_range 0 pages) in let l = length-range_with_len 0 pages in omega arith

-- Where pages fit, there are as many as are needed.
pub length-all_pages : (xs : List Placed) → AllByRecursion (λ (x : Placed). length x.pages ≡ pages_for x.tables) xs → length (all_pages xs) ≡ all_needs xs
length-all_pages [] h = refl
length-all_pages (x ∷ xs) h = let r = length-all_pages xs h.1 in let a = h.0 in let l = length-append x.pages (all_pages xs) in omega arith

-- The lowest free pages are as many as were wanted, where there is room.
pub length-lowest : (pages need : ℕ) (held : List Placed) → AllByRecursion (λ (x : Placed). length x.pages ≡ pages_for x.tables) held → need + all_needs held ≤ pages → length (lowest pages (all_pages held) need) ≡ need
length-lowest pages need held fits room =
    let f = free_count pages (all_pages held) in let l = length-all_pages held fits in let t = length-take need (free_of pages (all_pages held)) in omega arith

known_append : (n : ℕ) (xs : List Placed) (y : Placed) → AllByRecursion (λ m. m < n) (placed_modules xs) → y.«module» < n → AllByRecursion (λ m. m < n) (placed_modules (xs ++ y ∷ []))
known_append n [] y h k = (k, tt)
known_append n (x ∷ xs) y h k = (h.0, known_append n xs y h.1 k)

once_append : (xs : List Placed) (y : Placed) → Once (placed_modules xs) → among y.«module» (placed_modules xs) ≡ false → Once (placed_modules (xs ++ y ∷ []))
once_append [] y h k = (refl, tt)
once_append (x ∷ xs) y h k =
    let r = or_false_both (eqb x.«module» y.«module») (among y.«module» (placed_modules xs)) k in
    let flip : eqb y.«module» x.«module» ≡ false = dite (ℕ_discrete y.«module» x.«module») (λ (z : y.«module» ≡ x.«module»). absurd (true≢false (sym (eq-eqb x.«module» y.«module» (sym z)) ∙ r.0))) (λ ne. ne_eqb y.«module» x.«module» ne) in
    (ap (λ (z : List ℕ). among x.«module» z) (map-append (λ (v : Placed). v.«module») xs (y ∷ [])) ∙ (among-append x.«module» (placed_modules xs) (y.«module» ∷ []) ∙ both_false (among x.«module» (placed_modules xs)) (eqb y.«module» x.«module») h.0 flip), once_append xs y h.1 r.1)
  where
    both_false : (a b : Bool) → a ≡ false → b ≡ false → (a || (b || false)) ≡ false
    both_false a b e f = (λ i. e i || (f i || false))

fits_append : (xs : List Placed) (y : Placed) → AllByRecursion (λ (x : Placed). length x.pages ≡ pages_for x.tables) xs → length y.pages ≡ pages_for y.tables → AllByRecursion (λ (x : Placed). length x.pages ≡ pages_for x.tables) (xs ++ y ∷ [])
fits_append [] y h k = (k, tt)
fits_append (x ∷ xs) y h k = (h.0, fits_append xs y h.1 k)

needs-append : (xs : List Placed) (y : Placed) → all_needs (xs ++ y ∷ []) ≡ all_needs xs + pages_for y.tables
needs-append [] y = omega arith
needs-append (x ∷ xs) y = let h = needs-append xs y in omega arith

-- none of the loads is of a module that has a place
abbrev pub AreNew : List Placed → List Loaded → Type 0
AreNew held ls = AllByRecursion (λ (l : Loaded). among l.«module» (placed_modules held) ≡ false) ls

new_more : (held : List Placed) (y : Placed) (ls : List Loaded) → AreNew held ls → among y.«module» (loaded_modules ls) ≡ false → AreNew (held ++ y ∷ []) ls
new_more held y [] h k = tt
new_more held y (l ∷ ls) h k =
    let r = or_false_both (eqb l.«module» y.«module») (among y.«module» (loaded_modules ls)) k in
    let flip : eqb y.«module» l.«module» ≡ false = dite (ℕ_discrete y.«module» l.«module») (λ (z : y.«module» ≡ l.«module»). absurd (true≢false (sym (eq-eqb l.«module» y.«module» (sym z)) ∙ r.0))) (λ ne. ne_eqb y.«module» l.«module» ne) in
    (ap (λ (z : List ℕ). among l.«module» z) (map-append (λ (v : Placed). v.«module») held (y ∷ [])) ∙ (among-append l.«module» (placed_modules held) (y.«module» ∷ []) ∙ both_false (among l.«module» (placed_modules held)) (eqb y.«module» l.«module») h.0 flip), new_more held y ls h.1 r.1)
  where
    both_false : (a b : Bool) → a ≡ false → b ≡ false → (a || (b || false)) ≡ false
    both_false a b e f = (λ i. e i || (f i || false))

-- Places with loads for which there is room are tidy.
pub tidy_loads : (modules pages : ℕ) (ls : List Loaded) (held : List Placed) → IsTidy modules pages held → AllByRecursion (λ m. m < modules) (loaded_modules ls) → Once (loaded_modules ls) → AreNew held ls → all_needs held + load_pages ls ≤ pages
    → IsTidy modules pages (place_loads pages ls held)
tidy_loads modules pages [] held h known once new room = h
tidy_loads modules pages (l ∷ ls) held h known once new room =
    let y = placed_at pages held l in let n = needs-append held y in
    tidy_loads modules pages ls (held ++ y ∷ []) (record {
      known = known_append modules held y h.known known.0;
      once = once_append held y h.once new.0;
      fits = fits_append held y h.fits (length-lowest pages (pages_for l.tables) held h.fits (omega arith));
      within = omega arith;
    }) known.1 once.1 (new_more held y ls new.1 once.0) (omega arith)

-- The seats of places with loads.
pub seats-loads : (pages : ℕ) (ls : List Loaded) (held : List Placed) → map seat_of (place_loads pages ls held) ≡ map seat_of held ++ seated (loaded_modules ls) (places_for pages ls held)
seats-loads pages [] held = sym (append-nil (map seat_of held))
seats-loads pages (l ∷ ls) held = let y = placed_at pages held l in
    seats-loads pages ls (held ++ y ∷ []) ∙ (ap (λ (z : List Seat). z ++ seated (loaded_modules ls) (places_for pages ls (held ++ y ∷ []))) (map-append seat_of held (y ∷ []))
    ∙ append_assoc (map seat_of held) (seat_of y ∷ []) (seated (loaded_modules ls) (places_for pages ls (held ++ y ∷ []))))

pub length-places_for : (pages : ℕ) (ls : List Loaded) (held : List Placed) → length (places_for pages ls held) ≡ length ls
length-places_for pages [] held = refl
length-places_for pages (l ∷ ls) held = let h = length-places_for pages ls (held ++ placed_at pages held l ∷ []) in omega arith

-- The pages of seats.
pub seat_pages-all : (xs : List Placed) → seat_pages (map seat_of xs) ≡ all_pages xs
seat_pages-all [] = refl
seat_pages-all (x ∷ xs) = ap (λ (z : List ℕ). x.pages ++ z) (seat_pages-all xs)

once_distinct : (xs : List ℕ) → Once xs → IsDistinct eqb xs
unfolding IsDistinct
once_distinct [] h = tt
once_distinct (x ∷ xs) h = (apart xs h.0, once_distinct xs h.1)
  where
    apart : (ys : List ℕ) → among x ys ≡ false → AllByRecursion (λ y. eqb x y ≡ false) ys
    apart [] e = tt
    apart (y ∷ ys) e = let r = or_false_both (eqb y x) (among x ys) e in
        (dite (ℕ_discrete x y) (λ (z : x ≡ y). absurd (true≢false (sym (eq-eqb y x (sym z)) ∙ r.0))) (λ ne. ne_eqb x y ne), apart ys r.1)

below_any : (n : ℕ) (xs : List ℕ) → AllByRecursion (λ m. m < n) xs → (q : ℕ) → list_any (eqb q) xs ≡ true → q < n
below_any n [] h q e = absurd (true≢false (sym e))
below_any n (x ∷ xs) h q e = dite (ℕ_discrete q x) (λ (z : q ≡ x). subst (λ (k : ℕ). k < n) (sym z) h.0)
    (λ ne. below_any n xs h.1 q (sym (ap (λ (b : Bool). b || list_any (eqb q) xs) (ne_eqb q x ne)) ∙ e))

-- Tidy places are at most as many as there are modules.
pub length-tidy : (modules pages : ℕ) (xs : List Placed) → IsTidy modules pages xs → length (placed_modules xs) ≤ modules
length-tidy modules pages xs h = length-le_from_distinct_below (placed_modules xs) modules (once_distinct (placed_modules xs) h.once) (below_any modules (placed_modules xs) h.known)

-- What the counters keep is what is resident.
pub kept-resident : (a : Ages) (ms : List Mark) (rows : List (List ℕ)) (ks : List ℕ) (xs : List Placed) → IsTracking a ms → map (seat_in rows) ks ≡ map seat_of xs → AllByRecursion (λ m. m < length a.held.items) (placed_modules xs)
    → kept_among a rows ks ≡ map seat_of (filter (λ (x : Placed). resident ms x.«module») xs)
kept-resident a ms rows [] [] t e h = refl
kept-resident a ms rows [] (x ∷ xs) t e h = absurd (let l = ap length e in omega arith)
kept-resident a ms rows (k ∷ ks) [] t e h = absurd (let l = ap length e in omega arith)
kept-resident a ms rows (k ∷ ks) (x ∷ xs) t e h =
    let head : seat_in rows k ≡ seat_of x = cc in
    let tail : map (seat_in rows) ks ≡ map seat_of xs = cc in
    let m : k ≡ x.«module» = ap (λ (z : Seat). z.«module») head in
    let b : is_kept a k ≡ resident ms x.«module» = ap (is_kept a) m ∙ is_kept-tracks a ms x.«module» t h.0 in
    go (is_kept a k) (resident ms x.«module») b head (kept-resident a ms rows ks xs t tail h.1)
  where
    go : (b c : Bool) → b ≡ c → seat_in rows k ≡ seat_of x → map (seat_in rows) (filter (is_kept a) ks) ≡ map seat_of (filter (λ (x : Placed). resident ms x.«module») xs)
        → map (seat_in rows) (cond b (k ∷ filter (is_kept a) ks) (filter (is_kept a) ks)) ≡ map seat_of (cond c (x ∷ filter (λ (x : Placed). resident ms x.«module») xs) (filter (λ (x : Placed). resident ms x.«module») xs))
    go true true e f r = (λ i. f i ∷ r i)
    go true false e f r = absurd (true≢false e)
    go false true e f r = absurd (true≢false (sym e))
    go false false e f r = r

-- The modules of seats.
pub seats-modules : (rows : List (List ℕ)) (ks : List ℕ) (xs : List Placed) → map (seat_in rows) ks ≡ map seat_of xs → ks ≡ placed_modules xs
seats-modules rows [] [] e = refl
seats-modules rows [] (x ∷ xs) e = absurd (let l = ap length e in omega arith)
seats-modules rows (k ∷ ks) [] e = absurd (let l = ap length e in omega arith)
seats-modules rows (k ∷ ks) (x ∷ xs) e =
    let head : seat_in rows k ≡ seat_of x = cc in
    let tail : map (seat_in rows) ks ≡ map seat_of xs = cc in
    (λ i. (head i).«module» ∷ seats-modules rows ks xs tail i)

-- The modules of places with loads.
pub modules-loads : (pages : ℕ) (ls : List Loaded) (held : List Placed) → placed_modules (place_loads pages ls held) ≡ placed_modules held ++ loaded_modules ls
modules-loads pages [] held = sym (append-nil (placed_modules held))
modules-loads pages (l ∷ ls) held = let y = placed_at pages held l in
    modules-loads pages ls (held ++ y ∷ []) ∙ (ap (λ (z : List ℕ). z ++ loaded_modules ls) (map-append (λ (x : Placed). x.«module») held (y ∷ []))
    ∙ append_assoc (placed_modules held) (y.«module» ∷ []) (loaded_modules ls))
