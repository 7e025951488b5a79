-- Pages for several modules: the lowest of a sum are the lowest ones, one after another.
use Rattle.std.proofs.Common.{◌≡◌, ◌≢◌, inl, inr, ℕ, zero, suc, ◌+◌, ◌<◌, Bool, true, false, not, ◌||◌, eqb, List, [], ◌∷◌, ◌++◌, length, map, take, drop, if◌then◌else◌, refl, sym, ap, ◌∙◌, subst, arith, append_assoc, append-nil}
use Rattle.std.specs.List.{filter, range_with_len}
use Rattle.std.proofs.lemmas.Bool.{eq-eqb, ne_eqb}
use Rattle.std.proofs.lemmas.List.{drop-take, take-take}
use Rattle.code_pairs.specs.Tables.{Tables}
use Rattle.runtime_histories.specs.Deeds.{Loaded, IsIn}
use Rattle.runtime_histories.specs.Places.{Placed, among, pages_for, free_of, lowest, all_pages, placed_at}
use Rattle.runtime_histories.specs.Legal.{load_pages}
use Rattle.runtime_histories.proofs.Basics.{any-append, filter-same}
use Rattle.module_counts.specs.Stocks.{places_for}
use Rattle.pair_openings.specs.Cuts.{cut_by, needs, total}
use Rattle.pair_openings.specs.Loading.{loaded_all}

-- Each number of the list is above this one.
abbrev Above : ℕ → List ℕ → Type 0
Above k [] = Unit {0}
Above k (x ∷ xs) = (k < x) × Above x xs

-- The numbers ascend.
abbrev Ascends : List ℕ → Type 0
Ascends [] = Unit {0}
Ascends (x ∷ xs) = Above x xs

above_ascends : (k : ℕ) (xs : List ℕ) → Above k xs → Ascends xs
above_ascends k [] h = tt
above_ascends k (x ∷ xs) h = h.1

above_less : (k j : ℕ) (xs : List ℕ) → k < j → Above j xs → Above k xs
above_less k j [] lt h = tt
above_less k j (x ∷ xs) lt h = (omega (arith, h.0), h.1)

above_in : (k x : ℕ) (xs : List ℕ) → Above k xs → IsIn x xs → k < x
above_in k x [] h i = absurd i
above_in k x (y ∷ ys) h (inl e) = subst (λ (z : ℕ). k < z) e h.0
above_in k x (y ∷ ys) h (inr i) = above_in k x ys (above_less k y ys h.0 h.1) i

abbrev free_among : List ℕ → List ℕ → List ℕ
free_among taken xs = filter (λ k. not (among k taken)) xs

among-append : (k : ℕ) (xs ys : List ℕ) → among k (xs ++ ys) ≡ (among k xs || among k ys)
among-append k xs ys = any-append (λ y. eqb y k) xs ys

among_more : (k x : ℕ) (taken more : List ℕ) → x ≢ k → among k (taken ++ x ∷ more) ≡ among k (taken ++ more)
among_more k x taken more ne = among-append k taken (x ∷ more) ∙ (ap (λ (b : Bool). among k taken || (b || among k more)) (ne_eqb x k ne) ∙ sym (among-append k taken more))

or_true : (b : Bool) → (b || true) ≡ true
or_true true = refl
or_true false = refl

among_here : (x : ℕ) (taken more : List ℕ) → among x (taken ++ x ∷ more) ≡ true
among_here x taken more = among-append x taken (x ∷ more) ∙ (ap (λ (b : Bool). among x taken || (b || among x more)) (eq-eqb x x refl) ∙ or_true (among x taken))

among_still : (x : ℕ) (taken more : List ℕ) → among x taken ≡ true → among x (taken ++ more) ≡ true
among_still x taken more e = among-append x taken more ∙ ap (λ (b : Bool). b || among x more) e

-- Without the first free ones, the others are left.
left_over : (taken xs : List ℕ) (a : ℕ) → Ascends xs → free_among (taken ++ take a (free_among taken xs)) xs ≡ drop a (free_among taken xs)
left_over taken [] a h = nothing a
  where
    nothing : (a : ℕ) → ◌≡◌ {A = List ℕ} [] (drop a [])
    nothing zero = refl
    nothing (suc a) = refl
left_over taken (x ∷ xs) a h = go (λ n. left_over taken xs n (above_ascends x xs h)) (among x taken) refl a
  where
    go : ((n : ℕ) → free_among (taken ++ take n (free_among taken xs)) xs ≡ drop n (free_among taken xs)) → (t : Bool) → among x taken ≡ t → (a : ℕ)
        → free_among (taken ++ take a (if not t then x ∷ free_among taken xs else free_among taken xs)) (x ∷ xs) ≡ drop a (if not t then x ∷ free_among taken xs else free_among taken xs)
    go rec true e a = ap (λ (b : Bool). if not b then x ∷ free_among (taken ++ take a (free_among taken xs)) xs else free_among (taken ++ take a (free_among taken xs)) xs) (among_still x taken (take a (free_among taken xs)) e) ∙ rec a
    go rec false e zero = ap (λ (z : List ℕ). free_among z (x ∷ xs)) (append-nil taken) ∙ ap (λ (b : Bool). if not b then x ∷ free_among taken xs else free_among taken xs) e
    go rec false e (suc a) =
        ap (λ (b : Bool). if not b then x ∷ free_among (taken ++ x ∷ take a (free_among taken xs)) xs else free_among (taken ++ x ∷ take a (free_among taken xs)) xs) (among_here x taken (take a (free_among taken xs)))
        ∙ (filter-same (λ k. not (among k (taken ++ x ∷ take a (free_among taken xs)))) (λ k. not (among k (taken ++ take a (free_among taken xs)))) xs
        (λ k i. ap not (among_more k x taken (take a (free_among taken xs)) (λ e2. let lt = above_in x k xs h i in omega (arith, lt, e2)))) ∙ rec a)

above_range : (low k n : ℕ) → low < k → Above low (range_with_len k n)
above_range low k zero lt = tt
above_range low k (suc n) lt = (lt, above_range k (k + 1) n (omega arith))

ascends_range : (k n : ℕ) → Ascends (range_with_len k n)
ascends_range k zero = tt
ascends_range k (suc n) = above_range k (k + 1) n (omega arith)

-- The free pages without the lowest ones are those that are left when these are taken.
pub free_left : (pages a : ℕ) (taken : List ℕ) → free_of pages (taken ++ lowest pages taken a) ≡ drop a (free_of pages taken)
free_left pages a taken = left_over taken (range_with_len 0 pages) a (ascends_range 0 pages)

all_pages-more : (held : List Placed) (x : Placed) → all_pages (held ++ x ∷ []) ≡ all_pages held ++ x.pages
all_pages-more [] x = append-nil x.pages
all_pages-more (y ∷ held) x = ap (λ (z : List ℕ). y.pages ++ z) (all_pages-more held x) ∙ sym (append_assoc y.pages (all_pages held) x.pages)

abbrev sizes : List Loaded → List ℕ
sizes ls = map (λ (l : Loaded). pages_for l.tables) ls

-- The lowest pages for all, cut into parts, are the lowest ones for each, one after another.
cut_free : (pages : ℕ) (ls : List Loaded) (held : List Placed) → cut_by (take (load_pages ls) (free_of pages (all_pages held))) (sizes ls) ≡ places_for pages ls held
cut_free pages [] held = refl
cut_free pages (l ∷ ls) held =
    let n : ℕ = pages_for l.tables in
    let free : List ℕ = free_of pages (all_pages held) in
    let next : free_of pages (all_pages (held ++ placed_at pages held l ∷ [])) ≡ drop n free = ap (free_of pages) (all_pages-more held (placed_at pages held l)) ∙ free_left pages n (all_pages held) in
    ap (λ (z : List ℕ). z ∷ cut_by (drop n (take (n + load_pages ls) free)) (sizes ls)) (take-take n (n + load_pages ls) free (omega arith))
    ∙ ap (λ (z : List ℕ). take n free ∷ cut_by z (sizes ls)) (drop-take n (load_pages ls) free ∙ ap (take (load_pages ls)) (sym next))
    ∙ ap (λ (z : List (List ℕ)). take n free ∷ z) (cut_free pages ls (held ++ placed_at pages held l ∷ []))

pub sizes_are : (ms : List ℕ) (ts : List Tables) → length ms ≡ length ts → sizes (loaded_all ms ts) ≡ needs ts
sizes_are [] [] e = refl
sizes_are [] (t ∷ ts) e = absurd (omega (arith, e))
sizes_are (m ∷ ms) [] e = absurd (omega (arith, e))
sizes_are (m ∷ ms) (t ∷ ts) e = ap (λ (z : List ℕ). pages_for t ∷ z) (sizes_are ms ts (omega (arith, e)))

pub load_pages-all : (ms : List ℕ) (ts : List Tables) → length ms ≡ length ts → load_pages (loaded_all ms ts) ≡ total (needs ts)
load_pages-all [] [] e = refl
load_pages-all [] (t ∷ ts) e = absurd (omega (arith, e))
load_pages-all (m ∷ ms) [] e = absurd (omega (arith, e))
load_pages-all (m ∷ ms) (t ∷ ts) e = ap (λ (n : ℕ). pages_for t + n) (load_pages-all ms ts (omega (arith, e)))

-- The pages that were chosen, cut by what each module needs, are the places of the modules.
pub cut_places : (pages : ℕ) (held : List Placed) (ms : List ℕ) (ts : List Tables) → length ms ≡ length ts
    → cut_by (lowest pages (all_pages held) (total (needs ts))) (needs ts) ≡ places_for pages (loaded_all ms ts) held
cut_places pages held ms ts e =
    ap (λ (n : ℕ). cut_by (take n (free_of pages (all_pages held))) (needs ts)) (sym (load_pages-all ms ts e))
    ∙ ap (cut_by (take (load_pages (loaded_all ms ts)) (free_of pages (all_pages held)))) (sym (sizes_are ms ts e))
    ∙ cut_free pages (loaded_all ms ts) held
