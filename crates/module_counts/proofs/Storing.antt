-- Pages of modules in a store.
use Rattle.std.proofs.Common.{◌≡◌, ℕ, zero, suc, ◌+◌, ◌-◌, ◌<◌, ◌≤◌, Bool, false, not, cond, List, [], ◌∷◌, ◌++◌, length, map, take, get_or, sym, refl, subst, ap, ◌∙◌, arith, append_assoc, length-append, ⊎_elim}
use Rattle.std.specs.List.{filter, range_with_len}
use Rattle.std.proofs.lemmas.List.{map-append, take_more}
use Rattle.module_counts.specs.declared.ages.Ages.{Ages}
use Rattle.module_counts.specs.Tracking.{is_kept}
use Rattle.runtime_histories.specs.Places.{among, free_of}
use Rattle.std.proofs.lemmas.List.{length-take, take-append-le}
use Rattle.module_counts.specs.Stocks.{Seat, seat_in, seat_pages, kept_among, IsMap, unset}
use Rattle.runtime_histories.specs.Deeds.{IsIn}
use Rattle.runtime_histories.proofs.Basics.{filter-append, filter-same}

pub seat_pages-append : (xs ys : List Seat) → seat_pages (xs ++ ys) ≡ seat_pages xs ++ seat_pages ys
seat_pages-append [] ys = refl
seat_pages-append (x ∷ xs) ys = ap (λ (z : List ℕ). x.pages ++ z) (seat_pages-append xs ys) ∙ sym (append_assoc x.pages (seat_pages xs) (seat_pages ys))

-- The pages of one module more.
pub kept_pages-more : (a : Ages) (rows : List (List ℕ)) (ms : List ℕ) (i d : ℕ) → i < length ms
    → seat_pages (kept_among a rows (take (i + 1) ms)) ≡ seat_pages (kept_among a rows (take i ms)) ++ seat_pages (kept_among a rows (get_or ms i d ∷ []))
kept_pages-more a rows ms i d lt = ap (λ (z : List ℕ). seat_pages (kept_among a rows z)) (take_more ms i d lt)
    ∙ (ap (λ (z : List ℕ). seat_pages (map (seat_in rows) z)) (filter-append (is_kept a) (take i ms) (get_or ms i d ∷ []))
    ∙ (ap seat_pages (map-append (seat_in rows) (filter (is_kept a) (take i ms)) (filter (is_kept a) (get_or ms i d ∷ [])))
    ∙ seat_pages-append (kept_among a rows (take i ms)) (kept_among a rows (get_or ms i d ∷ []))))

range-more : (a n : ℕ) → range_with_len a (n + 1) ≡ range_with_len a n ++ (a + n) ∷ []
range-more a zero = let e : a ≡ a + 0 = omega arith in ap (λ (z : ℕ). z ∷ []) e
range-more a (suc n) = let e : suc n + 1 ≡ suc (n + 1) = omega arith in let f : (a + 1) + n ≡ a + suc n = omega arith in
    ap (range_with_len a) e ∙ ap (λ (z : List ℕ). a ∷ z) (range-more (a + 1) n ∙ ap (λ (z : ℕ). range_with_len (a + 1) n ++ z ∷ []) f)

-- One bit more that is looked at.
pub unset-more : (bits : List Bool) (i : ℕ) → unset bits (i + 1) ≡ unset bits i ++ cond (not (get_or bits i false)) (i ∷ []) []
unset-more bits i = ap (filter (λ k. not (get_or bits k false))) (range-more 0 i)
    ∙ (filter-append (λ k. not (get_or bits k false)) (range_with_len 0 i) ((0 + i) ∷ [])
    ∙ (let e : 0 + i ≡ i = omega arith in ap (λ (z : ℕ). unset bits i ++ cond (not (get_or bits z false)) (z ∷ []) []) e))

-- Where as many pages were found as are needed, those behind them don't count.
unset-behind : (bits : List Bool) (i k need : ℕ) → need ≤ length (unset bits i)
    → take need (unset bits (i + k)) ≡ take need (unset bits i)
unset-behind bits i zero need le = let e : i + 0 ≡ i = omega arith in ap (λ (z : ℕ). take need (unset bits z)) e
unset-behind bits i (suc k) need le =
    let more : List ℕ = cond (not (get_or bits i false)) (i ∷ []) [] in
    let e : i + suc k ≡ i + 1 + k = omega arith in
    let long : need ≤ length (unset bits i ++ more) = omega (arith, length-append (unset bits i) more, le) in
    ap (λ (z : ℕ). take need (unset bits z)) e
    ∙ unset-behind bits (i + 1) k need (subst (λ (z : List ℕ). need ≤ length z) (sym (unset-more bits i)) long)
    ∙ ap (take need) (unset-more bits i) ∙ take-append-le need (unset bits i) more le

-- The same where those that were found are told, and all pages.
pub unset-enough : (bits : List Bool) (i pages need : ℕ) (found : List ℕ) → i ≤ pages
    → found ≡ take need (unset bits i) → need ≤ length found → found ≡ take need (unset bits pages)
unset-enough bits i pages need found within is enough =
    let all : i + (pages - i) ≡ pages = omega arith in
    let long : need ≤ length (take need (unset bits i)) = subst (λ (z : List ℕ). need ≤ length z) is enough in
    let le : need ≤ length (unset bits i) = omega (arith, length-take need (unset bits i), long) in
    is ∙ sym (unset-behind bits i (pages - i) need le) ∙ ap (λ (z : ℕ). take need (unset bits z)) all

in_range : (a n k : ℕ) → IsIn k (range_with_len a n) → (a ≤ k) × (k < a + n)
in_range a zero k h = absurd h
in_range a (suc n) k h = ⊎_elim (λ (e : a ≡ k). (omega arith, omega arith)) (λ z. let r = in_range (a + 1) n k z in let p = r.0 in let q = r.1 in (omega arith, omega arith)) h

-- What the bits leave is what is free.
pub unset-free : (bits : List Bool) (pages : ℕ) (all : List ℕ) → length bits ≡ pages → IsMap bits all → unset bits pages ≡ free_of pages all
unset-free bits pages all e m = filter-same (λ k. not (get_or bits k false)) (λ k. not (among k all)) (range_with_len 0 pages)
    (λ k h. let r = in_range 0 pages k h in let lt = r.1 in ap not (m k (omega arith)))
