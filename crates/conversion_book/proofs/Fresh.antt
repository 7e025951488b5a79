-- The number of an opening is new.
use Rattle.std.proofs.Common.{◌≡◌, ℕ, ◌<◌, Bool, true, false, not, cond, List, [], ◌∷◌, ◌++◌, length, map, refl, ap, ◌∙◌, sym, subst, arith, Some, None, inl, inr, eq-eqb, ne_eqb}
use Rattle.std.specs.List.{filter, AllByRecursion}
use Rattle.runtime_histories.specs.Deeds.{Deeds, Desc, openings, closed, IsIn}
use Rattle.runtime_histories.proofs.Basics.{number_range}
use Rattle.conversion_book.specs.Runtime.{Held, held_at}
use Rattle.conversion_book.proofs.Holding.{live_numbers}

low : (p : Desc → Bool) (n : ℕ) (ds : List Desc) → ((d : Desc) → IsIn d ds → d.number < n) → AllByRecursion (λ k. k < n) (map (λ (d : Desc). d.number) (filter p ds))
low p n [] h = tt
low p n (d ∷ ds) h = go (p d) (h d (inl refl)) (low p n ds (λ x z. h x (inr z)))
  where
    go : (b : Bool) → d.number < n → AllByRecursion (λ k. k < n) (map (λ (d : Desc). d.number) (filter p ds)) → AllByRecursion (λ k. k < n) (map (λ (d : Desc). d.number) (cond b (d ∷ filter p ds) (filter p ds)))
    go true l r = (l, r)
    go false l r = r

-- The numbers of live descriptors are positions of the history.
low_numbers : (log : Deeds) → AllByRecursion (λ k. k < length log) (live_numbers log)
low_numbers log = low (λ d. not (closed d.number log)) (length log) (openings 0 log) (λ d h. let r = (number_range d 0 log h).1 in omega (arith, r))

last_found : (n : ℕ) (hs : List Held) (h : Held) → AllByRecursion (λ k. k < n) (map (λ (x : Held). x.number) hs) → h.number ≡ n → held_at n (hs ++ h ∷ []) ≡ Some h
last_found n [] h all e = ap (λ (b : Bool). cond b (Some h) None) (eq-eqb h.number n e)
last_found n (x ∷ xs) h all e = ap (λ (b : Bool). cond b (Some x) (held_at n (xs ++ h ∷ []))) (ne_eqb x.number n (λ z. let l = all.0 in omega (arith, l, z)))
    ∙ last_found n xs h all.1 e

-- The descriptor of an opening is found by its number.
pub found_new : (log : Deeds) (n : ℕ) (hs : List Held) (h : Held) → map (λ (x : Held). x.number) hs ≡ live_numbers log → n ≡ length log → h.number ≡ n → held_at n (hs ++ h ∷ []) ≡ Some h
found_new log n hs h same at e =
    let all : AllByRecursion (λ k. k < n) (live_numbers log) = subst (λ (m : ℕ). AllByRecursion (λ k. k < m) (live_numbers log)) (sym at) (low_numbers log) in
    last_found n hs h (subst (AllByRecursion (λ k. k < n)) (sym same) all) e
