-- What one deed does to live descriptors and marks.
use Rattle.std.proofs.Common.{◌≡◌, ℕ, ◌+◌, eqb, Bool, true, false, not, ◌&&◌, ◌||◌, cond, List, [], ◌∷◌, ◌++◌, length, map, sym, refl, ap, ◌∙◌, arith, append-nil, eq-eqb, ne_eqb}
use Rattle.std.specs.List.{list_any, filter}
use Rattle.std.proofs.lemmas.List.{map-append}
use mathlib.Core.Logic.{dite}
use native.Mathlib.Decide.{ℕ_discrete}
use Rattle.module_counts.specs.declared.lives.Live.{Live}
use Rattle.runtime_histories.specs.Deeds.{Pair, same_pair, Act, act, opens, closes, rests, Deeds, Loaded, Desc, openings, names, closed, live, pair_live, Mark, uses, releases, released, marks_of, marks, IsIn}
use Rattle.runtime_histories.specs.Fair.{IsBalanced}
use Rattle.module_counts.specs.Lives.{pair_shown}
use Rattle.module_counts.specs.Counting.{shown}
use Rattle.runtime_histories.proofs.Basics.{or-false, openings-append, closed-append, filter-append, filter-same}
use Rattle.runtime_histories.proofs.Balance.{marks-append, found_pair, no_more}

any_keep : (c : ℕ → Bool) (p : Pair) (ds : List Desc) → list_any (λ (d : Desc). same_pair d.pair p && not (c d.number)) ds ≡ list_any (λ (x : Live). same_pair (pair_shown x) p) (map shown (filter (λ d. not (c d.number)) ds))
any_keep c p [] = refl
any_keep c p (d ∷ ds) = go (c d.number) (any_keep c p ds)
  where
    drop_false : (b : Bool) → (b && false) ≡ false
    drop_false true = refl
    drop_false false = refl

    drop_true : (b : Bool) → (b && true) ≡ b
    drop_true true = refl
    drop_true false = refl

    go : (b : Bool) → list_any (λ (d : Desc). same_pair d.pair p && not (c d.number)) ds ≡ list_any (λ (x : Live). same_pair (pair_shown x) p) (map shown (filter (λ d. not (c d.number)) ds))
        → ((same_pair d.pair p && not b) || list_any (λ (d : Desc). same_pair d.pair p && not (c d.number)) ds) ≡ list_any (λ (x : Live). same_pair (pair_shown x) p) (map shown (cond (not b) (d ∷ filter (λ d. not (c d.number)) ds) (filter (λ d. not (c d.number)) ds)))
    go true e = ap (λ (z : Bool). z || list_any (λ (d : Desc). same_pair d.pair p && not (c d.number)) ds) (drop_false (same_pair d.pair p)) ∙ e
    go false e = ap (λ (z : Bool). z || list_any (λ (d : Desc). same_pair d.pair p && not (c d.number)) ds) (drop_true (same_pair d.pair p)) ∙ ap (λ (z : Bool). same_pair d.pair p || z) e

-- Whether a pair is live, by the kept descriptors.
pub any_live : (b : Deeds) (p : Pair) → list_any (λ (x : Live). same_pair (pair_shown x) p) (map shown (live b)) ≡ pair_live b p
any_live b p = sym (any_keep (λ k. closed k b) p (openings 0 b))

not_true : (b : Bool) → (b ≡ true → ⊥) → b ≡ false
not_true true h = absurd (h refl)
not_true false h = refl

live_old : (b : Deeds) (h : IsBalanced b) (e : Act) → ((k : ℕ) → names k e.deed ≡ false) → filter (λ d. not (closed d.number (b ++ e ∷ []))) (openings 0 b) ≡ live b
live_old b h e none = filter-same (λ d. not (closed d.number (b ++ e ∷ []))) (λ d. not (closed d.number b)) (openings 0 b) (λ x _. ap not (no_more h.route b h.fair e none x.number))

live_opens : (b : Deeds) (h : IsBalanced b) (c : ℕ) (p : Pair) (ms : List ℕ) (l : List Loaded) → live (b ++ act c (opens p ms l) ∷ []) ≡ live b ++ record { number = 0 + length b; caller = c; pair = p; modules = ms } ∷ []
live_opens b h c p ms l =
    let e : Act = act c (opens p ms l) in let d : Desc = record { number = 0 + length b; caller = c; pair = p; modules = ms } in
    let fresh : closed (0 + length b) b ≡ false = not_true (closed (0 + length b) b) (λ z. let k = h.fair.low (0 + length b) z in omega arith) in
    let gone : closed (0 + length b) (b ++ e ∷ []) ≡ false = no_more h.route b h.fair e (λ k. refl) (0 + length b) ∙ fresh in
    ap (filter (λ d. not (closed d.number (b ++ e ∷ [])))) (openings-append 0 b (e ∷ [])) ∙ (filter-append (λ d. not (closed d.number (b ++ e ∷ []))) (openings 0 b) (d ∷ [])
    ∙ (λ i. live_old b h e (λ k. refl) i ++ cond (not (gone i)) (d ∷ []) []))

-- One opening more among the kept descriptors.
pub live_is_opens : (b : Deeds) → IsBalanced b → (c : ℕ) (p : Pair) (n : ℕ) (ms : List ℕ) (l : List Loaded) → n ≡ length b
    → map shown (live (b ++ act c (opens p ms l) ∷ [])) ≡ map shown (live b) ++ record { number = n; caller = c; generation = p.generation; from = p.from; to = p.to } ∷ []
live_is_opens b h c p n ms l is = ap (map shown) (live_opens b h c p ms l) ∙ (map-append shown (live b) (record { number = 0 + length b; caller = c; pair = p; modules = ms } ∷ [])
    ∙ (let e : 0 + length b ≡ n = omega arith in ap (λ (z : ℕ). map shown (live b) ++ record { number = z; caller = c; generation = p.generation; from = p.from; to = p.to } ∷ []) e))

-- A deed that rests leaves them.
pub live_rests : (b : Deeds) → IsBalanced b → (c : ℕ) → live (b ++ act c rests ∷ []) ≡ live b
live_rests b h c = ap (filter (λ d. not (closed d.number (b ++ act c rests ∷ [])))) (openings-append 0 b (act c rests ∷ []) ∙ append-nil (openings 0 b)) ∙ live_old b h (act c rests) (λ k. refl)

pub marks_opens : (b : Deeds) (c : ℕ) (p : Pair) (ms : List ℕ) (l : List Loaded) → marks (b ++ act c (opens p ms l) ∷ []) ≡ marks b ++ cond (pair_live b p) [] (map uses ms)
marks_opens b c p ms l = marks-append [] b (act c (opens p ms l) ∷ []) ∙ ap (λ (z : List Mark). marks b ++ z) (append-nil (cond (pair_live b p) [] (map uses ms)))

pub marks_rests : (b : Deeds) (c : ℕ) → marks (b ++ act c rests ∷ []) ≡ marks b
marks_rests b c = marks-append [] b (act c rests ∷ []) ∙ append-nil (marks b)

filter-filter : {A : Type 0} (p q : A → Bool) (xs : List A) → filter q (filter p xs) ≡ filter (λ x. p x && q x) xs
filter-filter p q [] = refl
filter-filter p q (x ∷ xs) = go (p x) (filter-filter p q xs)
  where
    go : (b : Bool) → filter q (filter p xs) ≡ filter (λ x. p x && q x) xs → filter q (cond b (x ∷ filter p xs) (filter p xs)) ≡ cond (b && q x) (x ∷ filter (λ x. p x && q x) xs) (filter (λ x. p x && q x) xs)
    go true e = ap (λ z. cond (q x) (x ∷ z) z) e
    go false e = e

eqb-sym : (a b : ℕ) → eqb a b ≡ eqb b a
eqb-sym a b = dite (ℕ_discrete a b) (λ (e : a ≡ b). eq-eqb a b e ∙ sym (eq-eqb b a (sym e))) (λ ne. ne_eqb a b ne ∙ sym (ne_eqb b a (λ z. ne (sym z))))

neither : (a b : Bool) → not (a || b) ≡ (not a && not b)
neither true b = refl
neither false b = refl

same_openings : (b : Deeds) (c n : ℕ) → openings 0 (b ++ act c (closes n) ∷ []) ≡ openings 0 b
same_openings b c n = openings-append 0 b (act c (closes n) ∷ []) ∙ append-nil (openings 0 b)

live_closes : (b : Deeds) (c n : ℕ) → live (b ++ act c (closes n) ∷ []) ≡ filter (λ d. not (eqb d.number n)) (live b)
live_closes b c n = let e : Act = act c (closes n) in
    ap (filter (λ (d : Desc). not (closed d.number (b ++ e ∷ [])))) (same_openings b c n)
    ∙ (filter-same (λ (d : Desc). not (closed d.number (b ++ e ∷ []))) (λ d. not (closed d.number b) && not (eqb d.number n)) (openings 0 b)
    (λ x _. ap not (closed-append x.number b (e ∷ []) ∙ (ap (λ (z : Bool). closed x.number b || z) (or-false (eqb n x.number) ∙ eqb-sym n x.number))) ∙ neither (closed x.number b) (eqb x.number n))
    ∙ sym (filter-filter (λ (d : Desc). not (closed d.number b)) (λ d. not (eqb d.number n)) (openings 0 b)))

shown_keep : (n : ℕ) (ds : List Desc) → map shown (filter (λ d. not (eqb d.number n)) ds) ≡ filter (λ (x : Live). not (eqb x.number n)) (map shown ds)
shown_keep n [] = refl
shown_keep n (d ∷ ds) = go (not (eqb d.number n)) (shown_keep n ds)
  where
    go : (b : Bool) → map shown (filter (λ d. not (eqb d.number n)) ds) ≡ filter (λ (x : Live). not (eqb x.number n)) (map shown ds)
        → map shown (cond b (d ∷ filter (λ d. not (eqb d.number n)) ds) (filter (λ d. not (eqb d.number n)) ds)) ≡ cond b (shown d ∷ filter (λ (x : Live). not (eqb x.number n)) (map shown ds)) (filter (λ (x : Live). not (eqb x.number n)) (map shown ds))
    go true e = ap (λ (z : List Live). shown d ∷ z) e
    go false e = e

-- One closing less among the kept descriptors.
pub live_is_closes : (b : Deeds) (c n : ℕ) → map shown (live (b ++ act c (closes n) ∷ [])) ≡ filter (λ (x : Live). not (eqb x.number n)) (map shown (live b))
live_is_closes b c n = ap (map shown) (live_closes b c n) ∙ shown_keep n (live b)

pub marks_closes : (b : Deeds) (h : IsBalanced b) (c : ℕ) (d : Desc) → IsIn d (openings 0 b)
    → marks (b ++ act c (closes d.number) ∷ []) ≡ marks b ++ cond (pair_live (b ++ act c (closes d.number) ∷ []) d.pair) [] (map releases d.modules)
marks_closes b h c d in_d = let e : Act = act c (closes d.number) in
    marks-append [] b (e ∷ []) ∙ ap (λ (z : List Mark). marks b ++ z) (append-nil (marks_of b c (closes d.number)) ∙ ap (released (b ++ e ∷ [])) (found_pair h.route b h.fair d in_d))
