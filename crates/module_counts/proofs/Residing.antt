-- Which modules were resident before what is resident after one deed more.
use Rattle.std.proofs.Common.{◌≡◌, ◌⊎◌, ℕ, ◌+◌, ◌<◌, ◌≤◌, eqb, Bool, true, false, not, ◌&&◌, ◌||◌, cond, List, [], ◌∷◌, ◌++◌, length, map, sym, refl, ap, ◌∙◌, arith, append-nil, append_assoc, length-append, Option, Some, None, inl, inr, ⊎_elim, true≢false, eq-eqb, ne_eqb}
use Rattle.std.proofs.Math.Dec.{ltb}
use Rattle.std.proofs.lemmas.Bool.{ltb-true, lt-ltb}
use mathlib.Core.Logic.{dite}
use native.Mathlib.Decide.{ℕ_discrete}
use Rattle.std.specs.List.{filter, list_any}
use Rattle.module_graph.specs.Numbers.{with_new}
use Rattle.runtime_histories.specs.Deeds.{Pair, act, opens, closes, Deeds, Desc, Loaded, openings, closed, pair_live, Mark, uses, releases, marks, IsIn}
use Rattle.runtime_histories.specs.Residence.{is_own, is_use, is_release, is_any_release, count, after_last, is_fresh, is_held, resident}
use Rattle.runtime_histories.specs.Fair.{times, IsBalanced}
use Rattle.runtime_histories.specs.Legal.{absent_among}
use Rattle.runtime_histories.proofs.Balance.{held}
use Rattle.module_counts.specs.declared.ages.Ages.{Ages}
use Rattle.module_counts.specs.Tracking.{IsTracking, told, is_kept}
use Rattle.module_counts.proofs.Tracking.{count-snoc, pushed, after_last-other, is_kept-tracks}
use Rattle.module_counts.proofs.Living.{marks_opens, marks_closes}

or_true : (a b : Bool) → (a || b) ≡ true → (a ≡ true) ⊎ (b ≡ true)
or_true true b e = inl refl
or_true false b e = inr e

or_left : (a b : Bool) → a ≡ true → (a || b) ≡ true
or_left a b e = ap (λ (z : Bool). z || b) e

or_right : (a b : Bool) → b ≡ true → (a || b) ≡ true
or_right true b e = refl
or_right false b e = e

fresh_less : (y : Mark) (o : Option (List Mark)) → is_fresh (pushed y o) ≡ true → is_fresh o ≡ true
fresh_less y None e = e
fresh_less y (Some t) e =
    let lt : count is_any_release (t ++ y ∷ []) < 3 = ltb-true (count is_any_release (t ++ y ∷ [])) 3 e in
    let c = count-snoc is_any_release t y in lt-ltb (count is_any_release t) 3 (omega arith)

-- the counts of marks that are another module's stay
same_count : (p : Mark → Bool) (ms : List Mark) (y : Mark) → p y ≡ false → count p (ms ++ y ∷ []) ≡ count p ms
same_count p ms y e = let c : count p (ms ++ y ∷ []) ≡ count p ms + 0 = count-snoc p ms y ∙ ap (λ (b : Bool). count p ms + cond b 1 0) e in omega arith

other_use : (m : ℕ) (y : Mark) → is_own m y ≡ false → is_use m y ≡ false
other_use m (uses k) e = e
other_use m (releases k) e = refl

other_release : (m : ℕ) (y : Mark) → is_own m y ≡ false → is_release m y ≡ false
other_release m (uses k) e = refl
other_release m (releases k) e = e

-- A mark of another module makes no module resident.
other_mark : (ms : List Mark) (y : Mark) (m : ℕ) → is_own m y ≡ false → resident (ms ++ y ∷ []) m ≡ true → resident ms m ≡ true
other_mark ms y m own e = ⊎_elim
    (λ (z : is_held m (ms ++ y ∷ []) ≡ true). or_left (is_held m ms) (is_fresh (after_last m ms))
    (sym (λ i. ltb (same_count (is_release m) ms y (other_release m y own) i) (same_count (is_use m) ms y (other_use m y own) i)) ∙ z))
    (λ (z : is_fresh (after_last m (ms ++ y ∷ [])) ≡ true). or_right (is_held m ms) (is_fresh (after_last m ms))
    (fresh_less y (after_last m ms) (sym (ap is_fresh (after_last-other m ms y own)) ∙ z)))
    (or_true (is_held m (ms ++ y ∷ [])) (is_fresh (after_last m (ms ++ y ∷ []))) e)

-- What is resident after marks of some modules was so before them, or is one of these.
before_marks : (f : ℕ → Mark) → ((m k : ℕ) → is_own m (f k) ≡ eqb k m) → (ks : List ℕ) (ms : List Mark) (m : ℕ) → resident (ms ++ map f ks) m ≡ true → (resident ms m ≡ true) ⊎ IsIn m ks
before_marks f own [] ms m e = inl (sym (ap (λ (z : List Mark). resident z m) (append-nil ms)) ∙ e)
before_marks f own (k ∷ ks) ms m e = dite (ℕ_discrete k m) (λ (z : k ≡ m). inr (inl z))
    (λ ne. ⊎_elim (λ z. inl (other_mark ms (f k) m (own m k ∙ ne_eqb k m ne) z)) (λ z. inr (inr z))
    (before_marks f own ks (ms ++ f k ∷ []) m (ap (λ (z : List Mark). resident z m) (append_assoc ms (f k ∷ []) (map f ks)) ∙ e)))

-- The same where the marks are made only if the test fails.
before_some : (f : ℕ → Mark) → ((m k : ℕ) → is_own m (f k) ≡ eqb k m) → (b : Bool) (ks : List ℕ) (ms : List Mark) (m : ℕ) → resident (ms ++ cond b [] (map f ks)) m ≡ true → (resident ms m ≡ true) ⊎ IsIn m ks
before_some f own true ks ms m e = inl (sym (ap (λ (z : List Mark). resident z m) (append-nil ms)) ∙ e)
before_some f own false ks ms m e = before_marks f own ks ms m e

new_grows : (seen xs : List ℕ) → length seen ≤ length (with_new (λ a b. eqb a b) seen xs)
new_grows seen [] = omega arith
new_grows seen (x ∷ xs) =
    let r = new_grows (cond (list_any (λ b. eqb x b) seen) seen (seen ++ x ∷ [])) xs in
    let s = go (list_any (λ b. eqb x b) seen) in omega arith
  where
    go : (b : Bool) → length seen ≤ length (cond b seen (seen ++ x ∷ []))
    go true = omega arith
    go false = let l = length-append seen (x ∷ []) in omega arith

no_new : (xs : List ℕ) → with_new (λ a b. eqb a b) [] xs ≡ [] → xs ≡ []
no_new [] e = refl
no_new (x ∷ xs) e = absurd (let l = ap length e in let r = new_grows (x ∷ []) xs in omega arith)

none_fails : (p : ℕ → Bool) (xs : List ℕ) (m : ℕ) → filter (λ k. not (p k)) xs ≡ [] → IsIn m xs → p m ≡ true
none_fails p [] m e h = absurd h
none_fails p (x ∷ xs) m e h = go (p x) refl e (λ z y. none_fails p xs m z y)
  where
    go : (b : Bool) → p x ≡ b → cond (not b) (x ∷ filter (λ k. not (p k)) xs) (filter (λ k. not (p k)) xs) ≡ [] → (filter (λ k. not (p k)) xs ≡ [] → IsIn m xs → p m ≡ true) → p m ≡ true
    go true f z rec = ⊎_elim (λ (y : x ≡ m). ap p (sym y) ∙ f) (λ y. rec z y) h
    go false f z rec = absurd (let l = ap length z in omega arith)

-- Where no module is absent, an opening makes none resident.
pub before_opening : (log : Deeds) (c : ℕ) (p : Pair) (ks : List ℕ) (l : List Loaded) → absent_among log ks ≡ [] → (m : ℕ) → resident (marks (log ++ act c (opens p ks l) ∷ [])) m ≡ true → resident (marks log) m ≡ true
before_opening log c p ks l none m e = ⊎_elim (λ z. z)
    (λ z. none_fails (resident (marks log)) ks m (no_new (filter (λ k. not (resident (marks log) k)) ks) none) z)
    (before_some uses (λ m k. refl) (pair_live log p) ks (marks log) m (sym (ap (λ (z : List Mark). resident z m) (marks_opens log c p ks l)) ∙ e))

in_times : (m : ℕ) (xs : List ℕ) → IsIn m xs → 0 < times m xs
in_times m [] h = absurd h
in_times m (x ∷ xs) h = ⊎_elim
    (λ (z : x ≡ m). let e : times m (x ∷ xs) ≡ 1 + times m xs = ap (λ (b : Bool). cond b 1 0 + times m xs) (eq-eqb x m z) in omega arith)
    (λ z. let r = in_times m xs z in omega arith) h

-- The modules of a live descriptor are resident.
held_resident : (log : Deeds) (h : IsBalanced log) (d : Desc) (m : ℕ) → IsIn d (openings 0 log) → closed d.number log ≡ false → IsIn m d.modules → resident (marks log) m ≡ true
held_resident log h d m there un is =
    let a = held h.route log h.fair d m there un in let t = in_times m d.modules is in
    or_left (is_held m (marks log)) (is_fresh (after_last m (marks log))) (lt-ltb (count (is_release m) (marks log)) (count (is_use m) (marks log)) (omega arith))

-- A closing makes no module resident.
pub before_closing : (log : Deeds) (h : IsBalanced log) (c : ℕ) (d : Desc) → IsIn d (openings 0 log) → closed d.number log ≡ false → (m : ℕ) → resident (marks (log ++ act c (closes d.number) ∷ [])) m ≡ true → resident (marks log) m ≡ true
before_closing log h c d there un m e = ⊎_elim (λ z. z) (λ z. held_resident log h d m there un z)
    (before_some releases (λ m k. refl) (pair_live (log ++ act c (closes d.number) ∷ []) d.pair) d.modules (marks log) m (sym (ap (λ (z : List Mark). resident z m) (marks_closes log h c d there)) ∙ e))

and_parts : (a b : Bool) → (a && b) ≡ true → (a ≡ true) × (b ≡ true)
and_parts true b e = (refl, e)
and_parts false b e = absurd (true≢false (sym e))

-- What counters keep was kept before, if what is resident was so before.
pub kept_before : (a b : Ages) (ms ns : List Mark) → IsTracking a ms → IsTracking b ns → length b.held.items ≡ length a.held.items → ((m : ℕ) → resident ns m ≡ true → resident ms m ≡ true)
    → (m : ℕ) → is_kept b m ≡ true → is_kept a m ≡ true
kept_before a b ms ns t u same less m e =
    let lt : m < length b.held.items = ltb-true m (length b.held.items) (and_parts (ltb m (length b.held.items)) (told b m) e).0 in
    is_kept-tracks a ms m t (omega arith) ∙ less m (sym (is_kept-tracks b ns m u lt) ∙ e)

-- A filter behind a weaker one.
pub filter-weaker : (p q : ℕ → Bool) (xs : List ℕ) → ((x : ℕ) → p x ≡ true → q x ≡ true) → filter p (filter q xs) ≡ filter p xs
filter-weaker p q [] h = refl
filter-weaker p q (x ∷ xs) h = go (q x) refl (p x) refl (filter-weaker p q xs h)
  where
    go : (b : Bool) → q x ≡ b → (c : Bool) → p x ≡ c → filter p (filter q xs) ≡ filter p xs → filter p (cond b (x ∷ filter q xs) (filter q xs)) ≡ cond c (x ∷ filter p xs) (filter p xs)
    go true e c f rec = (λ i. cond (f i) (x ∷ rec i) (rec i))
    go false e true f rec = absurd (true≢false (sym (h x f) ∙ e))
    go false e false f rec = rec
