-- What becomes resident was used or released.
use Rattle.std.proofs.Common.{◌≡◌, ◌⊎◌, ℕ, ◌+◌, ◌<◌, eqb, Bool, true, false, ◌||◌, cond, List, [], ◌∷◌, ◌++◌, map, sym, refl, ap, ◌∙◌, arith, inl, inr, ⊎_elim, append-nil, append_assoc, true≢false, Option, Some, None}
use Rattle.std.specs.Prelude.{nat_lt}
use Rattle.std.proofs.Math.Dec.{ltb}
use Rattle.std.proofs.lemmas.Bool.{ltb-true, lt-ltb}
use Rattle.runtime_histories.specs.Deeds.{Mark, uses, releases, Deeds, Desc, Pair, Loaded, act, opens, closes, closed, pair_live, marks, IsLive}
use Rattle.runtime_histories.specs.Residence.{is_own, is_use, is_release, is_any_release, count, first_of, after_last, is_fresh, is_held, resident}
use Rattle.runtime_histories.specs.Fair.{times, IsBalanced}
use Rattle.runtime_histories.specs.Places.{among}
use Rattle.runtime_histories.proofs.Balance.{held}
use Rattle.module_counts.proofs.Tracking.{count-snoc}
use Rattle.module_counts.proofs.Living.{marks_opens, marks_closes}

or_true : (a b : Bool) → (a || b) ≡ true → (a ≡ true) ⊎ (b ≡ true)
or_true true b e = inl refl
or_true false b e = inr e

true_or : (a b : Bool) → a ≡ true → (a || b) ≡ true
true_or true b e = refl
true_or false b e = absurd (true≢false (sym e))

or_right : (a b : Bool) → b ≡ true → (a || b) ≡ true
or_right true b e = refl
or_right false b e = e

other_use : (m : ℕ) (y : Mark) → is_own m y ≡ false → is_use m y ≡ false
other_use m (uses k) e = e
other_use m (releases k) e = refl

other_release : (m : ℕ) (y : Mark) → is_own m y ≡ false → is_release m y ≡ false
other_release m (uses k) e = refl
other_release m (releases k) e = e

zero_step : (b : Bool) (n : ℕ) → b ≡ false → n + cond b 1 0 ≡ n
zero_step true n e = absurd (true≢false e)
zero_step false n e = omega arith

count_other : (p : Mark → Bool) (ms : List Mark) (y : Mark) → p y ≡ false → count p (ms ++ y ∷ []) ≡ count p ms
count_other p ms y e = count-snoc p ms y ∙ zero_step (p y) (count p ms) e

held_other : (m : ℕ) (ms : List Mark) (y : Mark) → is_own m y ≡ false → is_held m (ms ++ y ∷ []) ≡ is_held m ms
held_other m ms y e = (λ i. nat_lt (count_other (is_release m) ms y (other_release m y e) i) (count_other (is_use m) ms y (other_use m y e) i))

abbrev pushed : Mark → Option (List Mark) → Option (List Mark)
pushed y None = None
pushed y (Some t) = Some (t ++ y ∷ [])

step_other : (o : Option (List Mark)) (b : Bool) (xs : List Mark) (y : Mark) → first_of (pushed y o) (cond b (Some (xs ++ y ∷ [])) None) ≡ pushed y (first_of o (cond b (Some xs) None))
step_other None true xs y = refl
step_other None false xs y = refl
step_other (Some t) b xs y = refl

after_other : (m : ℕ) (xs : List Mark) (y : Mark) → is_own m y ≡ false → after_last m (xs ++ y ∷ []) ≡ pushed y (after_last m xs)
after_other m [] y h = ap (λ (b : Bool). first_of None (cond b (Some []) None)) h
after_other m (x ∷ xs) y h = ap (λ (o : Option (List Mark)). first_of o (cond (is_own m x) (Some (xs ++ y ∷ [])) None)) (after_other m xs y h) ∙ step_other (after_last m xs) (is_own m x) xs y

fresh_pushed : (y : Mark) (o : Option (List Mark)) → is_fresh (pushed y o) ≡ true → is_fresh o ≡ true
fresh_pushed y None e = e
fresh_pushed y (Some t) e =
    let h = count-snoc is_any_release t y in
    let lt : count is_any_release (t ++ y ∷ []) < 3 = ltb-true (count is_any_release (t ++ y ∷ [])) 3 e in
    lt-ltb (count is_any_release t) 3 (omega (arith, h, lt))

own_cases : (b : Bool) → (b ≡ true) ⊎ (b ≡ false)
own_cases true = inl refl
own_cases false = inr refl

-- One mark more makes no other module resident.
pub resident_more : (m : ℕ) (ms : List Mark) (y : Mark) → resident (ms ++ y ∷ []) m ≡ true → (is_own m y ≡ true) ⊎ (resident ms m ≡ true)
resident_more m ms y e = ⊎_elim (λ z. inl z)
    (λ (z : is_own m y ≡ false). inr (⊎_elim
    (λ h. true_or (is_held m ms) (is_fresh (after_last m ms)) (sym (held_other m ms y z) ∙ h))
    (λ f. or_right (is_held m ms) (is_fresh (after_last m ms)) (fresh_pushed y (after_last m ms) (sym (ap is_fresh (after_other m ms y z)) ∙ f)))
    (or_true (is_held m (ms ++ y ∷ [])) (is_fresh (after_last m (ms ++ y ∷ []))) e)))
    (own_cases (is_own m y))

module _ (mark : ℕ → Mark) (own : (k m : ℕ) → is_own m (mark k) ≡ eqb k m) where
  -- Marks of some modules make no other module resident.
  pub resident_marks : (m : ℕ) (xs : List ℕ) (ms : List Mark) → resident (ms ++ map mark xs) m ≡ true → (among m xs ≡ true) ⊎ (resident ms m ≡ true)
  resident_marks m [] ms e = inr (ap (λ (z : List Mark). resident z m) (sym (append-nil ms)) ∙ e)
  resident_marks m (x ∷ xs) ms e = ⊎_elim
      (λ z. inl (or_right (eqb x m) (among m xs) z))
      (λ z. ⊎_elim (λ o. inl (true_or (eqb x m) (among m xs) (sym (own x m) ∙ o))) (λ r. inr r) (resident_more m ms (mark x) z))
      (resident_marks m xs (ms ++ mark x ∷ []) (ap (λ (z : List Mark). resident z m) (append_assoc ms (mark x ∷ []) (map mark xs)) ∙ e))

  -- So do marks that are made or not.
  pub resident_if : (b : Bool) (m : ℕ) (xs : List ℕ) (ms : List Mark) → resident (ms ++ cond b [] (map mark xs)) m ≡ true → (among m xs ≡ true) ⊎ (resident ms m ≡ true)
  resident_if true m xs ms e = inr (ap (λ (z : List Mark). resident z m) (sym (append-nil ms)) ∙ e)
  resident_if false m xs ms e = resident_marks m xs ms e

-- A module that is resident after an opening was resident before, or is one of its chain.
pub resident_opens : (b : Deeds) (c : ℕ) (p : Pair) (ms : List ℕ) (l : List Loaded) (m : ℕ) → resident (marks (b ++ act c (opens p ms l) ∷ [])) m ≡ true
    → (among m ms ≡ true) ⊎ (resident (marks b) m ≡ true)
resident_opens b c p ms l m e = resident_if uses (λ k m. refl) (pair_live b p) m ms (marks b)
    (ap (λ (z : List Mark). resident z m) (sym (marks_opens b c p ms l)) ∙ e)

among_times : (m : ℕ) (ms : List ℕ) → among m ms ≡ true → 0 < times m ms
among_times m [] e = absurd (true≢false (sym e))
among_times m (x ∷ xs) e = go (eqb x m) (λ h. among_times m xs h) e
  where
    go : (b : Bool) → (among m xs ≡ true → 0 < times m xs) → (b || among m xs) ≡ true → 0 < cond b 1 0 + times m xs
    go true rec h = omega arith
    go false rec h = let t = rec h in omega (arith, t)

-- A module that is resident after a closing was resident before.
pub resident_closes : (b : Deeds) (h : IsBalanced b) (c n : ℕ) (live : IsLive b c n) (m : ℕ) → resident (marks (b ++ act c (closes n) ∷ [])) m ≡ true
    → resident (marks b) m ≡ true
resident_closes b h c n live m e =
    let d : Desc = live.desc in
    let there : resident (marks (b ++ act c (closes d.number) ∷ [])) m ≡ true = ap (λ (z : ℕ). resident (marks (b ++ act c (closes z) ∷ [])) m) live.number_is ∙ e in
    let unclosed : closed d.number b ≡ false = ap (λ (z : ℕ). closed z b) live.number_is ∙ live.unclosed in
    ⊎_elim
    (λ z. let k = held h.route b h.fair d m live.there unclosed in let t = among_times m d.modules z in
    true_or (is_held m (marks b)) (is_fresh (after_last m (marks b))) (lt-ltb (count (is_release m) (marks b)) (count (is_use m) (marks b)) (omega (arith, k, t))))
    (λ r. r)
    (resident_if releases (λ k m. refl) (pair_live (b ++ act c (closes d.number) ∷ []) d.pair) m d.modules (marks b)
    (ap (λ (z : List Mark). resident z m) (sym (marks_closes b h c d live.there)) ∙ there))
