-- Counters that tell what is resident.
use Rattle.std.proofs.Common.{◌≡◌, ◌≢◌, ℕ, ◌+◌, ◌-◌, ◌<◌, Bool, true, false, ◌&&◌, ◌||◌, cond, List, [], ◌∷◌, ◌++◌, length, sym, refl, ap, ◌∙◌, subst, arith, Option, Some, None, eq-eqb, ne_eqb, get_or}
use Rattle.std.proofs.Math.ListN.{set}
use Rattle.std.proofs.lemmas.List.{length-set}
use Rattle.std.proofs.Common.{get_or-set_same, get_or-set_other}
use Rattle.std.proofs.Math.Dec.{ltb}
use Rattle.std.proofs.lemmas.Bool.{ltb-true, lt-ltb}
use mathlib.Core.Logic.{dite}
use native.Mathlib.Decide.{ℕ_discrete}
use Rattle.runtime_histories.specs.Deeds.{Mark, uses, releases}
use Rattle.module_counts.specs.Tracking.{IsAged, Tracks, IsTracking, told, is_kept}
use Rattle.module_counts.specs.declared.ages.Ages.{Ages}
use Rattle.runtime_histories.specs.Residence.{is_own, is_use, is_release, is_any_release, count, first_of, after_last, is_fresh, resident}

pub count-snoc : (p : Mark → Bool) (xs : List Mark) (y : Mark) → count p (xs ++ y ∷ []) ≡ count p xs + cond (p y) 1 0
count-snoc p [] y = omega arith
count-snoc p (x ∷ xs) y = let h = count-snoc p xs y in omega arith

abbrev pub pushed : Mark → Option (List Mark) → Option (List Mark)
pushed y None = None
pushed y (Some t) = Some (t ++ y ∷ [])

pub after_last-own : (m : ℕ) (xs : List Mark) (y : Mark) → is_own m y ≡ true → after_last m (xs ++ y ∷ []) ≡ Some []
after_last-own m [] y h = ap (λ (b : Bool). first_of None (cond b (Some []) None)) h
after_last-own m (x ∷ xs) y h = ap (λ (o : Option (List Mark)). first_of o (cond (is_own m x) (Some (xs ++ y ∷ [])) None)) (after_last-own m xs y h)

step_other : (o : Option (List Mark)) (b : Bool) (xs : List Mark) (y : Mark) → first_of (pushed y o) (cond b (Some (xs ++ y ∷ [])) None) ≡ pushed y (first_of o (cond b (Some xs) None))
step_other None true xs y = refl
step_other None false xs y = refl
step_other (Some t) b xs y = refl

pub after_last-other : (m : ℕ) (xs : List Mark) (y : Mark) → is_own m y ≡ false → after_last m (xs ++ y ∷ []) ≡ pushed y (after_last m xs)
after_last-other m [] y h = ap (λ (b : Bool). first_of None (cond b (Some []) None)) h
after_last-other m (x ∷ xs) y h = ap (λ (o : Option (List Mark)). first_of o (cond (is_own m x) (Some (xs ++ y ∷ [])) None)) (after_last-other m xs y h) ∙ step_other (after_last m xs) (is_own m x) xs y

fresh_by : (s clock : ℕ) (o : Option (List Mark)) → IsAged s clock o → is_fresh o ≡ (ltb 0 s && ltb (clock + 1 - s) 3)
fresh_by s clock None h = sym (ap (λ (z : ℕ). ltb 0 z && ltb (clock + 1 - z) 3) h)
fresh_by s clock (Some t) h = let a = h.0 in let b = h.1 in let e : count is_any_release t ≡ clock + 1 - s = omega arith in ap (λ (z : ℕ). ltb z 3) e ∙ sym (ap (λ (z : Bool). z && ltb (clock + 1 - s) 3) (lt-ltb 0 s a))

tests_same : (a b c d : ℕ) → (a < b → c < d) → (c < d → a < b) → (x y : Bool) → ltb a b ≡ x → ltb c d ≡ y → ltb a b ≡ ltb c d
tests_same a b c d f g true y e w = e ∙ sym (lt-ltb c d (f (ltb-true a b e)))
tests_same a b c d f g false true e w = lt-ltb a b (g (ltb-true c d w)) ∙ sym w
tests_same a b c d f g false false e w = e ∙ sym w

held_by : (h r u : ℕ) → h + r ≡ u → ltb r u ≡ ltb 0 h
held_by h r u e = tests_same r u 0 h (λ z. omega arith) (λ z. omega arith) (ltb r u) (ltb 0 h) refl refl

pub resident-tracks : (held stamps : List ℕ) (clock : ℕ) (ms : List Mark) (m : ℕ) → Tracks held stamps clock ms → m < length held
    → resident ms m ≡ (ltb 0 (get_or held m 0) || (ltb 0 (get_or stamps m 0) && ltb (clock + 1 - get_or stamps m 0) 3))
resident-tracks held stamps clock ms m t lt = ap (λ (b : Bool). b || is_fresh (after_last m ms)) (held_by (get_or held m 0) (count (is_release m) ms) (count (is_use m) ms) (t.kept m lt)) ∙ ap (λ (b : Bool). ltb 0 (get_or held m 0) || b) (fresh_by (get_or stamps m 0) clock (after_last m ms) (t.aged m lt))

aged_use : (s clock k : ℕ) (o : Option (List Mark)) → IsAged s clock o → IsAged s clock (pushed (uses k) o)
aged_use s clock k None h = h
aged_use s clock k (Some t) h = (h.0, (let c = count-snoc is_any_release t (uses k) in let b = h.1 in omega arith))

aged_release : (s clock k : ℕ) (o : Option (List Mark)) → IsAged s clock o → IsAged s (clock + 1) (pushed (releases k) o)
aged_release s clock k None h = h
aged_release s clock k (Some t) h = (h.0, (let c = count-snoc is_any_release t (releases k) in let b = h.1 in omega arith))

pub Tracks-use : (held stamps : List ℕ) (clock : ℕ) (ms : List Mark) (k : ℕ) → Tracks held stamps clock ms → k < length held
    → Tracks (set held k (get_or held k 0 + 1)) (set stamps k (clock + 1)) clock (ms ++ uses k ∷ [])
Tracks-use held stamps clock ms k t lt = record {
  same = length-set stamps k (clock + 1) ∙ (t.same ∙ sym (length-set held k (get_or held k 0 + 1)));
  kept = λ m h'. let h : m < length held = (let q = length-set held k (get_or held k 0 + 1) in omega arith) in
      let cu = count-snoc (is_use m) ms (uses k) in let cr = count-snoc (is_release m) ms (uses k) in let old = t.kept m h in
      dite (ℕ_discrete k m)
      (λ (e : k ≡ m). let g : get_or (set held k (get_or held k 0 + 1)) m 0 ≡ get_or held m 0 + 1 = subst (λ (z : ℕ). get_or (set held k (get_or held k 0 + 1)) z 0 ≡ get_or held z 0 + 1) e (rw get_or-set_same refl) in
      let b = eq-eqb k m e in let cu2 : count (is_use m) (ms ++ uses k ∷ []) ≡ count (is_use m) ms + 1 = cu ∙ ap (λ (z : Bool). count (is_use m) ms + cond z 1 0) b in omega arith)
      (λ ne. let ne' : m ≢ k = λ z. ne (sym z) in let g : get_or (set held k (get_or held k 0 + 1)) m 0 ≡ get_or held m 0 = rw get_or-set_other refl in
      let b = ne_eqb k m ne in let cu2 : count (is_use m) (ms ++ uses k ∷ []) ≡ count (is_use m) ms + 0 = cu ∙ ap (λ (z : Bool). count (is_use m) ms + cond z 1 0) b in omega arith);
  aged = λ m h'. let h : m < length held = (let q = length-set held k (get_or held k 0 + 1) in omega arith) in
      dite (ℕ_discrete k m)
      (λ (e : k ≡ m). subst (λ (o : Option (List Mark)). IsAged (get_or (set stamps k (clock + 1)) m 0) clock o) (sym (after_last-own m ms (uses k) (eq-eqb k m e)))
      (let ks : k < length stamps = (let q = t.same in omega arith) in let g : get_or (set stamps k (clock + 1)) m 0 ≡ clock + 1 = subst (λ (z : ℕ). get_or (set stamps k (clock + 1)) z 0 ≡ clock + 1) e (rw get_or-set_same refl) in (omega arith, omega arith)))
      (λ ne. let ne' : m ≢ k = λ z. ne (sym z) in let g : get_or (set stamps k (clock + 1)) m 0 ≡ get_or stamps m 0 = rw get_or-set_other refl in
      subst (λ (o : Option (List Mark)). IsAged (get_or (set stamps k (clock + 1)) m 0) clock o) (sym (after_last-other m ms (uses k) (ne_eqb k m ne)))
      (subst (λ (z : ℕ). IsAged z clock (pushed (uses k) (after_last m ms))) (sym g) (aged_use (get_or stamps m 0) clock k (after_last m ms) (t.aged m h))));
}

pub Tracks-release : (held stamps : List ℕ) (clock : ℕ) (ms : List Mark) (k : ℕ) → Tracks held stamps clock ms → k < length held → 0 < get_or held k 0
    → Tracks (set held k (get_or held k 0 - 1)) (set stamps k (clock + 2)) (clock + 1) (ms ++ releases k ∷ [])
Tracks-release held stamps clock ms k t lt pos = record {
  same = length-set stamps k (clock + 2) ∙ (t.same ∙ sym (length-set held k (get_or held k 0 - 1)));
  kept = λ m h'. let h : m < length held = (let q = length-set held k (get_or held k 0 - 1) in omega arith) in
      let cu = count-snoc (is_use m) ms (releases k) in let cr = count-snoc (is_release m) ms (releases k) in let old = t.kept m h in
      dite (ℕ_discrete k m)
      (λ (e : k ≡ m). let g : get_or (set held k (get_or held k 0 - 1)) m 0 ≡ get_or held m 0 - 1 = subst (λ (z : ℕ). get_or (set held k (get_or held k 0 - 1)) z 0 ≡ get_or held z 0 - 1) e (rw get_or-set_same refl) in
      let pos' : 0 < get_or held m 0 = subst (λ (z : ℕ). 0 < get_or held z 0) e pos in
      let b = eq-eqb k m e in let cr2 : count (is_release m) (ms ++ releases k ∷ []) ≡ count (is_release m) ms + 1 = cr ∙ ap (λ (z : Bool). count (is_release m) ms + cond z 1 0) b in omega arith)
      (λ ne. let ne' : m ≢ k = λ z. ne (sym z) in let g : get_or (set held k (get_or held k 0 - 1)) m 0 ≡ get_or held m 0 = rw get_or-set_other refl in
      let b = ne_eqb k m ne in let cr2 : count (is_release m) (ms ++ releases k ∷ []) ≡ count (is_release m) ms + 0 = cr ∙ ap (λ (z : Bool). count (is_release m) ms + cond z 1 0) b in omega arith);
  aged = λ m h'. let h : m < length held = (let q = length-set held k (get_or held k 0 - 1) in omega arith) in
      dite (ℕ_discrete k m)
      (λ (e : k ≡ m). subst (λ (o : Option (List Mark)). IsAged (get_or (set stamps k (clock + 2)) m 0) (clock + 1) o) (sym (after_last-own m ms (releases k) (eq-eqb k m e)))
      (let ks : k < length stamps = (let q = t.same in omega arith) in let g : get_or (set stamps k (clock + 2)) m 0 ≡ clock + 2 = subst (λ (z : ℕ). get_or (set stamps k (clock + 2)) z 0 ≡ clock + 2) e (rw get_or-set_same refl) in (omega arith, omega arith)))
      (λ ne. let ne' : m ≢ k = λ z. ne (sym z) in let g : get_or (set stamps k (clock + 2)) m 0 ≡ get_or stamps m 0 = rw get_or-set_other refl in
      subst (λ (o : Option (List Mark)). IsAged (get_or (set stamps k (clock + 2)) m 0) (clock + 1) o) (sym (after_last-other m ms (releases k) (ne_eqb k m ne)))
      (subst (λ (z : ℕ). IsAged z (clock + 1) (pushed (releases k) (after_last m ms))) (sym g) (aged_release (get_or stamps m 0) clock k (after_last m ms) (t.aged m h))));
}

-- what the counters tell is residence
pub is_kept-tracks : (a : Ages) (ms : List Mark) (m : ℕ) → IsTracking a ms → m < length a.held.items → is_kept a m ≡ resident ms m
is_kept-tracks a ms m t lt = ap (λ (b : Bool). b && told a m) (lt-ltb m (length a.held.items) lt) ∙ sym (resident-tracks a.held.items a.stamps.items a.clock ms m t lt)
