-- The pairs that are started and not stopped are the live ones.
use Rattle.std.proofs.Common.{◌≡◌, ◌≢◌, ◌⊎◌, ℕ, ◌+◌, ◌<◌, ◌≤◌, eqb, Bool, true, false, not, ◌&&◌, ◌||◌, cond, List, [], ◌∷◌, ◌++◌, length, sym, refl, ap, ◌∙◌, subst, arith, Some, inl, inr, ⊎_elim, append-nil, append_assoc, length-append, map, true≢false, ne_eqb}
use mathlib.Core.Logic.{dite}
use native.Mathlib.Decide.{ℕ_discrete}
use Rattle.std.specs.List.{list_any}
use Rattle.runtime_histories.specs.Deeds.{Pair, same_pair, Act, act, Loaded, opens, rests, closes, Deeds, Desc, openings, names, closed, desc_at, live_for, pair_live, Mark, uses, releases, released, marks_of, marks_from, marks}
use Rattle.runtime_histories.specs.Fair.{times, pair_times, total, weight, Fair, IsBalanced, Agrees}
use Rattle.runtime_histories.proofs.Pairs.{eq-same, ne-same, same-eq, pair_dite}
use Rattle.runtime_histories.specs.Deeds.{IsIn as In}
use Rattle.runtime_histories.specs.Residence.{is_use, is_release, count}
use Rattle.runtime_histories.proofs.Basics.{or-false, In-append, openings-append, closed-append, any-append, any-same, any-in, number_range, number_once, pair_found}

not_true : (b : Bool) → (b ≡ true → ⊥) → b ≡ false
not_true true h = absurd (h refl)
not_true false h = refl

or_true : (a b : Bool) → (a || b) ≡ true → (a ≡ true) ⊎ (b ≡ true)
or_true true b e = inl refl
or_true false b e = inr e

abbrev without : Pair → List Pair → List Pair
without q [] = []
without q (p ∷ ps) = cond (same_pair p q) ps (p ∷ without q ps)

total-without : (w : Pair → ℕ) (q : Pair) (ps : List Pair) → 0 < pair_times q ps → total w ps ≡ w q + total w (without q ps)
total-without w q [] h = absurd (omega arith)
total-without w q (p ∷ ps) h = pair_dite p q
    (λ (e : p ≡ q). let P : Bool → Type 0 = λ b. w p + total w ps ≡ w q + total w (cond b ps (p ∷ without q ps)) in subst P (sym (eq-same p q e)) (ap (λ (z : Pair). w z + total w ps) e))
    (λ ne. let P : Bool → Type 0 = λ b. w p + total w ps ≡ w q + total w (cond b ps (p ∷ without q ps)) in
    let h' : 0 < pair_times q ps = (let z = subst (λ (b : Bool). 0 < cond b 1 0 + pair_times q ps) (ne-same p q ne) h in omega arith) in
    subst P (sym (ne-same p q ne)) (let r = total-without w q ps h' in omega arith))

times-without : (q : Pair) (ps : List Pair) → 0 < pair_times q ps → pair_times q (without q ps) + 1 ≡ pair_times q ps
times-without q [] h = absurd (omega arith)
times-without q (p ∷ ps) h = pair_dite p q
    (λ (e : p ≡ q). let P : Bool → Type 0 = λ b. pair_times q (cond b ps (p ∷ without q ps)) + 1 ≡ cond b 1 0 + pair_times q ps in subst P (sym (eq-same p q e)) (omega arith))
    (λ ne. let P : Bool → Type 0 = λ b. pair_times q (cond b ps (p ∷ without q ps)) + 1 ≡ cond b 1 0 + pair_times q ps in
    let z : 0 < 0 + pair_times q ps = subst (λ (b : Bool). 0 < cond b 1 0 + pair_times q ps) (ne-same p q ne) h in
    let c : pair_times q (p ∷ without q ps) ≡ pair_times q (without q ps) = subst (λ (b : Bool). cond b 1 0 + pair_times q (without q ps) ≡ pair_times q (without q ps)) (sym (ne-same p q ne)) (omega arith) in
    subst P (sym (ne-same p q ne)) (let r = times-without q ps (omega arith) in omega arith))

times-other : (q r : Pair) (ps : List Pair) → r ≢ q → pair_times r (without q ps) ≡ pair_times r ps
times-other q r [] ne = refl
times-other q r (p ∷ ps) ne = pair_dite p q
    (λ (e : p ≡ q). let P : Bool → Type 0 = λ b. pair_times r (cond b ps (p ∷ without q ps)) ≡ cond (same_pair p r) 1 0 + pair_times r ps in
    subst P (sym (eq-same p q e)) (subst (λ (b : Bool). pair_times r ps ≡ cond b 1 0 + pair_times r ps) (sym (ne-same p r (λ z. ne (sym z ∙ e)))) (omega arith)))
    (λ n. let P : Bool → Type 0 = λ b. pair_times r (cond b ps (p ∷ without q ps)) ≡ cond (same_pair p r) 1 0 + pair_times r ps in
    subst P (sym (ne-same p q n)) (ap (λ (z : ℕ). cond (same_pair p r) 1 0 + z) (times-other q r ps ne)))

pub marks-append : (a xs ys : Deeds) → marks_from a (xs ++ ys) ≡ marks_from a xs ++ marks_from (a ++ xs) ys
marks-append a [] ys = ap (λ (z : Deeds). marks_from z ys) (sym (append-nil a))
marks-append a (x ∷ xs) ys = ap (λ (z : List Mark). marks_of a x.caller x.deed ++ z) (marks-append (a ++ x ∷ []) xs ys ∙ ap (λ (z : Deeds). marks_from (a ++ x ∷ []) xs ++ marks_from z ys) (append_assoc a (x ∷ []) xs))
    ∙ sym (append_assoc (marks_of a x.caller x.deed) (marks_from (a ++ x ∷ []) xs) (marks_from (a ++ x ∷ xs) ys))

count-append : (p : Mark → Bool) (xs ys : List Mark) → count p (xs ++ ys) ≡ count p xs + count p ys
count-append p [] ys = omega arith
count-append p (x ∷ xs) ys = let h = count-append p xs ys in omega arith

used-uses : (m : ℕ) (xs : List ℕ) → count (is_use m) (map uses xs) ≡ times m xs
used-uses m [] = refl
used-uses m (x ∷ xs) = ap (λ (z : ℕ). cond (eqb x m) 1 0 + z) (used-uses m xs)

released-uses : (m : ℕ) (xs : List ℕ) → count (is_release m) (map uses xs) ≡ 0
released-uses m [] = refl
released-uses m (x ∷ xs) = let h = released-uses m xs in omega arith

used-releases : (m : ℕ) (xs : List ℕ) → count (is_use m) (map releases xs) ≡ 0
used-releases m [] = refl
used-releases m (x ∷ xs) = let h = used-releases m xs in omega arith

released-releases : (m : ℕ) (xs : List ℕ) → count (is_release m) (map releases xs) ≡ times m xs
released-releases m [] = refl
released-releases m (x ∷ xs) = ap (λ (z : ℕ). cond (eqb x m) 1 0 + z) (released-releases m xs)

-- one event more, with these marks
weigh_step : (route : Pair → List ℕ) (b : Deeds) (e : Act) (ps ps' : List Pair) (ks : List Mark) → marks_of b e.caller e.deed ≡ ks → ((m : ℕ) → count (is_use m) (marks b) ≡ count (is_release m) (marks b) + total (weight route m) ps)
    → ((m : ℕ) → total (weight route m) ps + count (is_use m) ks ≡ count (is_release m) ks + total (weight route m) ps')
    → (m : ℕ) → count (is_use m) (marks (b ++ e ∷ [])) ≡ count (is_release m) (marks (b ++ e ∷ [])) + total (weight route m) ps'
weigh_step route b e ps ps' ks is old new m =
    let all : marks_from [] (b ++ e ∷ []) ≡ marks_from [] b ++ ks = marks-append [] b (e ∷ []) ∙ ap (λ (z : List Mark). marks_from [] b ++ z) (append-nil (marks_of b e.caller e.deed) ∙ is) in
    let P : List Mark → Type 0 = λ z. count (is_use m) z ≡ count (is_release m) z + total (weight route m) ps' in
    let a = count-append (is_use m) (marks_from [] b) ks in let c = count-append (is_release m) (marks_from [] b) ks in let o = old m in let n = new m in subst P (sym all) (omega arith)

-- the openings with one deed more that opens nothing
agree_same : (route : Pair → List ℕ) (b : Deeds) (e : Act) → openings 0 (b ++ e ∷ []) ≡ openings 0 b → ((d : Desc) → In d (openings 0 b) → d.modules ≡ route d.pair) → (d : Desc) → In d (openings 0 (b ++ e ∷ [])) → d.modules ≡ route d.pair
agree_same route b e is old d h = old d (subst (λ (z : List Desc). In d z) is h)

agree_more : (route : Pair → List ℕ) (b : Deeds) (c : ℕ) (p : Pair) (ms : List ℕ) (l : List Loaded) → ms ≡ route p → ((d : Desc) → In d (openings 0 b) → d.modules ≡ route d.pair) → (d : Desc) → In d (openings 0 (b ++ act c (opens p ms l) ∷ [])) → d.modules ≡ route d.pair
agree_more route b c p ms l is old d h = ⊎_elim (λ z. old d z)
    (λ z. ⊎_elim (λ (e : record { number = 0 + length b; caller = c; pair = p; modules = ms } ≡ d). subst (λ (y : Desc). y.modules ≡ route y.pair) e is) (λ y. absurd y) z)
    (In-append d (openings 0 b) (openings (0 + length b) (act c (opens p ms l) ∷ [])) (subst (λ (z : List Desc). In d z) (openings-append 0 b (act c (opens p ms l) ∷ [])) h))

module _ (route : Pair → List ℕ) (b : Deeds) (fair : Fair route b) where
  pub no_more : (e : Act) → ((k : ℕ) → names k e.deed ≡ false) → (k : ℕ) → closed k (b ++ e ∷ []) ≡ closed k b
  no_more e none k = closed-append k b (e ∷ []) ∙ (ap (λ (z : Bool). closed k b || (z || false)) (none k) ∙ or-false (closed k b))

  fresh : closed (length b) b ≡ false
  fresh = not_true (closed (length b) b) (λ e. let h = fair.low (length b) e in omega arith)

  live_opening : (c : ℕ) (p : Pair) (ms : List ℕ) (l : List Loaded) (q : Pair) → pair_live (b ++ act c (opens p ms l) ∷ []) q ≡ (pair_live b q || same_pair p q)
  live_opening c p ms l q =
      let e : Act = act c (opens p ms l) in let same = no_more e (λ k. refl) in let d : Desc = record { number = 0 + length b; caller = c; pair = p; modules = ms } in
      let at : length b ≡ 0 + length b = omega arith in
      ap (list_any (live_for (b ++ e ∷ []) q)) (openings-append 0 b (e ∷ [])) ∙ (any-append (live_for (b ++ e ∷ []) q) (openings 0 b) (d ∷ []) ∙
      (λ i. any-same (live_for (b ++ e ∷ []) q) (live_for b q) (openings 0 b) (λ x _. ap (λ (z : Bool). same_pair x.pair q && not z) (same x.number)) i || last e d (same (0 + length b) ∙ (ap (λ (z : ℕ). closed z b) (sym at) ∙ fresh)) i))
    where
      and-true : (x : Bool) → (x && true) ≡ x
      and-true true = refl
      and-true false = refl

      last : (e : Act) (d : Desc) → closed d.number (b ++ e ∷ []) ≡ false → (live_for (b ++ e ∷ []) q d || false) ≡ same_pair d.pair q
      last e d h = or-false (live_for (b ++ e ∷ []) q d) ∙ (ap (λ (z : Bool). same_pair d.pair q && not z) h ∙ and-true (same_pair d.pair q))

  live_refused : (c : ℕ) (q : Pair) → pair_live (b ++ act c (rests) ∷ []) q ≡ pair_live b q
  live_refused c q = let e : Act = act c (rests) in let same = no_more e (λ k. refl) in
      ap (list_any (live_for (b ++ e ∷ []) q)) (openings-append 0 b (e ∷ []) ∙ append-nil (openings 0 b)) ∙ any-same (live_for (b ++ e ∷ []) q) (live_for b q) (openings 0 b) (λ x _. ap (λ (z : Bool). same_pair x.pair q && not z) (same x.number))

  -- a closes changes nothing of other descriptors
  pub others_stay : (c : ℕ) (d x : Desc) → In d (openings 0 b) → In x (openings 0 b) → x.number ≢ d.number → closed x.number (b ++ act c (closes d.number) ∷ []) ≡ closed x.number b
  others_stay c d x in_d in_x ne = closed-append x.number b (act c (closes d.number) ∷ []) ∙ (ap (λ (z : Bool). closed x.number b || (z || false)) (ne_eqb d.number x.number (λ z. ne (sym z))) ∙ or-false (closed x.number b))

  live_closing : (c : ℕ) (d : Desc) (q : Pair) → In d (openings 0 b) → q ≢ d.pair → pair_live (b ++ act c (closes d.number) ∷ []) q ≡ pair_live b q
  live_closing c d q in_d ne = let e : Act = act c (closes d.number) in
      ap (list_any (live_for (b ++ e ∷ []) q)) (openings-append 0 b (e ∷ []) ∙ append-nil (openings 0 b)) ∙ any-same (live_for (b ++ e ∷ []) q) (live_for b q) (openings 0 b)
      (λ x in_x. dite (ℕ_discrete x.number d.number) (λ z. let f : same_pair x.pair q ≡ false = ne-same x.pair q (λ y. ne (sym y ∙ ap (λ (v : Desc). v.pair) (number_once x d 0 b in_x in_d z))) in
      ap (λ (v : Bool). v && not (closed x.number (b ++ e ∷ []))) f ∙ sym (ap (λ (v : Bool). v && not (closed x.number b)) f))
      (λ z. ap (λ (v : Bool). same_pair x.pair q && not v) (others_stay c d x in_d in_x z)))

  pub live_pair : (d : Desc) → In d (openings 0 b) → closed d.number b ≡ false → pair_live b d.pair ≡ true
  live_pair d in_d unclosed = any-in (live_for b d.pair) d (openings 0 b) in_d (ap (λ (v : Bool). v && not (closed d.number b)) (eq-same d.pair d.pair refl) ∙ ap not unclosed)

  fair_opening_live : (c : ℕ) (p : Pair) (ms : List ℕ) (l : List Loaded) → ms ≡ route p → pair_live b p ≡ true → Fair route (b ++ act c (opens p ms l) ∷ [])
  fair_opening_live c p ms l is live = let e : Act = act c (opens p ms l) in record {
    low = λ k h. let z = fair.low k (sym (no_more e (λ j. refl) k) ∙ h) in let s = length-append b (e ∷ []) in omega arith;
    agree = agree_more route b c p ms l is fair.agree;
    ps = fair.ps;
    weigh = weigh_step route b e fair.ps fair.ps [] (ap (λ (z : Bool). cond z [] (map uses ms)) live) fair.weigh (λ w. omega arith);
    counts = λ q. fair.counts q ∙ ap (λ (z : Bool). cond z 1 0) (sym (live_opening c p ms l q ∙ pair_dite p q
        (λ (z : p ≡ q). let f : pair_live b q ≡ true = ap (pair_live b) (sym z) ∙ live in ap (λ (v : Bool). v || same_pair p q) f ∙ sym f)
        (λ ne. ap (λ (v : Bool). pair_live b q || v) (ne-same p q ne) ∙ or-false (pair_live b q))));
  }

  fair_opening_new : (c : ℕ) (p : Pair) (ms : List ℕ) (l : List Loaded) → ms ≡ route p → pair_live b p ≡ false → Fair route (b ++ act c (opens p ms l) ∷ [])
  fair_opening_new c p ms l is dead = let e : Act = act c (opens p ms l) in record {
    low = λ k h. let z = fair.low k (sym (no_more e (λ j. refl) k) ∙ h) in let s = length-append b (e ∷ []) in omega arith;
    agree = agree_more route b c p ms l is fair.agree;
    ps = p ∷ fair.ps;
    weigh = weigh_step route b e fair.ps (p ∷ fair.ps) (map uses ms) (ap (λ (z : Bool). cond z [] (map uses ms)) dead) fair.weigh
        (λ m. let u = used-uses m ms in let r = released-uses m ms in let w : times m ms ≡ weight route m p = ap (times m) is in omega arith);
    counts = λ q. pair_dite p q
        (λ (z : p ≡ q). let f : pair_live b q ≡ false = ap (pair_live b) (sym z) ∙ dead in let y : same_pair p q ≡ true = eq-same p q z in
        ap (λ (v : Bool). cond v 1 0 + pair_times q fair.ps) y ∙ (ap (λ (v : ℕ). 1 + v) (fair.counts q ∙ ap (λ (v : Bool). cond v 1 0) f) ∙ ap (λ (v : Bool). cond v 1 0) (sym (live_opening c p ms l q ∙ (ap (λ (v : Bool). v || same_pair p q) f ∙ y)))))
        (λ ne. let y : same_pair p q ≡ false = ne-same p q ne in ap (λ (v : Bool). cond v 1 0 + pair_times q fair.ps) y ∙ (zero-plus (pair_times q fair.ps) ∙ (fair.counts q ∙ ap (λ (v : Bool). cond v 1 0) (sym (live_opening c p ms l q ∙ (ap (λ (v : Bool). pair_live b q || v) y ∙ or-false (pair_live b q)))))));
  }
    where
      zero-plus : (n : ℕ) → 0 + n ≡ n
      zero-plus n = omega arith

  fair_refused : (c : ℕ) → Fair route (b ++ act c (rests) ∷ [])
  fair_refused c = let e : Act = act c (rests) in record {
    low = λ k h. let z = fair.low k (sym (no_more e (λ j. refl) k) ∙ h) in let s = length-append b (e ∷ []) in omega arith;
    agree = agree_same route b e (openings-append 0 b (e ∷ []) ∙ append-nil (openings 0 b)) fair.agree;
    ps = fair.ps;
    weigh = weigh_step route b e fair.ps fair.ps [] refl fair.weigh (λ w. omega arith);
    counts = λ q. fair.counts q ∙ ap (λ (z : Bool). cond z 1 0) (sym (live_refused c q));
  }

  low_closing : (c : ℕ) (d : Desc) → In d (openings 0 b) → (k : ℕ) → closed k (b ++ act c (closes d.number) ∷ []) ≡ true → k < length (b ++ act c (closes d.number) ∷ [])
  low_closing c d in_d k h = let e : Act = act c (closes d.number) in let s = length-append b (e ∷ []) in
      ⊎_elim (λ z. let y = fair.low k z in omega arith) (λ z. dite (ℕ_discrete d.number k) (λ y. let r = number_range d 0 b in_d in let r1 = r.1 in omega arith) (λ ne. absurd (true≢false (sym z ∙ (or-false (eqb d.number k) ∙ ne_eqb d.number k ne)))))
      (or_true (closed k b) (closed k (e ∷ [])) (sym (closed-append k b (e ∷ [])) ∙ h))

  pub found_pair : (d : Desc) → In d (openings 0 b) → desc_at d.number (openings 0 b) ≡ Some d
  found_pair d in_d = pair_found d (openings 0 b) in_d (λ f in_f same. number_once f d 0 b in_f in_d same)

  fair_closing : (c : ℕ) (d : Desc) → In d (openings 0 b) → closed d.number b ≡ false → (x : Bool) → pair_live (b ++ act c (closes d.number) ∷ []) d.pair ≡ x → Fair route (b ++ act c (closes d.number) ∷ [])
  fair_closing c d in_d unclosed true now = let e : Act = act c (closes d.number) in record {
    low = low_closing c d in_d;
    agree = agree_same route b e (openings-append 0 b (e ∷ []) ∙ append-nil (openings 0 b)) fair.agree;
    ps = fair.ps;
    weigh = weigh_step route b e fair.ps fair.ps [] (ap (released (b ++ e ∷ [])) (found_pair d in_d) ∙ ap (λ (z : Bool). cond z [] (map releases d.modules)) now) fair.weigh (λ w. omega arith);
    counts = λ q. fair.counts q ∙ ap (λ (z : Bool). cond z 1 0) (pair_dite q d.pair
        (λ (z : q ≡ d.pair). ap (pair_live b) z ∙ (live_pair d in_d unclosed ∙ (sym now ∙ ap (pair_live (b ++ e ∷ [])) (sym z)))) (λ ne. sym (live_closing c d q in_d ne)));
  }
  fair_closing c d in_d unclosed false now = let e : Act = act c (closes d.number) in let one : pair_times d.pair fair.ps ≡ 1 = fair.counts d.pair ∙ ap (λ (z : Bool). cond z 1 0) (live_pair d in_d unclosed) in record {
    low = low_closing c d in_d;
    agree = agree_same route b e (openings-append 0 b (e ∷ []) ∙ append-nil (openings 0 b)) fair.agree;
    ps = without d.pair fair.ps;
    weigh = weigh_step route b e fair.ps (without d.pair fair.ps) (map releases d.modules) (ap (released (b ++ e ∷ [])) (found_pair d in_d) ∙ ap (λ (z : Bool). cond z [] (map releases d.modules)) now) fair.weigh
        (λ m. let t = total-without (weight route m) d.pair fair.ps (omega arith) in let u = used-releases m d.modules in let r = released-releases m d.modules in let w : times m d.modules ≡ weight route m d.pair = ap (times m) (fair.agree d in_d) in omega arith);
    counts = λ q. pair_dite q d.pair
        (λ (z : q ≡ d.pair). ap (λ (v : Pair). pair_times v (without d.pair fair.ps)) z ∙ (gone (times-without d.pair fair.ps (omega arith)) one ∙ ap (λ (v : Bool). cond v 1 0) (sym now ∙ ap (pair_live (b ++ e ∷ [])) (sym z))))
        (λ ne. times-other d.pair q fair.ps ne ∙ (fair.counts q ∙ ap (λ (v : Bool). cond v 1 0) (sym (live_closing c d q in_d ne))));
  }
    where
      gone : {x y : ℕ} → x + 1 ≡ y → y ≡ 1 → x ≡ 0
      gone a h = omega arith

  -- a module of a live pair is used more often than released
  pub held : (d : Desc) (m : ℕ) → In d (openings 0 b) → closed d.number b ≡ false → count (is_release m) (marks b) + times m d.modules ≤ count (is_use m) (marks b)
  held d m in_d unclosed = let one : pair_times d.pair fair.ps ≡ 1 = fair.counts d.pair ∙ ap (λ (z : Bool). cond z 1 0) (live_pair d in_d unclosed) in
      let t = total-without (weight route m) d.pair fair.ps (omega arith) in let h = fair.weigh m in let w : times m d.modules ≡ weight route m d.pair = ap (times m) (fair.agree d in_d) in omega arith

  pub fair_opens : (c : ℕ) (p : Pair) (ms : List ℕ) (l : List Loaded) → ms ≡ route p → Fair route (b ++ act c (opens p ms l) ∷ [])
  fair_opens c p ms l is = go (pair_live b p) refl
    where
      go : (x : Bool) → pair_live b p ≡ x → Fair route (b ++ act c (opens p ms l) ∷ [])
      go true e = fair_opening_live c p ms l is e
      go false e = fair_opening_new c p ms l is e

  pub fair_rests : (c : ℕ) → Fair route (b ++ act c (rests) ∷ [])
  fair_rests c = fair_refused c

  pub fair_closes : (c : ℕ) (d : Desc) → In d (openings 0 b) → closed d.number b ≡ false → Fair route (b ++ act c (closes d.number) ∷ [])
  fair_closes c d in_d unclosed = fair_closing c d in_d unclosed (pair_live (b ++ act c (closes d.number) ∷ []) d.pair) refl

pub fair_first : (route : Pair → List ℕ) → Fair route []
fair_first route = record { low = λ k h. absurd (true≢false (sym h)); agree = λ d h. absurd h; ps = []; weigh = λ w. omega arith; counts = λ q. refl }

-- a list without a pair weighs the same by other modules of that pair
total-other : (w v : Pair → ℕ) (p : Pair) (ps : List Pair) → pair_times p ps ≡ 0 → ((q : Pair) → q ≢ p → w q ≡ v q) → total w ps ≡ total v ps
total-other w v p [] none same = refl
total-other w v p (q ∷ ps) none same = pair_dite q p
    (λ (z : q ≡ p). let one : 1 + pair_times p ps ≡ 0 = ap (λ (b : Bool). cond b 1 0 + pair_times p ps) (sym (eq-same q p z)) ∙ none in absurd (omega arith))
    (λ ne. let rest : pair_times p ps ≡ 0 = (let k : 0 + pair_times p ps ≡ 0 = ap (λ (b : Bool). cond b 1 0 + pair_times p ps) (sym (ne-same q p ne)) ∙ none in omega arith) in
    let h = same q ne in let r = total-other w v p ps rest same in omega arith)

abbrev with_route : (Pair → List ℕ) → Pair → List ℕ → Pair → List ℕ
with_route route p ms q = cond (same_pair q p) ms (route q)

route-other : (route : Pair → List ℕ) (p : Pair) (ms : List ℕ) (q : Pair) → q ≢ p → with_route route p ms q ≡ route q
route-other route p ms q ne = ap (λ (b : Bool). cond b ms (route q)) (ne-same q p ne)

route-same : (route : Pair → List ℕ) (p : Pair) (ms : List ℕ) (q : Pair) → q ≡ p → with_route route p ms q ≡ ms
route-same route p ms q e = ap (λ (b : Bool). cond b ms (route q)) (eq-same q p e)

-- whether a pair was ever opened
ever : Deeds → Pair → Bool
ever b p = list_any (λ (d : Desc). same_pair d.pair p) (openings 0 b)

found_in : (p : Pair) (ds : List Desc) → list_any (λ (d : Desc). same_pair d.pair p) ds ≡ true → (d : Desc) × In d ds × (d.pair ≡ p)
found_in p [] e = absurd (true≢false (sym e))
found_in p (d ∷ ds) e = ⊎_elim (λ z. (d, inl refl, same-eq d.pair p z)) (λ z. let r = found_in p ds z in (r.0, inr r.1, r.2)) (or_true (same_pair d.pair p) (list_any (λ (d : Desc). same_pair d.pair p) ds) e)

-- a pair that was never opened has no live descriptor
never_live : (b : Deeds) (p : Pair) (ds : List Desc) → list_any (λ (d : Desc). same_pair d.pair p) ds ≡ false → list_any (live_for b p) ds ≡ false
never_live b p [] e = refl
never_live b p (d ∷ ds) e = go (same_pair d.pair p) (list_any (λ (d : Desc). same_pair d.pair p) ds) e (never_live b p ds)
  where
    go : (x y : Bool) → (x || y) ≡ false → (y ≡ false → list_any (live_for b p) ds ≡ false) → ((x && not (closed d.number b)) || list_any (live_for b p) ds) ≡ false
    go true y e rec = absurd (true≢false e)
    go false y e rec = rec e

fair_route : (route : Pair → List ℕ) (b : Deeds) (p : Pair) (ms : List ℕ) → ever b p ≡ false → Fair route b → Fair (with_route route p ms) b
unfolding ever
fair_route route b p ms never fair =
    let none : pair_times p fair.ps ≡ 0 = fair.counts p ∙ ap (λ (z : Bool). cond z 1 0) (never_live b p (openings 0 b) never) in record {
      low = fair.low;
      agree = λ d h. fair.agree d h ∙ sym (route-other route p ms d.pair (λ z. true≢false (sym (any-in (λ (d : Desc). same_pair d.pair p) d (openings 0 b) h (eq-same d.pair p z)) ∙ never)));
      ps = fair.ps;
      weigh = λ m. fair.weigh m ∙ ap (λ (z : ℕ). count (is_release m) (marks b) + z) (total-other (weight route m) (weight (with_route route p ms) m) p fair.ps none (λ q ne. ap (times m) (sym (route-other route p ms q ne))));
      counts = fair.counts;
    }

-- an opening of modules that the pair has had
pub balanced_opens : (b : Deeds) → IsBalanced b → (c : ℕ) (p : Pair) (ms : List ℕ) (l : List Loaded) → Agrees b p ms → IsBalanced (b ++ act c (opens p ms l) ∷ [])
unfolding ever
balanced_opens b h c p ms l agrees = go (ever b p) refl
  where
    go : (x : Bool) → ever b p ≡ x → IsBalanced (b ++ act c (opens p ms l) ∷ [])
    go true e = let f = found_in p (openings 0 b) e in record { route = h.route; fair = fair_opens h.route b h.fair c p ms l (sym (agrees f.0 f.1 f.2) ∙ (h.fair.agree f.0 f.1 ∙ ap h.route f.2)) }
    go false e = record { route = with_route h.route p ms; fair = fair_opens (with_route h.route p ms) b (fair_route h.route b p ms e h.fair) c p ms l (sym (route-same h.route p ms p refl)) }

pub balanced_rests : (b : Deeds) → IsBalanced b → (c : ℕ) → IsBalanced (b ++ act c rests ∷ [])
balanced_rests b h c = record { route = h.route; fair = fair_rests h.route b h.fair c }

pub balanced_closes : (b : Deeds) → IsBalanced b → (c : ℕ) (d : Desc) → In d (openings 0 b) → closed d.number b ≡ false → IsBalanced (b ++ act c (closes d.number) ∷ [])
balanced_closes b h c d in_d unclosed = record { route = h.route; fair = fair_closes h.route b h.fair c d in_d unclosed }

pub balanced_first : IsBalanced []
balanced_first = record { route = λ q. []; fair = fair_first (λ q. []) }
