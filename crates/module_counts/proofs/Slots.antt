-- Slots with live descriptors, and how many of these each pair has.
use Rattle.std.proofs.Common.{◌≡◌, ◌≢◌, ℕ, zero, suc, ◌+◌, ◌-◌, ◌<◌, ◌≤◌, eqb, Bool, true, false, not, ◌&&◌, ◌||◌, cond, List, [], ◌∷◌, ◌++◌, length, get_or, set, nat_lt, sym, refl, ap, ◌∙◌, subst, arith, Option, Some, None, eq-eqb, ne_eqb, true≢false}
use Rattle.std.proofs.lemmas.Grind.{common_steps}
use Rattle.std.proofs.lemmas.Bool.{lt-ltb}
use Rattle.std.proofs.lemmas.Option.{same_Some}
use Rattle.std.specs.List.{filter, list_any}
use Rattle.module_counts.specs.declared.lives.Live.{Live}
use Rattle.module_counts.specs.declared.lives.Key.{Key}
use Rattle.runtime_histories.specs.Deeds.{Pair, same_pair}
use Rattle.runtime_histories.proofs.Pairs.{eq-same, same-eq}
use Rattle.module_counts.specs.Lives.{pair_shown, pair_of, key_eq, somes, count_of, IsSlot, AreSlots, AreLives}

pub somes-append : (ss ts : List (Option Live)) → somes (ss ++ ts) ≡ somes ss ++ somes ts
somes-append [] ts = refl
somes-append (None ∷ ss) ts = somes-append ss ts
somes-append (Some x ∷ ss) ts = ap (λ (z : List Live). x ∷ z) (somes-append ss ts)

slots-append : (k : ℕ) (ss : List (Option Live)) (s : Option Live) → AreSlots k ss → IsSlot (k + length ss) s → AreSlots k (ss ++ s ∷ [])
slots-append k [] s h e = (subst (λ (n : ℕ). IsSlot n s) (let r : k + 0 ≡ k = omega arith in r) e, tt)
slots-append k (x ∷ ss) s h e = (h.0, slots-append (suc k) ss s h.1 (subst (λ (n : ℕ). IsSlot n s) (let r : k + suc (length ss) ≡ suc k + length ss = omega arith in r) e))

-- The number is none of the slots'.
abbrev Apart : ℕ → List (Option Live) → ℕ → Type 0
Apart k ss n = (j : ℕ) → k ≤ j → j < k + length ss → j ≢ n

apart_tail : (k : ℕ) (s : Option Live) (ss : List (Option Live)) (n : ℕ) → Apart k (s ∷ ss) n → Apart (suc k) ss n
apart_tail k s ss n a j le lt = a j (omega arith) (omega arith)

filter_apart : (k : ℕ) (ss : List (Option Live)) (n : ℕ) → AreSlots k ss → Apart k ss n → filter (λ (x : Live). not (eqb x.number n)) (somes ss) ≡ somes ss
filter_apart k [] n h a = refl
filter_apart k (None ∷ ss) n h a = filter_apart (suc k) ss n h.1 (apart_tail k None ss n a)
filter_apart k (Some x ∷ ss) n h a =
    let ne : eqb x.number n ≡ false = ne_eqb x.number n (λ e. a k (omega arith) (omega arith) (sym h.0 ∙ e)) in
    (λ i. cond (not (ne i)) (x ∷ filter (λ (y : Live). not (eqb y.number n)) (somes ss)) (filter (λ (y : Live). not (eqb y.number n)) (somes ss)))
    ∙ ap (λ (z : List Live). x ∷ z) (filter_apart (suc k) ss n h.1 (apart_tail k (Some x) ss n a))

any_apart : (k : ℕ) (ss : List (Option Live)) (n c : ℕ) → AreSlots k ss → Apart k ss n → list_any (λ (x : Live). eqb x.number n && eqb x.caller c) (somes ss) ≡ false
any_apart k [] n c h a = refl
any_apart k (None ∷ ss) n c h a = any_apart (suc k) ss n c h.1 (apart_tail k None ss n a)
any_apart k (Some x ∷ ss) n c h a =
    let ne : eqb x.number n ≡ false = ne_eqb x.number n (λ e. a k (omega arith) (omega arith) (sym h.0 ∙ e)) in
    (λ i. (ne i && eqb x.caller c) || list_any (λ (y : Live). eqb y.number n && eqb y.caller c) (somes ss))
    ∙ any_apart (suc k) ss n c h.1 (apart_tail k (Some x) ss n a)

-- An emptied slot leaves its descriptor out.
somes-set_from : (k : ℕ) (ss : List (Option Live)) (i : ℕ) → AreSlots k ss → i < length ss → somes (set ss i None) ≡ filter (λ (x : Live). not (eqb x.number (k + i))) (somes ss)
somes-set_from k [] i h lt = absurd (omega arith)
somes-set_from k (None ∷ ss) zero h lt = sym (filter_apart (suc k) ss (k + 0) h.1 (λ j le l e. absurd (omega arith)))
somes-set_from k (Some x ∷ ss) zero h lt =
    let is : eqb x.number (k + 0) ≡ true = eq-eqb x.number (k + 0) (h.0 ∙ (let r : k ≡ k + 0 = omega arith in r)) in
    sym ((λ i. cond (not (is i)) (x ∷ filter (λ (y : Live). not (eqb y.number (k + 0))) (somes ss)) (filter (λ (y : Live). not (eqb y.number (k + 0))) (somes ss)))
    ∙ filter_apart (suc k) ss (k + 0) h.1 (λ j le l e. absurd (omega arith)))
somes-set_from k (None ∷ ss) (suc i) h lt =
    subst (λ (n : ℕ). somes (set ss i None) ≡ filter (λ (x : Live). not (eqb x.number n)) (somes ss)) (let r : suc k + i ≡ k + suc i = omega arith in r) (somes-set_from (suc k) ss i h.1 (omega arith))
somes-set_from k (Some x ∷ ss) (suc i) h lt =
    let rest : somes (set ss i None) ≡ filter (λ (y : Live). not (eqb y.number (k + suc i))) (somes ss) =
    subst (λ (n : ℕ). somes (set ss i None) ≡ filter (λ (y : Live). not (eqb y.number n)) (somes ss)) (let r : suc k + i ≡ k + suc i = omega arith in r) (somes-set_from (suc k) ss i h.1 (omega arith)) in
    let ne : eqb x.number (k + suc i) ≡ false = ne_eqb x.number (k + suc i) (λ e. let q = h.0 in absurd (omega arith)) in
    ap (λ (z : List Live). x ∷ z) rest
    ∙ sym (λ i'. cond (not (ne i')) (x ∷ filter (λ (y : Live). not (eqb y.number (k + suc i))) (somes ss)) (filter (λ (y : Live). not (eqb y.number (k + suc i))) (somes ss)))

pub somes-set : (ss : List (Option Live)) (i : ℕ) → AreSlots 0 ss → i < length ss → somes (set ss i None) ≡ filter (λ (x : Live). not (eqb x.number i)) (somes ss)
somes-set ss i h lt = subst (λ (n : ℕ). somes (set ss i None) ≡ filter (λ (x : Live). not (eqb x.number n)) (somes ss)) (let r : 0 + i ≡ i = omega arith in r) (somes-set_from 0 ss i h lt)

-- A number that has no slot is none of a live descriptor.
pub somes_past : (ss : List (Option Live)) (i : ℕ) → AreSlots 0 ss → length ss ≤ i → somes ss ≡ filter (λ (x : Live). not (eqb x.number i)) (somes ss)
somes_past ss i h le = sym (filter_apart 0 ss i h (λ j a b e. absurd (omega arith)))

-- The slot has a descriptor of the caller.
abbrev pub has_caller : ℕ → Option Live → Bool
has_caller c None = false
has_caller c (Some x) = eqb x.caller c

any_from : (k : ℕ) (ss : List (Option Live)) (i c : ℕ) → AreSlots k ss → list_any (λ (x : Live). eqb x.number (k + i) && eqb x.caller c) (somes ss) ≡ has_caller c (get_or ss i None)
any_from k [] i c h = refl
any_from k (None ∷ ss) zero c h = any_apart (suc k) ss (k + 0) c h.1 (λ j le l e. absurd (omega arith))
any_from k (Some x ∷ ss) zero c h =
    let is : eqb x.number (k + 0) ≡ true = eq-eqb x.number (k + 0) (h.0 ∙ (let r : k ≡ k + 0 = omega arith in r)) in
    let rest = any_apart (suc k) ss (k + 0) c h.1 (λ j le l e. absurd (omega arith)) in
    (λ i. (is i && eqb x.caller c) || rest i) ∙ or_false (eqb x.caller c)
  where
    or_false : (b : Bool) → (b || false) ≡ b
    or_false true = refl
    or_false false = refl
any_from k (None ∷ ss) (suc i) c h =
    subst (λ (n : ℕ). list_any (λ (x : Live). eqb x.number n && eqb x.caller c) (somes ss) ≡ has_caller c (get_or ss i None)) (let r : suc k + i ≡ k + suc i = omega arith in r) (any_from (suc k) ss i c h.1)
any_from k (Some x ∷ ss) (suc i) c h =
    let rest = subst (λ (n : ℕ). list_any (λ (y : Live). eqb y.number n && eqb y.caller c) (somes ss) ≡ has_caller c (get_or ss i None)) (let r : suc k + i ≡ k + suc i = omega arith in r) (any_from (suc k) ss i c h.1) in
    let ne : eqb x.number (k + suc i) ≡ false = ne_eqb x.number (k + suc i) (λ e. let q = h.0 in absurd (omega arith)) in
    (λ i'. (ne i' && eqb x.caller c) || list_any (λ (y : Live). eqb y.number (k + suc i) && eqb y.caller c) (somes ss)) ∙ rest

-- A number and a caller are looked up in the number's slot.
pub any_slot : (ss : List (Option Live)) (i c : ℕ) → AreSlots 0 ss → list_any (λ (x : Live). eqb x.number i && eqb x.caller c) (somes ss) ≡ has_caller c (get_or ss i None)
any_slot ss i c h = subst (λ (n : ℕ). list_any (λ (x : Live). eqb x.number n && eqb x.caller c) (somes ss) ≡ has_caller c (get_or ss i None)) (let r : 0 + i ≡ i = omega arith in r) (any_from 0 ss i c h)

-- What is read of a slot that is there, whatever would be read past the last.
pub read_here : (ss : List (Option Live)) (i : ℕ) (d o : Option Live) → i < length ss → get_or ss i d ≡ o → get_or ss i None ≡ o
read_here [] i d o lt e = absurd (omega arith)
read_here (s ∷ ss) zero d o lt e = e
read_here (s ∷ ss) (suc i) d o lt e = read_here ss i d o (omega arith) e

-- A number that has no slot isn't found.
pub any_past : (ss : List (Option Live)) (i c : ℕ) → AreSlots 0 ss → length ss ≤ i → list_any (λ (x : Live). eqb x.number i && eqb x.caller c) (somes ss) ≡ false
any_past ss i c h le = any_apart 0 ss i c h (λ j a b e. absurd (omega arith))

-- A pair has a live descriptor where it has more than none.
pub any_count : (k : Key) (xs : List Live) → nat_lt 0 (count_of k xs) ≡ list_any (λ (x : Live). same_pair (pair_shown x) (pair_of k)) xs
any_count k [] = refl
any_count k (x ∷ xs) = go (same_pair (pair_shown x) (pair_of k)) (any_count k xs)
  where
    go : (b : Bool) → nat_lt 0 (count_of k xs) ≡ list_any (λ (x : Live). same_pair (pair_shown x) (pair_of k)) xs
        → nat_lt 0 (cond b 1 0 + count_of k xs) ≡ (b || list_any (λ (x : Live). same_pair (pair_shown x) (pair_of k)) xs)
    go true e = let r : nat_lt 0 (1 + count_of k xs) ≡ true = lt-ltb 0 (1 + count_of k xs) (omega arith) in r
    go false e = ap (nat_lt 0) (let r : 0 + count_of k xs ≡ count_of k xs = omega arith in r) ∙ e

count-append : (k : Key) (xs : List Live) (x : Live) → count_of k (xs ++ x ∷ []) ≡ cond (same_pair (pair_shown x) (pair_of k)) 1 0 + count_of k xs
count-append k [] x = refl
count-append k (y ∷ xs) x = let e = count-append k xs x in omega arith

pub count_least : (k : Key) (xs : List Live) → count_of k xs ≤ length xs
count_least k [] = omega arith
count_least k (x ∷ xs) = go (same_pair (pair_shown x) (pair_of k)) (count_least k xs)
  where
    go : (b : Bool) → count_of k xs ≤ length xs → cond b 1 0 + count_of k xs ≤ suc (length xs)
    go true e = omega arith
    go false e = omega arith

pub somes_least : (ss : List (Option Live)) → length (somes ss) ≤ length ss
somes_least [] = omega arith
somes_least (None ∷ ss) = let r = somes_least ss in omega arith
somes_least (Some x ∷ ss) = let r = somes_least ss in omega arith

none_some : (x : Live) → ◌≡◌ {A = Option Live} None (Some x) → ⊥
none_some x e = true≢false (sym (ap there e))
  where
    there : Option Live → Bool
    there None = false
    there (Some y) = true

-- An emptied slot takes one from its pair's count, and none from another's.
pub count-set : (k : Key) (ss : List (Option Live)) (i : ℕ) (x : Live) → get_or ss i None ≡ Some x → cond (same_pair (pair_shown x) (pair_of k)) 1 0 + count_of k (somes (set ss i None)) ≡ count_of k (somes ss)
count-set k [] i x e = absurd (none_some x e)
count-set k (None ∷ ss) zero x e = absurd (none_some x e)
count-set k (Some y ∷ ss) zero x e = ap (λ (z : Live). cond (same_pair (pair_shown z) (pair_of k)) 1 0 + count_of k (somes ss)) (sym (same_Some y x e))
count-set k (None ∷ ss) (suc i) x e = count-set k ss i x e
count-set k (Some y ∷ ss) (suc i) x e = let r = count-set k ss i x e in omega arith

pub length-set_some : (ss : List (Option Live)) (i : ℕ) (x : Live) → get_or ss i None ≡ Some x → 1 + length (somes (set ss i None)) ≡ length (somes ss)
length-set_some [] i x e = absurd (none_some x e)
length-set_some (None ∷ ss) zero x e = absurd (none_some x e)
length-set_some (Some y ∷ ss) zero x e = omega arith
length-set_some (None ∷ ss) (suc i) x e = length-set_some ss i x e
length-set_some (Some y ∷ ss) (suc i) x e = let r = length-set_some ss i x e in omega arith

slots-set : (k : ℕ) (ss : List (Option Live)) (i : ℕ) → AreSlots k ss → AreSlots k (set ss i None)
slots-set k [] i h = h
slots-set k (s ∷ ss) zero h = (tt, h.1)
slots-set k (s ∷ ss) (suc i) h = (h.0, slots-set (suc k) ss i h.1)

one_of : (b : Bool) → b ≡ true → ◌≡◌ {A = ℕ} (cond b 1 0) 1
one_of b e = ap (λ (z : Bool). cond {A = ℕ} z 1 0) e

none_of : (b : Bool) → b ≡ false → ◌≡◌ {A = ℕ} (cond b 1 0) 0
none_of b e = ap (λ (z : Bool). cond {A = ℕ} z 1 0) e

key_is : (a b : Key) → pair_of a ≡ pair_of b → a ≡ b
key_is a b e = (λ i. record { generation = (e i).generation; from = (e i).from; to = (e i).to })

-- An entry that opens nothing.
pub somes_skipped : (ss : List (Option Live)) → somes (ss ++ None ∷ []) ≡ somes ss
somes_skipped [] = refl
somes_skipped (None ∷ ss) = somes_skipped ss
somes_skipped (Some x ∷ ss) = ap (λ (z : List Live). x ∷ z) (somes_skipped ss)

pub lives_skip : (ss : List (Option Live)) (cs : Key → ℕ) (n : ℕ) → AreLives ss cs n → AreLives (ss ++ None ∷ []) cs n
lives_skip ss cs n h = let same : somes (ss ++ None ∷ []) ≡ somes ss = somes_skipped ss in record {
  numbered = slots-append 0 ss None h.numbered tt;
  counted = λ k. h.counted k ∙ ap (count_of k) (sym same);
  count_is = h.count_is ∙ ap length (sym same);
}

-- An opening.
pub lives_open : (ss : List (Option Live)) (cs ds : Key → ℕ) (n : ℕ) (x : Live) (key : Key) → AreLives ss cs n → x.number ≡ length ss → pair_shown x ≡ pair_of key
    → ((q : Key) → ds q ≡ cond (key_eq key q) (cs key + 1) (cs q)) → AreLives (ss ++ Some x ∷ []) ds (n + 1)
lives_open ss cs ds n x key h number pair counts = record {
  numbered = slots-append 0 ss (Some x) h.numbered (number ∙ (let r : length ss ≡ 0 + length ss = omega arith in r));
  counted = λ q. counts q ∙ (go q (key_eq key q) refl ∙ sym (ap (count_of q) (somes-append ss (Some x ∷ []))));
  count_is = (let e = h.count_is in let l : length (somes (ss ++ Some x ∷ [])) ≡ length (somes ss ++ x ∷ []) = ap length (somes-append ss (Some x ∷ [])) in grind (arith, common_steps));
}
  where
    go : (q : Key) (b : Bool) → key_eq key q ≡ b → cond b (cs key + 1) (cs q) ≡ count_of q (somes ss ++ x ∷ [])
    go q true e =
        let is : key ≡ q = key_is key q (same-eq (pair_of key) (pair_of q) e) in
        let test : same_pair (pair_shown x) (pair_of q) ≡ true = ap (λ (p : Pair). same_pair p (pair_of q)) pair ∙ e in
        let one = one_of (same_pair (pair_shown x) (pair_of q)) test in
        let a : cs key ≡ count_of q (somes ss) = h.counted key ∙ ap (λ (k : Key). count_of k (somes ss)) is in
        let l = count-append q (somes ss) x in omega arith
    go q false e =
        let test : same_pair (pair_shown x) (pair_of q) ≡ false = ap (λ (p : Pair). same_pair p (pair_of q)) pair ∙ e in
        let none = none_of (same_pair (pair_shown x) (pair_of q)) test in
        let a = h.counted q in
        let l = count-append q (somes ss) x in omega arith

-- A closing.
pub lives_close : (ss : List (Option Live)) (cs ds : Key → ℕ) (n i : ℕ) (x : Live) (key : Key) → AreLives ss cs n → get_or ss i None ≡ Some x → pair_shown x ≡ pair_of key
    → ((q : Key) → ds q ≡ cond (key_eq key q) (cs key - 1) (cs q)) → AreLives (set ss i None) ds (n - 1)
lives_close ss cs ds n i x key h at pair counts = record {
  numbered = slots-set 0 ss i h.numbered;
  counted = λ q. counts q ∙ go q (key_eq key q) refl;
  count_is = (let e = h.count_is in let l = length-set_some ss i x at in omega arith);
}
  where
    go : (q : Key) (b : Bool) → key_eq key q ≡ b → cond b (cs key - 1) (cs q) ≡ count_of q (somes (set ss i None))
    go q true e =
        let is : key ≡ q = key_is key q (same-eq (pair_of key) (pair_of q) e) in
        let test : same_pair (pair_shown x) (pair_of q) ≡ true = ap (λ (p : Pair). same_pair p (pair_of q)) pair ∙ e in
        let one = one_of (same_pair (pair_shown x) (pair_of q)) test in
        let a : cs key ≡ count_of q (somes ss) = h.counted key ∙ ap (λ (k : Key). count_of k (somes ss)) is in
        let l = count-set q ss i x at in omega arith
    go q false e =
        let test : same_pair (pair_shown x) (pair_of q) ≡ false = ap (λ (p : Pair). same_pair p (pair_of q)) pair ∙ e in
        let none = none_of (same_pair (pair_shown x) (pair_of q)) test in
        let a = h.counted q in
        let l = count-set q ss i x at in omega arith

-- A live descriptor counts for its pair, and among all.
pub close_some : (ss : List (Option Live)) (cs : Key → ℕ) (n i : ℕ) (x : Live) (key : Key) → AreLives ss cs n → get_or ss i None ≡ Some x → pair_shown x ≡ pair_of key → (0 < cs key) × (1 ≤ n)
close_some ss cs n i x key h at pair =
    let test : same_pair (pair_shown x) (pair_of key) ≡ true = eq-same (pair_shown x) (pair_of key) pair in
    let one = one_of (same_pair (pair_shown x) (pair_of key)) test in
    let a = h.counted key in let l = count-set key ss i x at in let m = length-set_some ss i x at in let e = h.count_is in (omega arith, omega arith)

-- Counts that are the same.
pub lives_same : (ss : List (Option Live)) (cs ds : Key → ℕ) (n : ℕ) → AreLives ss cs n → ((q : Key) → ds q ≡ cs q) → AreLives ss ds n
lives_same ss cs ds n h same = record { numbered = h.numbered; counted = λ k. same k ∙ h.counted k; count_is = h.count_is }
