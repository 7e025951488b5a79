-- The amounts of histories.
use Rattle.std.proofs.Common.{◌≡◌, ◌≢◌, ◌⊎◌, ⊎_elim, ℕ, ◌+◌, ◌-◌, ◌<◌, suc, zero, eqb, eq-eqb}
use Rattle.std.proofs.Common.{ne_eqb, Bool, true, false, cond, List, [], ◌∷◌, ◌++◌, length, sum}
use Rattle.std.proofs.Common.{sym, ap, ◌∙◌, subst, refl, arith, append-nil}
use Rattle.std.specs.List.{range_with_len}
use Rattle.std.proofs.lemmas.List.Sums.{sum_by-cons}
use Rattle.history_core.specs.History.{History, EachNumber, Grows, Ends, HasEnd, AreEnded}
use Rattle.two_threads.specs.declared.tally.Noted.{Noted}
use Rattle.two_threads.specs.Amounts.{total, amounts_of}

pub total-append : (xs : History Noted) (e : ℕ × Noted)
    → total (xs ++ e ∷ []) ≡ total xs + e.1.amount.value
total-append [] e = omega arith
total-append (x ∷ xs) e = let h = total-append xs e in omega arith

pub amounts_of-none : (n : ℕ) (log : History Noted) → EachNumber (λ m. m ≢ n) log
    → amounts_of n log ≡ []
amounts_of-none n [] h = refl
amounts_of-none n (e ∷ es) h =
    let P : Bool → Type 0 = λ b. cond b (e.1.amount.value ∷ amounts_of n es) (amounts_of n es)
    ≡ [] in
    subst P (sym (ne_eqb e.0 n h.0)) (amounts_of-none n es h.1)

pub amounts_of-append : (n : ℕ) (xs ys : History Noted)
    → amounts_of n (xs ++ ys) ≡ amounts_of n xs ++ amounts_of n ys
amounts_of-append n [] ys = refl
amounts_of-append n (x ∷ xs) ys = by_case (eqb x.0 n) (amounts_of-append n xs ys)
  where
    by_case : (b : Bool) → amounts_of n (xs ++ ys) ≡ amounts_of n xs ++ amounts_of n ys
        → cond b (x.1.amount.value ∷ amounts_of n (xs ++ ys)) (amounts_of n (xs ++ ys))
        ≡ cond b (x.1.amount.value ∷ amounts_of n xs) (amounts_of n xs) ++ amounts_of n ys
    by_case true h = ap (λ (l : List ℕ). x.1.amount.value ∷ l) h
    by_case false h = h

-- entries of other numbers leave the amounts of one's own
pub amounts_of-grows : (n : ℕ) (front log : History Noted) → Grows n front log
    → amounts_of n log ≡ amounts_of n front
amounts_of-grows n front log s = ap (amounts_of n) s.1
    ∙ (amounts_of-append n front s.0 ∙ (ap (λ (l : List ℕ). amounts_of n front ++ l)
    (amounts_of-none n s.0 s.2) ∙ append-nil (amounts_of n front)))

pub amounts_of-own : (n : ℕ) (front : History Noted) (e : Noted)
    → amounts_of n (front ++ (n, e) ∷ []) ≡ amounts_of n front ++ e.amount.value ∷ []
amounts_of-own n front e =
    let P : Bool → Type 0 = λ b. amounts_of n (front ++ (n, e) ∷ []) ≡ amounts_of n front
    ++ cond b (e.amount.value ∷ []) [] in
    subst P (eq-eqb n n refl) (amounts_of-append n front ((n, e) ∷ []))

-- after a turn without an entry
pub amounts_of-leave : (n : ℕ) (old front now : History Noted) → Grows n old front → now ≡ front
    → amounts_of n now ≡ amounts_of n old
amounts_of-leave n old front now grows at = ap (amounts_of n) at
    ∙ amounts_of-grows n old front grows

-- after a turn and a commit
pub amounts_of-commit : (n m : ℕ) (old front now : History Noted) (e : Noted) (amount : ℕ)
    → Grows n old front → m ≡ n → e.amount.value ≡ amount → now ≡ front ++ (m, e) ∷ []
    → amounts_of n now ≡ amounts_of n old ++ amount ∷ []
amounts_of-commit n m old front now e amount grows own is at = ap (amounts_of n) at
    ∙ (ap (λ (k : ℕ). amounts_of n (front ++ (k, e) ∷ [])) own
    ∙ (amounts_of-own n front e ∙ (λ i. amounts_of-grows n old front grows i ++ is i ∷ [])))

sum-cons : (y : ℕ) (ys : List ℕ) → sum (y ∷ ys) ≡ y + sum ys
sum-cons y ys = search (arith, sum_by-cons)

add_second : (v t a b : ℕ) → t ≡ a + b → v + t ≡ a + (v + b)
add_second v t a b h = omega arith

add_first : (v t a b : ℕ) → t ≡ a + b → v + t ≡ (v + a) + b
add_first v t a b h = omega arith

more_second : (t a b : ℕ) → t ≡ a + b → suc t ≡ a + suc b
more_second t a b h = omega arith

more_first : (t a b : ℕ) → t ≡ a + b → suc t ≡ suc a + b
more_first t a b h = omega arith

-- where all entries are of the numbers 1 and 2
pub two_totals : (log : History Noted) (ends : Ends Noted) (a b : History Noted)
    → ends ≡ (2, b) ∷ (1, a) ∷ [] → EachNumber (HasEnd ends) log
    → (total log ≡ sum (amounts_of 1 log) + sum (amounts_of 2 log))
    × (length log ≡ length (amounts_of 1 log) + length (amounts_of 2 log))
two_totals [] ends a b is h = (refl, refl)
two_totals (e ∷ es) ends a b is h =
    let t = two_totals es ends a b is h.1 in
    let v : ℕ = e.1.amount.value in
    let P : Bool → Bool → Type 0 = λ x y.
    (v + total es ≡ sum (cond x (v ∷ amounts_of 1 es) (amounts_of 1 es)) + sum
    (cond y (v ∷ amounts_of 2 es) (amounts_of 2 es)))
    × (suc (length es) ≡ length (cond x (v ∷ amounts_of 1 es) (amounts_of 1 es)) + length
    (cond y (v ∷ amounts_of 2 es) (amounts_of 2 es))) in
    let A : ℕ = sum (amounts_of 1 es) in let B : ℕ = sum (amounts_of 2 es) in
    let C : ℕ = length (amounts_of 1 es) in let D : ℕ = length (amounts_of 2 es) in
    let second : P false true = (
      add_second v (total es) A B t.0
          ∙ ap (λ (z : ℕ). A + z) (sym (sum-cons v (amounts_of 2 es))),
      more_second (length es) C
          D t.1,
    ) in
    let first : P true false = (
      add_first v (total es) A B t.0
          ∙ ap (λ (z : ℕ). z + B) (sym (sum-cons v (amounts_of 1 es))),
      more_first (length es) C D
          t.1,
    ) in
    let cases : (2 ≡ e.0) ⊎ ((1 ≡ e.0) ⊎ ⊥) = subst (λ (z : Ends Noted). HasEnd z e.0) is h.0 in
    ⊎_elim (λ (q : 2 ≡ e.0). subst (λ (z : Bool × Bool). P z.0 z.1)
    (λ i. (sym (ne_eqb e.0 1 (λ z. absurd (omega arith))) i, sym (eq-eqb e.0 2 (sym q)) i))
    second)
    (λ z. ⊎_elim (λ (q : 1 ≡ e.0). subst (λ (z : Bool × Bool). P z.0 z.1)
    (λ i. (sym (eq-eqb e.0 1 (sym q)) i, sym (ne_eqb e.0 2 (λ z. absurd (omega arith))) i))
    first) (λ (z : ⊥). absurd z) z) cases

pub range-snoc : (a n : ℕ) → range_with_len a n ++ (a + n) ∷ [] ≡ range_with_len a (suc n)
range-snoc a zero = ap (λ (k : ℕ). k ∷ []) (omega arith)
range-snoc a (suc n) = ap (λ (l : List ℕ). a ∷ l)
    (ap (λ (k : ℕ). range_with_len (a + 1) n ++ k ∷ []) (omega arith) ∙ range-snoc (a + 1) n)

pub range-next : (k : ℕ) → 0 < k → range_with_len 1 (k - 1) ++ k ∷ [] ≡ range_with_len 1 (k + 1 - 1)
range-next zero h = absurd (omega arith)
range-next (suc j) h = (λ i. range_with_len 1 (below i) ++ (over i) ∷ [])
    ∙ (range-snoc 1 j ∙ ap (range_with_len 1) above)
  where
    below : suc j - 1 ≡ j
    below = omega arith

    over : suc j ≡ 1 + j
    over = omega arith

    above : suc j ≡ suc j + 1 - 1
    above = omega arith

pub length-range : (a n : ℕ) → length (range_with_len a n) ≡ n
length-range a zero = refl
length-range a (suc n) = ap suc (length-range (a + 1) n)

pub sum-thousand : sum (range_with_len 1 1000) ≡ 500500
sum-thousand = refl

-- what joined passes had added is what the history has of their numbers
pub first_ended : (ends more none : Ends Noted) (m n k : ℕ) (e f log : History Noted) (xs : List ℕ)
    → ends ≡ (m, e) ∷ more → more ≡ (n, f) ∷ none → AreEnded ends log → n ≡ k → amounts_of k f ≡ xs
    → amounts_of k log ≡ xs
first_ended ends more none m n k e f log xs is then all same has =
    let P : Ends Noted → Type 0 = λ z. AreEnded z log in
    let grows : Grows n f log = (subst P then (subst P is all).1).0 in
    amounts_of-grows k f log (subst (λ (j : ℕ). Grows j f log) same grows) ∙ has

pub last_ended : (ends more : Ends Noted) (m k : ℕ) (e log : History Noted) (xs : List ℕ)
    → ends ≡ (m, e) ∷ more → AreEnded ends log → m ≡ k → amounts_of k e ≡ xs → amounts_of k log ≡ xs
last_ended ends more m k e log xs is all same has =
    let P : Ends Noted → Type 0 = λ z. AreEnded z log in
    amounts_of-grows k e log (subst (λ (j : ℕ). Grows j e log) same (subst P is all).0) ∙ has
