-- Lists and options, for the steps.
use Rattle.std.proofs.Common.{◌≡◌, ◌≢◌, ◌⊎◌, ℕ, zero, suc, ◌+◌, ◌-◌, ◌<◌, List, [], ◌∷◌, ◌++◌}
use Rattle.std.proofs.Common.{length, sym, refl, ap, ◌∙◌, subst, arith, Option, Some, None, inl}
use Rattle.std.proofs.Common.{inr, ⊎_elim, append-nil, append_assoc}
use mathlib.Core.Option.{some, some-injective, some-ne-none}
use mathlib.Core.Logic.{dite}
use native.Mathlib.Decide.{ℕ_discrete, dec_le}
use Rattle.std.proofs.lemmas.Bool.{ltb-true, lt-ltb}
use Rattle.std.proofs.Common.{◌≤◌, eqb, eq-eqb, ne_eqb, Bool, true, false, nat_lt, cond, true≢false}
use Rattle.std.proofs.Common.{lt_of_not-le}
use lib.ListN.{get_elem?}
use Rattle.history_core.specs.History.{History, EachNumber, Since, Grows, Has, Distinct, without}
use Rattle.history_core.specs.History.{longer, Ends, EachEnd, AreEnded, mine_from, mine_of}

module _ {A : Type 0} where
  pub index_below : (l : List A) (i : ℕ) (a : A) → get_elem? l i ≡ some a → i < length l
  index_below [] i a e = absurd (some-ne-none a (sym e))
  index_below (x ∷ xs) zero a e = omega arith
  index_below (x ∷ xs) (suc i) a e = let h = index_below xs i a e in omega arith

  abbrev pub option_or : A → Option A → A
  option_or d None = d
  option_or d (Some x) = x

  pub Some-injective : (a b : A) → Some a ≡ Some b → a ≡ b
  Some-injective a b e = ap (option_or a) e

  abbrev is_there : Option A → Type 0
  is_there None = ⊥
  is_there (Some x) = Unit {0}

  pub Some-ne-None : (a : A) (o : Option A) → o ≡ Some a → o ≢ None
  Some-ne-None a o e n = subst is_there (sym e ∙ n) tt

module _ {A : Type 0} where
  pub at_end : (l : List A) (a b : A) (i : ℕ) → get_elem? (l ++ a ∷ []) i ≡ some b
      → (get_elem? l i ≡ some b) ⊎ ((i ≡ length l) × (a ≡ b))
  at_end [] a b zero e = inr (refl, some-injective a b e)
  at_end [] a b (suc i) e = absurd (some-ne-none b (sym e))
  at_end (x ∷ xs) a b zero e = inl e
  at_end (x ∷ xs) a b (suc i) e = ⊎_elim (λ h. inl h)
      (λ (h : (i ≡ length xs) × (a ≡ b)). inr (ap suc h.0, h.1)) (at_end xs a b i e)

abbrev pick : {P : Type 0} → Dec P → ℕ → ℕ → ℕ
pick (yes _) a b = a
pick (no _) a b = b

pub put : (ℕ → ℕ) → ℕ → ℕ → ℕ → ℕ
put f i c j = pick (ℕ_discrete j i) c (f j)

pub put_here : (f : ℕ → ℕ) (i c : ℕ) → put f i c i ≡ c
unfolding put
put_here f i c = go (ℕ_discrete i i)
  where
    go : (d : Dec (i ≡ i)) → pick d c (f i) ≡ c
    go (yes _) = refl
    go (no n) = absurd (n refl)

pub put_else : (f : ℕ → ℕ) (i c j : ℕ) → j ≢ i → put f i c j ≡ f j
unfolding put
put_else f i c j other = go (ℕ_discrete j i)
  where
    go : (d : Dec (j ≡ i)) → pick d c (f j) ≡ f j
    go (yes e) = absurd (other e)
    go (no _) = refl

not_below : (m n : ℕ) → nat_lt m n ≡ false → n ≤ m
not_below m n e = dite (dec_le n m) (λ h. h)
    (λ h. absurd (true≢false (sym (lt-ltb m n (lt_of_not-le h)) ∙ e)))

Has-some : (xs : List ℕ) (n : ℕ) → Has xs n → 0 < length xs
Has-some [] n h = absurd h
Has-some (x ∷ xs) n h = omega arith

pub length-without : (xs : List ℕ) (n : ℕ) → Has xs n → length (without n xs) ≡ length xs - 1
length-without [] n h = absurd h
length-without (x ∷ xs) n h = dite (ℕ_discrete x n)
    (λ (e : x ≡ n). let P : Bool → Type 0 = λ b. length (cond b xs (x ∷ without n xs))
    ≡ length (x ∷ xs) - 1 in subst P (sym (eq-eqb x n e)) (omega arith))
    (λ (ne : x ≢ n). let P : Bool → Type 0 = λ b. length (cond b xs (x ∷ without n xs))
    ≡ length (x ∷ xs) - 1 in subst P (sym (ne_eqb x n ne))
    (⊎_elim (λ (z : x ≡ n). absurd (ne z))
    (λ z. let l = length-without xs n z in let p = Has-some xs n z in omega arith) h))

pub Has-without : (xs : List ℕ) (n m : ℕ) → m ≢ n → Has xs m → Has (without n xs) m
Has-without [] n m other h = h
Has-without (x ∷ xs) n m other h = dite (ℕ_discrete x n)
    (λ (e : x ≡ n). let P : Bool → Type 0 = λ b. Has (cond b xs (x ∷ without n xs)) m in
    subst P (sym (eq-eqb x n e)) (⊎_elim (λ (z : x ≡ m). absurd (other (sym z ∙ e))) (λ z. z)
    h))
    (λ (ne : x ≢ n). let P : Bool → Type 0 = λ b. Has (cond b xs (x ∷ without n xs)) m in
    subst P (sym (ne_eqb x n ne)) (⊎_elim (λ (z : x ≡ m). inl z)
    (λ z. inr (Has-without xs n m other z)) h))

-- the number taken out of a list in which none stands twice isn't there any more
pub without-gone : (xs : List ℕ) (n : ℕ) → Distinct xs → ¬ (Has (without n xs) n)
without-gone [] n d h = h
without-gone (x ∷ xs) n d h = dite (ℕ_discrete x n)
    (λ (e : x ≡ n). let P : Bool → Type 0 = λ b. Has (cond b xs (x ∷ without n xs)) n in
    d.0 (subst (Has xs) (sym e) (subst P (eq-eqb x n e) h)))
    (λ (ne : x ≢ n). let P : Bool → Type 0 = λ b. Has (cond b xs (x ∷ without n xs)) n in
    ⊎_elim ne (without-gone xs n d.1) (subst P (ne_eqb x n ne) h))

pub Has-kept : (xs : List ℕ) (n m : ℕ) → Has (without n xs) m → Has xs m
Has-kept [] n m h = h
Has-kept (x ∷ xs) n m h = by_case (eqb x n) h (Has-kept xs n m)
  where
    by_case : (b : Bool) → Has (cond b xs (x ∷ without n xs)) m → (Has (without n xs) m → Has xs m)
        → (x ≡ m) ⊎ Has xs m
    by_case true h f = inr h
    by_case false h f = ⊎_elim (λ (e : x ≡ m). inl e) (λ z. inr (f z)) h

pub Distinct-without : (xs : List ℕ) (n : ℕ) → Distinct xs → Distinct (without n xs)
Distinct-without [] n d = d
Distinct-without (x ∷ xs) n d = by_case (eqb x n) (Distinct-without xs n d.1)
  where
    by_case : (b : Bool) → Distinct (without n xs) → Distinct (cond b xs (x ∷ without n xs))
    by_case true h = d.1
    by_case false h = ((λ z. d.0 (Has-kept xs n x z)), h)

module _ {E : Type 0} where
  pub Each-append : (P : ℕ → Type 0) (xs ys : History E) → EachNumber P xs → EachNumber P ys
      → EachNumber P (xs ++ ys)
  Each-append P [] ys h k = k
  Each-append P (x ∷ xs) ys h k = (h.0, Each-append P xs ys h.1 k)

  pub Each-weaker : (P Q : ℕ → Type 0) → ((n : ℕ) → P n → Q n) → (xs : History E) → EachNumber P xs
      → EachNumber Q xs
  Each-weaker P Q f [] h = tt
  Each-weaker P Q f (x ∷ xs) h = (f x.0 h.0, Each-weaker P Q f xs h.1)

  pub Since-whole : (P : ℕ → Type 0) (log : History E) → Since P log log
  Since-whole P log = ([], sym (append-nil log), tt)

  pub Since-more : (P : ℕ → Type 0) (front log more : History E) → EachNumber P more
      → Since P front log → Since P front (log ++ more)
  Since-more P front log more h s = (
    s.0 ++ more,
    ap (λ (z : History E). z ++ more) s.1
        ∙ append_assoc front s.0 more,
    Each-append P s.0 more s.2 h,
  )

  pub Each-rest : (P : ℕ → Type 0) (xs ys : History E) → EachNumber P (xs ++ ys) → EachNumber P ys
  Each-rest P [] ys h = h
  Each-rest P (x ∷ xs) ys h = Each-rest P xs ys h.1

  pub Each-both : (P Q : ℕ → Type 0) (xs : History E) → EachNumber P xs → EachNumber Q xs
      → EachNumber (λ n. P n × Q n) xs
  Each-both P Q [] h k = tt
  Each-both P Q (x ∷ xs) h k = ((h.0, k.0), Each-both P Q xs h.1 k.1)

  head_or : (ℕ × E) → History E → ℕ × E
  head_or d [] = d
  head_or d (x ∷ xs) = x

  pub head_of : {x y : ℕ × E} {xs ys : History E} → x ∷ xs ≡ y ∷ ys → x ≡ y
  unfolding head_or
  head_of {x} e = ap (head_or x) e

  tail_or : History E → History E
  tail_or [] = []
  tail_or (x ∷ xs) = xs

  -- of two ways to cut one history, the later rest is a part of the other
  pub Each-later : (P : ℕ → Type 0) (xs ys us vs : History E) → xs ++ us ≡ ys ++ vs
      → length xs ≤ length ys → EachNumber P us → EachNumber P vs
  unfolding tail_or
  Each-later P [] ys us vs e le h = Each-rest P ys vs (subst (EachNumber P) e h)
  Each-later P (x ∷ xs) [] us vs e le h = absurd (omega arith)
  Each-later P (x ∷ xs) (y ∷ ys) us vs e le h =
      Each-later P xs ys us vs (ap tail_or e) (omega arith) h

  -- the lead's front after a join
  pub since_longer : (a b log : History E) (away : List ℕ) (n : ℕ) → Since (Has away) a log
      → Grows n b log → EachNumber (λ m. m ≢ 0) log
      → Since (λ m. m ≢ 0) (longer a b) log × Since (Has (without n away)) (longer a b) log
  since_longer a b log away n s g low = go (nat_lt (length a) (length b)) refl
    where
      P : History E → Type 0
      P v = Since (λ m. m ≢ 0) v log × Since (Has (without n away)) v log

      rest_of : (v rest : History E) → log ≡ v ++ rest → EachNumber (Has away) rest
          → EachNumber (λ m. m ≢ n) rest → P v
      rest_of v rest e h k = (
        (rest, e, Each-rest (λ m. m ≢ 0) v rest (subst (EachNumber (λ m. m ≢ 0)) e low)),
        (
          rest,
          e,
          Each-weaker (λ m. Has away m × (m ≢ n)) (Has (without n away))
              (λ m q. Has-without away n m q.1 q.0) rest
              (Each-both (Has away) (λ m. m ≢ n) rest h k),
        ),
      )

      go : (c : Bool) → nat_lt (length a) (length b) ≡ c → P (cond c b a)
      go true e = rest_of b g.0 g.1 (Each-later (Has away) a b s.0 g.0 (sym s.1 ∙ g.1)
          (let l = ltb-true (length a) (length b) e in omega arith) s.2) g.2
      go false e = rest_of a s.0 s.1 s.2
          (Each-later (λ m. m ≢ n) b a g.0 s.0 (sym g.1 ∙ s.1) (not_below (length a) (length b) e)
          g.2)

  pub none_left : (rest : History E) (away : List ℕ) → away ≡ [] → EachNumber (Has away) rest
      → rest ≡ []
  none_left [] away e h = refl
  none_left (x ∷ xs) away e h = absurd (subst (λ (a : List ℕ). Has a x.0) e h.0)

  -- of two beginnings, the shorter begins the longer
  pub between : (xs ys us vs : History E) → xs ++ us ≡ ys ++ vs → length xs ≤ length ys
      → (mid : History E) × (ys ≡ xs ++ mid) × (us ≡ mid ++ vs)
  unfolding tail_or
  between [] ys us vs e le = (ys, refl, e)
  between (x ∷ xs) [] us vs e le = absurd (omega arith)
  between (x ∷ xs) (y ∷ ys) us vs e le =
      let m = between xs ys us vs (ap tail_or e) (omega arith) in
      (m.0, (λ i. sym (head_of e) i ∷ m.1 i), m.2)

  pub Each-first : (P : ℕ → Type 0) (xs ys : History E) → EachNumber P (xs ++ ys) → EachNumber P xs
  Each-first P [] ys h = tt
  Each-first P (x ∷ xs) ys h = (h.0, Each-first P xs ys h.1)

  -- the lead's front and the pass's, in the front after a join
  pub longer_begins : (a b log : History E) (away : List ℕ) (n : ℕ) → Since (Has away) a log
      → Grows n b log → Since (Has away) a (longer a b) × Grows n b (longer a b)
  longer_begins a b log away n s g = go (nat_lt (length a) (length b)) refl
    where
      go : (c : Bool) → nat_lt (length a) (length b) ≡ c
          → Since (Has away) a (cond c b a) × Grows n b (cond c b a)
      go true e =
          let m = between a b s.0 g.0 (sym s.1 ∙ g.1)
          (let l = ltb-true (length a) (length b) e in omega arith) in (
            (m.0, m.1, Each-first (Has away) m.0 g.0 (subst (EachNumber (Has away)) m.2 s.2)),
            Since-whole (λ m. m ≢ n) b,
          )
      go false e =
          let m = between b a g.0 s.0 (sym g.1 ∙ s.1) (not_below (length a) (length b) e) in (
            Since-whole (Has away) a,
            (
              m.0,
              m.1,
              Each-first (λ m. m ≢ n) m.0 s.0
                  (subst (EachNumber (λ m. m ≢ n)) m.2 g.2),
            ),
          )

  -- what came since, and what came since then
  pub Since-twice : (P : ℕ → Type 0) (a b c : History E) → Since P a b → Since P b c → Since P a c
  Since-twice P a b c s t = (
    s.0 ++ t.0,
    t.1 ∙ (ap (λ (z : History E). z ++ t.0) s.1 ∙ append_assoc a s.0 t.0),
    Each-append P s.0 t.0 s.2 t.2,
  )

  pub Since-weaker : (P Q : ℕ → Type 0) → ((n : ℕ) → P n → Q n) → (a b : History E) → Since P a b
      → Since Q a b
  Since-weaker P Q f a b s = (s.0, s.1, Each-weaker P Q f s.0 s.2)

  pub EachEnd-weaker : (P Q : ℕ → History E → Type 0) → ((n : ℕ) (f : History E) → P n f → Q n f)
      → (xs : Ends E) → EachEnd P xs → EachEnd Q xs
  EachEnd-weaker P Q f [] h = tt
  EachEnd-weaker P Q f (x ∷ xs) h = (f x.0 x.1 h.0, EachEnd-weaker P Q f xs h.1)

  -- entries of other numbers leave one's own where they are
  pub mine_from-none : (n k : ℕ) (log : History E) → EachNumber (λ m. m ≢ n) log
      → mine_from n k log ≡ []
  mine_from-none n k [] h = refl
  mine_from-none n k (e ∷ es) h =
      let P : Bool → Type 0 = λ b. cond b (k ∷ mine_from n (k + 1) es) (mine_from n (k + 1) es)
      ≡ [] in
      subst P (sym (ne_eqb e.0 n h.0)) (mine_from-none n (k + 1) es h.1)

  pub mine_from-append : (n k : ℕ) (xs ys : History E)
      → mine_from n k (xs ++ ys) ≡ mine_from n k xs ++ mine_from n (k + length xs) ys
  mine_from-append n k [] ys = ap (λ (j : ℕ). mine_from n j ys) (omega arith)
  mine_from-append n k (x ∷ xs) ys =
      let h : mine_from n (k + 1) (xs ++ ys) ≡ mine_from n (k + 1) xs
      ++ mine_from n (k + length (x ∷ xs)) ys = mine_from-append n (k + 1) xs ys
      ∙ ap (λ (j : ℕ). mine_from n (k + 1) xs ++ mine_from n j ys) (omega arith) in
      by_case (eqb x.0 n) h
    where
      by_case : (b : Bool) → mine_from n (k + 1) (xs ++ ys) ≡ mine_from n (k + 1) xs
          ++ mine_from n (k + length (x ∷ xs)) ys
          → cond b (k ∷ mine_from n (k + 1) (xs ++ ys)) (mine_from n (k + 1) (xs ++ ys))
          ≡ cond b (k ∷ mine_from n (k + 1) xs) (mine_from n (k + 1) xs)
          ++ mine_from n (k + length (x ∷ xs)) ys
      by_case true h = ap (λ (l : List ℕ). k ∷ l) h
      by_case false h = h

  pub mine_of-append : (n : ℕ) (xs ys : History E)
      → mine_of n (xs ++ ys) ≡ mine_of n xs ++ mine_from n (length xs) ys
  mine_of-append n xs ys = mine_from-append n 0 xs ys
      ∙ ap (λ (j : ℕ). mine_from n 0 xs ++ mine_from n j ys) (omega arith)

  pub mine-grows : (n : ℕ) (front log : History E) → Grows n front log
      → mine_of n log ≡ mine_of n front
  mine-grows n front log s = ap (λ (l : History E). mine_of n l) s.1
      ∙ (mine_of-append n front s.0 ∙ (ap (λ (l : List ℕ). mine_from n 0 front ++ l)
      (mine_from-none n (length front) s.0 s.2) ∙ append-nil (mine_from n 0 front)))

  pub mine-commit : (n : ℕ) (front : History E) (e : E)
      → mine_of n (front ++ (n, e) ∷ []) ≡ mine_of n front ++ length front ∷ []
  mine-commit n front e =
      let P : Bool → Type 0 = λ b. mine_from n 0 (front ++ (n, e) ∷ []) ≡ mine_from n 0 front
      ++ cond b (length front ∷ []) [] in
      subst P (eq-eqb n n refl) (mine_of-append n front ((n, e) ∷ []))

  -- the same, of what a pass has seen after its commit
  pub mine-committed : (n : ℕ) (front : History E) (e : E) (after : History E)
      → after ≡ front ++ (n, e) ∷ [] → mine_of n after ≡ mine_of n front ++ length front ∷ []
  mine-committed n front e after is = ap (mine_of n) is ∙ mine-commit n front e

  -- the same, of a pass that was joined
  pub mine-joined : (n : ℕ) (front : History E) (ends now : Ends E) (log after : History E)
      → now ≡ (n, front) ∷ ends → AreEnded now log → after ≡ log → mine_of n after ≡ mine_of n front
  mine-joined n front ends now log after is ended same = ap (mine_of n) same
      ∙ mine-grows n front log (subst (λ (x : Ends E). AreEnded x log) is ended).0

  -- what holds of two fronts holds of the longer
  pub either_longer : (P : History E → Type 0) (a b : History E) → P a → P b → P (longer a b)
  either_longer P a b p q = go (nat_lt (length a) (length b))
    where
      go : (c : Bool) → P (cond c b a)
      go true = q
      go false = p

  -- the number that is given next stands in no entry so far
  pub each_apart : (g : ℕ) (log : History E) → EachNumber (λ k. (0 < k) × (k < g)) log
      → EachNumber (λ k. k ≢ g) log
  each_apart g log h = Each-weaker (λ k. (0 < k) × (k < g)) (λ k. k ≢ g)
      (λ k q e. let l = q.1 in absurd (omega arith)) log h

  pub each_more : (g : ℕ) (log : History E) → EachNumber (λ k. (0 < k) × (k < g)) log
      → EachNumber (λ k. (0 < k) × (k < g + 1)) log
  each_more g log h = Each-weaker (λ k. (0 < k) × (k < g)) (λ k. (0 < k) × (k < g + 1))
      (λ k q. (q.0, (let l = q.1 in omega arith))) log h
