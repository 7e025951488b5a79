-- Lists of descriptors.
use Rattle.std.proofs.Common.{◌≡◌, ◌≢◌, ◌⊎◌, ℕ, suc, ◌+◌, ◌<◌, ◌≤◌, Bool, true, false, ◌||◌, cond, List, [], ◌∷◌, ◌++◌, length, sym, refl, ap, ◌∙◌, subst, arith, Some, inl, inr, ⊎_elim, append_assoc, eq-eqb, ne_eqb}
use mathlib.Core.Logic.{dite}
use native.Mathlib.Decide.{ℕ_discrete}
use Rattle.std.specs.List.{list_any, filter}
use Rattle.runtime_histories.specs.Deeds.{Deed, opens, rests, closes, Deeds, Desc, opened, openings, names, closed, desc_at}
use Rattle.runtime_histories.specs.Deeds.{IsIn as In}

pub or-false : (b : Bool) → (b || false) ≡ b
or-false true = refl
or-false false = refl

pub or-assoc : (a b c : Bool) → (a || (b || c)) ≡ ((a || b) || c)
or-assoc true b c = refl
or-assoc false b c = refl

pub openings-append : (k : ℕ) (xs ys : Deeds) → openings k (xs ++ ys) ≡ openings k xs ++ openings (k + length xs) ys
openings-append k [] ys = ap (λ (z : ℕ). openings z ys) (omega arith)
openings-append k (x ∷ xs) ys = ap (λ (z : List Desc). opened k x.caller x.deed ++ z) (openings-append (suc k) xs ys ∙ ap (λ (z : ℕ). openings (suc k) xs ++ openings z ys) (omega arith)) ∙ sym (append_assoc (opened k x.caller x.deed) (openings (suc k) xs) (openings (k + length (x ∷ xs)) ys))

pub closed-append : (k : ℕ) (xs ys : Deeds) → closed k (xs ++ ys) ≡ (closed k xs || closed k ys)
closed-append k [] ys = refl
closed-append k (x ∷ xs) ys = ap (λ (z : Bool). names k x.deed || z) (closed-append k xs ys) ∙ or-assoc (names k x.deed) (closed k xs) (closed k ys)

module _ {A : Type 0} where
  pub In-append : (x : A) (xs ys : List A) → In x (xs ++ ys) → In x xs ⊎ In x ys
  In-append x [] ys h = inr h
  In-append x (y ∷ xs) ys h = ⊎_elim (λ z. inl (inl z)) (λ z. ⊎_elim (λ a. inl (inr a)) (λ b. inr b) (In-append x xs ys z)) h

  pub In-left : (x : A) (xs ys : List A) → In x xs → In x (xs ++ ys)
  In-left x [] ys h = absurd h
  In-left x (y ∷ xs) ys h = ⊎_elim (λ z. inl z) (λ z. inr (In-left x xs ys z)) h

  pub any-append : (p : A → Bool) (xs ys : List A) → list_any p (xs ++ ys) ≡ (list_any p xs || list_any p ys)
  any-append p [] ys = refl
  any-append p (x ∷ xs) ys = ap (λ (z : Bool). p x || z) (any-append p xs ys) ∙ or-assoc (p x) (list_any p xs) (list_any p ys)

  pub any-same : (p q : A → Bool) (xs : List A) → ((x : A) → In x xs → p x ≡ q x) → list_any p xs ≡ list_any q xs
  any-same p q [] h = refl
  any-same p q (x ∷ xs) h = (λ i. h x (inl refl) i || any-same p q xs (λ y z. h y (inr z)) i)

  pub any-in : (p : A → Bool) (x : A) (xs : List A) → In x xs → p x ≡ true → list_any p xs ≡ true
  any-in p x [] h e = absurd h
  any-in p x (y ∷ xs) h e = ⊎_elim (λ (z : y ≡ x). ap (λ (b : Bool). b || list_any p xs) (ap p z ∙ e)) (λ z. ap (λ (b : Bool). p y || b) (any-in p x xs z e) ∙ or-true (p y)) h
    where
      or-true : (b : Bool) → (b || true) ≡ true
      or-true true = refl
      or-true false = refl

  pub filter-append : (p : A → Bool) (xs ys : List A) → filter p (xs ++ ys) ≡ filter p xs ++ filter p ys
  filter-append p [] ys = refl
  filter-append p (x ∷ xs) ys = go (p x) (filter-append p xs ys)
    where
      go : (b : Bool) → filter p (xs ++ ys) ≡ filter p xs ++ filter p ys → cond b (x ∷ filter p (xs ++ ys)) (filter p (xs ++ ys)) ≡ cond b (x ∷ filter p xs) (filter p xs) ++ filter p ys
      go true e = ap (λ (z : List A). x ∷ z) e
      go false e = e

  pub filter-same : (p q : A → Bool) (xs : List A) → ((x : A) → In x xs → p x ≡ q x) → filter p xs ≡ filter q xs
  filter-same p q [] h = refl
  filter-same p q (x ∷ xs) h = (λ i. cond (h x (inl refl) i) (x ∷ filter-same p q xs (λ y z. h y (inr z)) i) (filter-same p q xs (λ y z. h y (inr z)) i))

  pub In-filter : (p : A → Bool) (x : A) (xs : List A) → In x (filter p xs) → In x xs × (p x ≡ true)
  In-filter p x [] h = absurd h
  In-filter p x (y ∷ xs) h = go (λ z. In-filter p x xs z) (p y) refl h
    where
      go : (In x (filter p xs) → In x xs × (p x ≡ true)) → (b : Bool) → p y ≡ b → In x (cond b (y ∷ filter p xs) (filter p xs)) → (In x (y ∷ xs)) × (p x ≡ true)
      go rec true e k = ⊎_elim (λ (z : y ≡ x). (inl z, ap p (sym z) ∙ e)) (λ z. let r = rec z in (inr r.0, r.1)) k
      go rec false e k = let r = rec k in (inr r.0, r.1)

-- numbers are positions
pub number_range : (d : Desc) (k : ℕ) (xs : Deeds) → In d (openings k xs) → (k ≤ d.number) × (d.number < k + length xs)
number_range d k [] h = absurd h
number_range d k (x ∷ xs) h = ⊎_elim (λ z. first x.deed z) (λ z. let r = number_range d (suc k) xs z in (let a = r.0 in let b = r.1 in omega arith, (let a = r.0 in let b = r.1 in omega arith))) (In-append d (opened k x.caller x.deed) (openings (suc k) xs) h)
  where
    first : (e : Deed) → In d (opened k x.caller e) → (k ≤ d.number) × (d.number < k + length (x ∷ xs))
    first (opens p ms l) z = ⊎_elim (λ (e : record { number = k; caller = x.caller; pair = p; modules = ms } ≡ d). let n : k ≡ d.number = ap (λ (y : Desc). y.number) e in (omega arith, omega arith)) (λ z. absurd z) z
    first rests z = absurd z
    first (closes j) z = absurd z

pub number_once : (d f : Desc) (k : ℕ) (xs : Deeds) → In d (openings k xs) → In f (openings k xs) → d.number ≡ f.number → d ≡ f
number_once d f k [] h g e = absurd h
number_once d f k (x ∷ xs) h g e = ⊎_elim
    (λ a. ⊎_elim (λ b. both x.deed a b) (λ b. let r = number_range f (suc k) xs b in absurd (first x.deed d a (λ z. let q = r.0 in omega arith))) (In-append f (opened k x.caller x.deed) (openings (suc k) xs) g))
    (λ a. let s = number_range d (suc k) xs a in ⊎_elim (λ b. absurd (first x.deed f b (λ z. let q = s.0 in omega arith))) (λ b. number_once d f (suc k) xs a b e) (In-append f (opened k x.caller x.deed) (openings (suc k) xs) g))
    (In-append d (opened k x.caller x.deed) (openings (suc k) xs) h)
  where
    first : (v : Deed) (y : Desc) → In y (opened k x.caller v) → (y.number ≢ k) → ⊥
    first (opens p ms l) y z ne = ⊎_elim (λ (q : record { number = k; caller = x.caller; pair = p; modules = ms } ≡ y). ne (sym (ap (λ (y : Desc). y.number) q))) (λ z. z) z
    first rests y z ne = z
    first (closes j) y z ne = z

    both : (v : Deed) → In d (opened k x.caller v) → In f (opened k x.caller v) → d ≡ f
    both (opens p ms l) a b = ⊎_elim (λ (q : record { number = k; caller = x.caller; pair = p; modules = ms } ≡ d). ⊎_elim (λ (r : record { number = k; caller = x.caller; pair = p; modules = ms } ≡ f). sym q ∙ r) (λ z. absurd z) b) (λ z. absurd z) a
    both rests a b = absurd a
    both (closes j) a b = absurd a

pub pair_found : (d : Desc) (ds : List Desc) → In d ds → ((f : Desc) → In f ds → f.number ≡ d.number → f ≡ d) → desc_at d.number ds ≡ Some d
pair_found d [] h once = absurd h
pair_found d (x ∷ ds) h once = dite (ℕ_discrete x.number d.number)
    (λ (e : x.number ≡ d.number). let P : Bool → Type 0 = λ b. cond b (Some x) (desc_at d.number ds) ≡ Some d in subst P (sym (eq-eqb x.number d.number e)) (ap (λ (y : Desc). Some y) (once x (inl refl) e)))
    (λ ne. let P : Bool → Type 0 = λ b. cond b (Some x) (desc_at d.number ds) ≡ Some d in subst P (sym (ne_eqb x.number d.number ne))
    (⊎_elim (λ (z : x ≡ d). absurd (ne (ap (λ (y : Desc). y.number) z))) (λ z. pair_found d ds z (λ f k. once f (inr k))) h))
