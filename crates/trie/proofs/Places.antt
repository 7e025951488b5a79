-- Places of fronts.
use Rattle.std.proofs.Common.{◌≡◌, ◌≢◌, ℕ, zero, suc, ◌+◌, ◌<◌, true, false, eqb, List, [], ◌∷◌, ◌++◌, length, get_or, Option, Some, None, refl, sym, ap, ◌∙◌, subst, inl, inr, arith, add-one}
use Rattle.std.specs.Option.{option_map}
use Rattle.std.specs.Str.{bytes_eq}
use Rattle.std.proofs.lemmas.Bool.{cases_Bool, cases_eq, eq-eqb, ne_eqb}
use Rattle.trie.specs.Fronts.{is_proper_prefix, is_front}
use Rattle.trie.specs.Trie.{place_of}
use Rattle.trie.specs.Leaf.{Leaf}

-- a front of a front is one
pub goes_on_front : (q r p : List ℕ) → is_proper_prefix (q ++ r) p ≡ true → is_proper_prefix q p ≡ true
goes_on_front [] [] p h = h
goes_on_front [] (x ∷ xs) [] h = cc
goes_on_front [] (x ∷ xs) (y ∷ ys) h = refl
goes_on_front (x ∷ xs) r [] h = h
goes_on_front (x ∷ xs) r (y ∷ ys) h = elim (cases_Bool (eqb x y)) [
  | inl t ↦ rw t (goes_on_front xs r ys (rw t at h))
  | inr f ↦ absurd (let e : false ≡ true = rw f at h in cc)
]

-- what goes on is longer
pub goes_on_whole : (q : List ℕ) (b : ℕ) (bs : List ℕ) → is_proper_prefix q (q ++ b ∷ bs) ≡ true
goes_on_whole [] b bs = refl
goes_on_whole (x ∷ xs) b bs = rw (eq-eqb x x refl) (goes_on_whole xs b bs)

-- a front of a front is a front
pub begins_front : (leaves : List Leaf) (q r : List ℕ) → is_front leaves (q ++ r) ≡ true →
    is_front leaves q ≡ true
begins_front [] q r h = h
begins_front (l ∷ ls) q r h = elim (cases_Bool (is_proper_prefix (q ++ r) l.path)) [
  | inl t ↦ rw (goes_on_front q r l.path t) refl
  | inr f ↦ elim (cases_Bool (is_proper_prefix q l.path)) [
    | inl t ↦ rw t refl
    | inr g ↦ rw g (begins_front ls q r (rw f at h))
  ]
]

-- a string is the same as itself
pub bytes_same : (a : List ℕ) → bytes_eq a a ≡ true
bytes_same [] = refl
bytes_same (x ∷ xs) = rw (eq-eqb x x refl) (bytes_same xs)

-- strings that test equal are equal
pub bytes_equal : (a b : List ℕ) → bytes_eq a b ≡ true → a ≡ b
bytes_equal [] [] h = refl
bytes_equal [] (y ∷ ys) h = cc
bytes_equal (x ∷ xs) [] h = cc
bytes_equal (x ∷ xs) (y ∷ ys) h = elim (cases_eq x y) [
  | inl e ↦ ap (λ v. v ∷ xs) e ∙ ap (λ vs. y ∷ vs) (bytes_equal xs ys (rw (eq-eqb x y e) at h))
  | inr n ↦ absurd (let e : false ≡ true = rw (ne_eqb x y n) at h in cc)
]

-- strings that differ test so
pub bytes_differ : (a b : List ℕ) → a ≢ b → bytes_eq a b ≡ false
bytes_differ a b n = elim (cases_Bool (bytes_eq a b)) [ inl t ↦ absurd (n (bytes_equal a b t)) | inr f ↦ f ]

-- a place in a list
pub record IsPlace (q : List ℕ) (ps : List (List ℕ)) (k : ℕ) : Type 0 where
  pub within : k < length ps
  pub there : get_or ps k [] ≡ q

-- what is there is not missing
pub some_none : {n : ℕ} → Some n ≡ None → ⊥
some_none e = cc

same_some : {m n : ℕ} → Some m ≡ Some n → m ≡ n
same_some e = cc

map_none : (o : Option ℕ) → option_map (λ j. j + 1) o ≡ None → o ≡ None
map_none None e = refl
map_none (Some j) e = absurd (some_none e)

more_some : (o : Option ℕ) (k : ℕ) → option_map (λ j. j + 1) o ≡ Some k → (j : ℕ) × (o ≡ Some j) × (j + 1 ≡ k)
more_some None k e = absurd (some_none (sym e))
more_some (Some j) k e = (j, refl, cc)

-- what is found stands there
pub place_there : (q : List ℕ) (ps : List (List ℕ)) (k : ℕ) → place_of q ps ≡ Some k → IsPlace q ps k
place_there q [] k e = absurd (some_none (sym e))
place_there q (p ∷ ps) k e = elim (cases_Bool (bytes_eq p q)) [
  | inl t ↦ let z : 0 ≡ k = same_some (rw t at e) in
      subst (λ n. IsPlace q (p ∷ ps) n) z (record { within = omega arith; there = bytes_equal p q t })
  | inr f ↦ let m = more_some (place_of q ps) k (rw f at e) in let r = place_there q ps m.0 m.1 in
      subst (λ n. IsPlace q (p ∷ ps) n) m.2
      (record { within = omega (arith, r.within); there = rw add-one r.there })
]

-- what stands somewhere is found, at some place
pub found_place : (q : List ℕ) (ps : List (List ℕ)) (k : ℕ) → k < length ps → get_or ps k [] ≡ q →
    place_of q ps ≡ None → ⊥
found_place q [] k lt e n = omega arith
found_place q (p ∷ ps) zero lt e n =
    some_none {n = 0} (rw (ap (λ v. bytes_eq p v) (sym e) ∙ bytes_same p) at n)
found_place q (p ∷ ps) (suc k) lt e n = elim (cases_Bool (bytes_eq p q)) [
  | inl t ↦ some_none {n = 0} (rw t at n)
  | inr f ↦ found_place q ps k (omega arith) e (map_none (place_of q ps) (rw f at n))
]
