-- The fronts that have pages.
use Rattle.std.proofs.Common.{◌≡◌, ℕ, zero, suc, ◌+◌, ◌<◌, ◌≤◌, Bool, true, false, eqb, List, [], ◌∷◌, ◌++◌, length, get_or, map, Option, Some, None, refl, sym, ap, ◌∙◌, subst, inl, inr, ◌⊎◌, arith, add-one, length-append}
use Rattle.std.specs.List.{flat_map, filter, range_with_len}
use Rattle.std.specs.Option.{option_map}
use Rattle.std.specs.Str.{bytes_eq}
use Rattle.std.proofs.lemmas.Bool.{cases_Bool, cases_eq}
use Rattle.trie.specs.Fronts.{AreShort, is_proper_prefix, is_front, level, fronts, children}
use Rattle.trie.specs.Trie.{place_of}
use Rattle.trie.specs.Leaf.{Leaf}
use Rattle.trie.proofs.Places.{some_none, place_there, bytes_same}
use Rattle.trie.proofs.Walks.{IsPlaced}

-- the two truth values differ
pub true_false : true ≡ false → ⊥
true_false e = cc

-- and the other way round
pub false_true : false ≡ true → ⊥
false_true e = cc

-- a string stands in a list
abbrev pub Has : List ℕ → List (List ℕ) → Type 0
Has q [] = ⊥
Has q (p ∷ ps) = (p ≡ q) ⊎ Has q ps

-- what stands at a place stands in the list
pub has_at : (q : List ℕ) (ps : List (List ℕ)) (k : ℕ) → k < length ps → get_or ps k [] ≡ q → Has q ps
has_at q [] k lt e = omega arith
has_at q (p ∷ ps) zero lt e = inl e
has_at q (p ∷ ps) (suc k) lt e = inr (has_at q ps k (omega arith) e)

map_none : (o : Option ℕ) → option_map (λ j. j + 1) o ≡ None → o ≡ None
map_none None e = refl
map_none (Some j) e = absurd (some_none e)

-- what stands in a list has a place
pub has_found : (q : List ℕ) (ps : List (List ℕ)) → Has q ps → place_of q ps ≡ None → ⊥
has_found q [] h n = absurd h
has_found q (p ∷ ps) h n = elim (cases_Bool (bytes_eq p q)) [
  | inl t ↦ some_none {n = 0} (rw t at n)
  | inr f ↦ elim h [
    | inl e ↦ let t : true ≡ false = sym (bytes_same p) ∙ ap (bytes_eq p) e ∙ f in absurd (true_false t)
    | inr r ↦ has_found q ps r (map_none (place_of q ps) (rw f at n))
  ]
]

-- what stands in a list stands in it with more behind
pub has_left : (q : List ℕ) (ps qs : List (List ℕ)) → Has q ps → Has q (ps ++ qs)
has_left q [] qs h = absurd h
has_left q (p ∷ ps) qs h = elim h [ inl e ↦ inl e | inr r ↦ inr (has_left q ps qs r) ]

-- and with more before it
pub has_right : (q : List ℕ) (ps qs : List (List ℕ)) → Has q qs → Has q (ps ++ qs)
has_right q [] qs h = h
has_right q (p ∷ ps) qs h = inr (has_right q ps qs h)

-- what stands in two lists stands in one of them
pub has_either : (q : List ℕ) (ps qs : List (List ℕ)) → Has q (ps ++ qs) → Has q ps ⊎ Has q qs
has_either q [] qs h = inr h
has_either q (p ∷ ps) qs h =
    elim h [
      | inl e ↦ inl
          (inl e)
      | inr r ↦ elim (has_either q ps qs r) [ inl a ↦ inl (inr a) | inr b ↦ inr b ]
    ]

-- what passes a test stays
pub has_kept : (f : List ℕ → Bool) (q : List ℕ) (ps : List (List ℕ)) → f q ≡ true → Has q ps →
    Has q (filter f ps)
has_kept f q [] t h = absurd h
has_kept f q (p ∷ ps) t h = elim (cases_Bool (f p)) [
  | inl u ↦ rw u (elim h [ inl e ↦ inl e | inr r ↦ inr (has_kept f q ps t r) ])
  | inr u ↦ rw u (elim h [
    | inl e ↦ absurd
        (true_false (sym t ∙ ap f (sym e) ∙ u))
    | inr r ↦ has_kept f q ps t r
  ])
]

-- what stays passed the test and stood there
pub kept_has : (f : List ℕ → Bool) (q : List ℕ) (ps : List (List ℕ)) → Has q (filter f ps) →
    (f q ≡ true) × Has q ps
kept_has f q [] h = absurd h
kept_has f q (p ∷ ps) h = elim (cases_Bool (f p)) [
  | inl u ↦ elim (rw u at h) [
    | inl e ↦ (ap f (sym e) ∙ u, inl e)
    | inr r ↦ let k = kept_has f q ps r in
        (k.0, inr k.1)
  ]
  | inr u ↦ let k = kept_has f q ps (rw u at h) in (k.0, inr k.1)
]

has_byte : (p : List ℕ) (b a n : ℕ) → a ≤ b → b < a + n →
    Has (p ++ b ∷ []) (map (λ c. p ++ c ∷ []) (range_with_len a n))
has_byte p b a zero h lt = omega arith
has_byte p b a (suc n) h lt = elim (cases_eq a b) [
  | inl e ↦ inl (ap (λ c. p ++ c ∷ []) e)
  | inr ne ↦ inr (has_byte p b (a + 1) n (omega arith) (omega arith))
]

-- a front with one byte more is one of its children
pub has_child : (b : ℕ) (p : List ℕ) (ps : List (List ℕ)) → b < 256 → Has p ps →
    Has (p ++ b ∷ []) (flat_map children ps)
has_child b p [] lt h = absurd h
has_child b p (q ∷ ps) lt h = elim h [
  | inl e ↦ has_left (p ++ b ∷ []) (children q) (flat_map children ps)
      (subst (λ r. Has (p ++ b ∷ []) (children r)) (sym e) (has_byte p b 0 256 (omega arith) (omega arith)))
  | inr r ↦ has_right (p ++ b ∷ []) (children q) (flat_map children ps) (has_child b p ps lt r)
]

byte_length : (q p : List ℕ) (a n : ℕ) → Has q (map (λ c. p ++ c ∷ []) (range_with_len a n)) →
    length q ≡ length p + 1
byte_length q p a zero h = absurd h
byte_length q p a (suc n) h =
    elim h [
      | inl e ↦ omega (arith, ap length e, length-append p (a ∷ []))
      | inr r ↦ byte_length q p
          (a + 1) n r
    ]

-- all that stands in a level is so long
pub child_length : (n : ℕ) (ps : List (List ℕ)) → ((p : List ℕ) → Has p ps → length p ≡ n) → (q : List ℕ) →
    Has q (flat_map children ps) → length q ≡ n + 1
child_length n [] each q h = absurd h
child_length n (p ∷ ps) each q h = elim (has_either q (children p) (flat_map children ps) h) [
  | inl a ↦ byte_length q p 0 256 a ∙ ap (λ m. m + 1) (each p (inl refl))
  | inr b ↦ child_length n ps (λ r k. each r (inr k)) q b
]

-- the fronts of a level have its length
pub level_length : (leaves : List Leaf) (n : ℕ) (q : List ℕ) → Has q (level leaves n) → length q ≡ n
level_length leaves zero q h = elim h [ inl e ↦ ap length (sym e) | inr r ↦ absurd r ]
level_length leaves (suc n) q h =
    child_length n (level leaves n) (level_length leaves n) q
    (kept_has (is_front leaves) q (flat_map children (level leaves n)) h).1 ∙ add-one n

-- what stands among the fronts stands in a level
pub front_level : (leaves : List Leaf) (n : ℕ) (q : List ℕ) → Has q (fronts leaves n) →
    (m : ℕ) × (m < n) × Has q (level leaves m)
front_level leaves zero q h = absurd h
front_level leaves (suc n) q h = elim (has_either q (fronts leaves n) (level leaves n) h) [
  | inl a ↦ let r = front_level leaves n q a in (r.0, omega (arith, r.1), r.2)
  | inr b ↦ (n, omega arith, b)
]

-- a front of a level stands among those of all lengths
pub level_front : (leaves : List Leaf) (n m : ℕ) (q : List ℕ) → m < n → Has q (level leaves m) →
    Has q (fronts leaves n)
level_front leaves zero m q lt h = omega arith
level_front leaves (suc n) m q lt h = elim (cases_eq m n) [
  | inl e ↦ has_right q (fronts leaves n) (level leaves n) (subst (λ k. Has q (level leaves k)) e h)
  | inr ne ↦ has_left q (fronts leaves n) (level leaves n) (level_front leaves n m q (omega arith) h)
]

-- what goes on from a string is longer
pub goes_longer : (q p : List ℕ) → is_proper_prefix q p ≡ true → length q < length p
goes_longer [] [] h = absurd (false_true h)
goes_longer [] (y ∷ ys) h = omega arith
goes_longer (x ∷ xs) [] h = absurd (false_true h)
goes_longer (x ∷ xs) (y ∷ ys) h = elim (cases_Bool (eqb x y)) [
  | inl t ↦ let r = goes_longer xs ys (rw t at h) in omega (arith, r)
  | inr f ↦ absurd (false_true (rw f at h))
]

-- a front is shorter than the longest path
pub begins_short : (most : ℕ) (leaves : List Leaf) (q : List ℕ) → AreShort most leaves →
    is_front leaves q ≡ true → length q < most
begins_short most [] q s h = absurd (false_true h)
begins_short most (l ∷ ls) q s h = elim (cases_Bool (is_proper_prefix q l.path)) [
  | inl t ↦ let r = goes_longer q l.path t in omega (arith, r, s.0)
  | inr f ↦ begins_short most ls q s.1 (rw f at h)
]

no_level : (leaves : List Leaf) (n : ℕ) (q : List ℕ) (m : ℕ) → length q ≡ m + 1 → is_front leaves q ≡ false →
    Has q (level leaves n) → ⊥
no_level leaves zero q m len f h = elim h [ inl e ↦ omega (arith, ap length e, len) | inr r ↦ r ]
no_level leaves (suc n) q m len f h =
    true_false (sym (kept_has (is_front leaves) q (flat_map children (level leaves n)) h).0 ∙ f)

none_place : (leaves : List Leaf) (q : List ℕ) (m : ℕ) → length q ≡ m + 1 → is_front leaves q ≡ false →
    (o : Option ℕ) → place_of q (fronts leaves 4) ≡ o → place_of q (fronts leaves 4) ≡ None
none_place leaves q m len f None e = e
none_place leaves q m len f (Some j) e =
    let r = place_there q (fronts leaves 4) j e in
    let v = front_level leaves 4 q (has_at q (fronts leaves 4) j r.within r.there) in
    absurd (no_level leaves v.0 q m len f v.2)

-- pages stand for the fronts
pub placed : (leaves : List Leaf) → AreShort 4 leaves → IsPlaced leaves (fronts leaves 4)
placed leaves short = record {
  inside = λ k b lt small t n.
      let ps = fronts leaves 4 in
      let p = get_or ps k [] in
      let r = front_level leaves 4 p (has_at p ps k lt refl) in
      let len : length p ≡ r.0 = level_length leaves r.0 p r.2 in
      let few : length (p ++ b ∷ []) < 4 = begins_short 4 leaves (p ++ b ∷ []) short t in
      has_found (p ++ b ∷ []) ps
      (level_front leaves 4 (suc r.0) (p ++ b ∷ []) (omega (arith, length-append p (b ∷ [])))
      (has_kept (is_front leaves) (p ++ b ∷ []) (flat_map children (level leaves r.0)) t
      (has_child b p (level leaves r.0) small r.2)))
      n;
  outside = λ k b lt small f.
      let ps = fronts leaves 4 in
      let q = get_or ps k [] ++ b ∷ [] in
      none_place leaves q (length (get_or ps k [])) (length-append (get_or ps k []) (b ∷ [])) f
      (place_of q ps) refl;
}
