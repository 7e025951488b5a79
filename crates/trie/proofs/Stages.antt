-- Levels of pages, one after another.
use Rattle.std.proofs.Common.{◌≡◌, ◌≢◌, ℕ, zero, suc, ◌+◌, ◌*◌, ◌-◌, ◌/◌, ◌%◌, ◌^◌, ◌<◌, ◌≤◌, Bool, true, false, cond, eqb, ◌||◌, List, [], ◌∷◌, ◌++◌, length, get_or, take, drop, set, map, Option, Some, None, refl, sym, ap, ◌∙◌, subst, inl, inr, ◌⊎◌, arith, add-one, append_assoc, append-nil, length-append}
use Rattle.std.specs.Option.{option_and_then}
use Rattle.std.proofs.lemmas.List.{get_or_append_left, get_or-append-add}
use Rattle.std.proofs.lemmas.Bool.{cases_Bool, cases_eq, eq-eqb, ne_eqb}
use Rattle.trie.specs.Fronts.{AreShort, is_front, level, fronts, pages}
use Rattle.trie.specs.Stages.{ref_cell}
use Rattle.trie.specs.Trie.{place_of, cell_word}
use Rattle.trie.specs.Words.{front_page, page_in, word_in}
use Rattle.trie.specs.Leaf.{Leaf}
use Rattle.trie.proofs.Places.{place_there, begins_front}
use Rattle.trie.proofs.Walks.{page_in_ref, AreBytes}
use Rattle.trie.proofs.Fronts.{has_at, level_length, placed}

-- in the words the pages of the fronts shorter than n, from a page on, refer to those of their children that
-- paths go on from
pub record Refers (leaves : List Leaf) (first n : ℕ) (ws : List ℕ) : Type 0 where
  pub few : first + length (fronts leaves (suc n)) ≤ 2 ^ 32
  pub words : (k b : ℕ) → k < length (fronts leaves n) → b < 256 →
      is_front leaves (get_or (pages leaves) k [] ++ b ∷ []) ≡ true →
      word_in ws (first + k) b ≡ ref_cell leaves first (get_or (pages leaves) k [] ++ b ∷ [])

-- fronts stand where they stood, behind which longer ones follow
pub front_same : (leaves : List Leaf) (n m k : ℕ) → n ≤ m → k < length (fronts leaves n) →
    get_or (fronts leaves m) k [] ≡ get_or (fronts leaves n) k []
front_same leaves n zero k le lt = let e : n ≡ 0 = omega arith in
    ap (λ i. get_or (fronts leaves i) k []) (sym e)
front_same leaves n (suc m) k le lt = elim (cases_eq n (suc m)) [
  | inl e ↦ ap (λ i. get_or (fronts leaves i) k []) (sym e)
  | inr ne ↦ get_or_append_left (fronts leaves m) (level leaves m) [] k
      (omega (arith, fronts_grow leaves n m (omega arith))) ∙ front_same leaves n m k (omega arith) lt
]
  where
    fronts_grow : (leaves : List Leaf) (n m : ℕ) → n ≤ m → length (fronts leaves n) ≤ length (fronts leaves m)
    fronts_grow leaves n zero le = let e : n ≡ 0 = omega arith in
        subst (λ i. length (fronts leaves i) ≤ 0) (sym e) (omega arith)
    fronts_grow leaves n (suc m) le = elim (cases_eq n (suc m)) [
      | inl e ↦ subst (λ i. length (fronts leaves i) ≤ length (fronts leaves (suc m))) (sym e) (omega arith)
      | inr ne ↦ omega (
        arith,
        fronts_grow leaves n m (omega arith),
        length-append (fronts leaves m)
            (level leaves m),
      )
    ]

-- a short front stands among the short ones
pub short_front : (leaves : List Leaf) (n m k : ℕ) → n ≤ m → k < length (fronts leaves m) →
    length (get_or (fronts leaves m) k []) < n → k < length (fronts leaves n)
short_front leaves n zero k le lt s = omega arith
short_front leaves n (suc m) k le lt s = elim (cases_eq n (suc m)) [
  | inl e ↦ subst (λ i. k < length (fronts leaves i)) (sym e) lt
  | inr ne ↦ elim (below_or k (length (fronts leaves m))) [
    | inl a ↦ short_front leaves n m k (omega arith) a
        (let e = get_or_append_left (fronts leaves m) (level leaves m) [] k a in omega (arith, ap length e))
    | inr b ↦
        let i = k - length (fronts leaves m) in
        let there : get_or (fronts leaves m ++ level leaves m) k [] ≡ get_or (level leaves m) i [] =
        ap (λ j. get_or (fronts leaves m ++ level leaves m) j [])
        (let e : k ≡ length (fronts leaves m) + i = omega arith in e)
        ∙ get_or-append-add (fronts leaves m) (level leaves m) i [] in
        let len : length (get_or (level leaves m) i []) ≡ m =
        level_length leaves m (get_or (level leaves m) i [])
        (has_at (get_or (level leaves m) i []) (level leaves m) i
        (omega (arith, length-append (fronts leaves m) (level leaves m))) refl) in
        absurd (omega (arith, ap length there, len))
  ]
]
  where
    below_or : (a b : ℕ) → (a < b) ⊎ (b ≤ a)
    below_or a b = elim (cases_Bool (Rattle.std.proofs.Common.ltb a b)) [
      | inl t ↦ inl (Rattle.std.proofs.lemmas.Bool.ltb-true a b t)
      | inr f ↦ inr
          (Rattle.std.proofs.lemmas.Bool.ltb-false a b f)
    ]

-- the page of a front, and its place
pub record IsPage (leaves : List Leaf) (q : List ℕ) (j : ℕ) : Type 0 where
  pub within : j < length (pages leaves)
  pub there : get_or (pages leaves) j [] ≡ q

next : (leaves : List Leaf) (first n : ℕ) (ws : List ℕ) → n ≤ 3 → AreShort 4 leaves →
    Refers leaves first n ws → (b : ℕ) (bs : List ℕ) (k : ℕ) → AreBytes (b ∷ bs) →
    length (get_or (pages leaves) k []) + length (b ∷ bs) ≤ n
    → k < length (fronts leaves n) →
    (get_or (pages leaves) k [] ++ b ∷ []) ++ bs ≡ get_or (pages leaves) k [] ++ b ∷ bs →
    word_in ws (first + k) b ≡ ref_cell leaves first (get_or (pages leaves) k [] ++ b ∷ [])
    → is_front leaves ((get_or (pages leaves) k [] ++ b ∷ []) ++ bs) ≡ true
    → ((j : ℕ) → j < length (pages leaves) → length (get_or (pages leaves) j []) + length bs ≤ n →
    is_front leaves (get_or (pages leaves) j [] ++ bs) ≡ true →
    (i : ℕ) × (front_page ws (first + j) bs ≡ Some (first + i)) × IsPage leaves
    (get_or (pages leaves) j [] ++ bs) i)
    → (o : Option ℕ) → place_of (get_or (pages leaves) k [] ++ b ∷ []) (pages leaves) ≡ o → (o ≡ None → ⊥)
    → (j : ℕ) × (front_page ws (first + k) (b ∷ bs) ≡ Some (first + j)) × IsPage leaves
    (get_or (pages leaves) k [] ++ b ∷ bs) j
next leaves first n ws le short st b bs k ok len within cut word t goes None e some = absurd (some refl)
next leaves first n ws le short st b bs k ok len within cut word t goes (Some j) e some =
    let q = get_or (pages leaves) k [] ++ b ∷ [] in
    let r = place_there q (pages leaves) j e in
    let size : length q ≡ length (get_or (pages leaves) k []) + 1 =
    length-append (get_or (pages leaves) k []) (b ∷ []) in
    let low : j < length (fronts leaves (suc n)) =
    short_front leaves (suc n) 4 j (omega arith) r.within (omega (arith, ap length r.there)) in
    let w : page_in (word_in ws (first + k) b) ≡ Some (first + j) =
    ap page_in (word ∙ ap (cell_word first None) e) ∙ page_in_ref (first + j) (omega (arith, st.few)) in
    let rest = goes j r.within (omega (arith, ap length r.there))
    (ap (λ v. is_front leaves (v ++ bs)) r.there ∙ t) in
    let whole : get_or (pages leaves) j [] ++ bs ≡ get_or (pages leaves) k [] ++ b ∷ bs =
    ap (λ v. v ++ bs) r.there ∙ cut in (
      rest.0,
      ap (option_and_then (λ m. front_page ws m bs)) w
          ∙ rest.1,
      subst (λ v. IsPage leaves v rest.0) whole rest.2,
    )

-- references lead to the page of each front that paths go on from
pub page_of : (leaves : List Leaf) (first n : ℕ) (ws : List ℕ) → n ≤ 3 → AreShort 4 leaves →
    Refers leaves first n ws → (r : List ℕ) (k : ℕ) → k < length (pages leaves) → AreBytes r
    → length (get_or (pages leaves) k []) + length r ≤ n →
    is_front leaves (get_or (pages leaves) k [] ++ r) ≡ true →
    (j : ℕ) × (front_page ws (first + k) r ≡ Some (first + j)) × IsPage leaves
    (get_or (pages leaves) k [] ++ r) j
page_of leaves first n ws le short st [] k lt ok len t =
    (k, refl, record { within = lt; there = sym (append-nil (get_or (pages leaves) k [])) })
page_of leaves first n ws le short st (b ∷ bs) k lt ok len t =
    let p = get_or (pages leaves) k [] in
    let q = p ++ b ∷ [] in
    let cut : q ++ bs ≡ p ++ b ∷ bs = append_assoc p (b ∷ []) bs in
    let goes : is_front leaves q ≡ true = begins_front leaves q bs (ap (is_front leaves) cut ∙ t) in
    let within : k < length (fronts leaves n) = short_front leaves n 4 k (omega arith) lt (omega arith) in
    next leaves first n ws le short st b bs k ok len within cut (st.words k b within (ok 0) goes)
    (ap (is_front leaves) cut ∙ t)
    (λ j w l u. page_of leaves first n ws le short st bs j w (λ i. ok (suc i)) l u)
    (place_of q (pages leaves)) refl
    (λ none. (placed leaves short).inside k b lt (ok 0) goes none)
