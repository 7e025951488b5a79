-- References to the pages of the next level.
use Rattle.std.proofs.Common.{◌≡◌, ◌≢◌, ℕ, zero, suc, ◌+◌, ◌*◌, ◌-◌, ◌^◌, ◌<◌, ◌≤◌, Bool, true, false, cond, ltb, List, [], ◌∷◌, ◌++◌, length, get_or, map, Option, Some, None, refl, sym, ap, ◌∙◌, subst, inl, inr, ◌⊎◌, arith, add-one, length-append}
use Rattle.std.specs.List.{flat_map, filter}
use Rattle.std.specs.Prelude.{count_by}
use Rattle.std.proofs.lemmas.List.Recursion.{is_count_by}
use Rattle.std.specs.Option.{option_map}
use Rattle.std.proofs.lemmas.List.{get_or_append_left, get_or-append-add}
use Rattle.std.proofs.lemmas.Bool.{cases_Bool, cases_eq, ltb-true, ltb-false}
use Rattle.trie.specs.Fronts.{AreShort, is_front, level, fronts, pages, children}
use Rattle.trie.specs.Stages.{numbered, ref_cell, IsStage}
use Rattle.trie.specs.Trie.{place_of, cell_word}
use Rattle.trie.specs.Leaf.{Leaf}
use Rattle.trie.proofs.Places.{place_there, bytes_same, bytes_differ, found_place}
use Rattle.trie.proofs.Fronts.{Has, has_at, kept_has, level_length, front_level, has_found, begins_short}
use Rattle.trie.proofs.Distinct.{Distinct, distinct_at, distinct_fronts, distinct_level, distinct_children, cells_at}
use Rattle.trie.proofs.Stages.{front_same}

same_map : (f g : List ℕ → ℕ) (cs : List (List ℕ)) → ((c : List ℕ) → Has c cs → f c ≡ g c) →
    map f cs ≡ map g cs
same_map f g [] each = refl
same_map f g (c ∷ cs) each = ap (λ v. v ∷ map f cs) (each c (inl refl))
    ∙ ap (λ vs. g c ∷ vs) (same_map f g cs (λ d h. each d (inr h)))

no_place : (q : List ℕ) (ps : List (List ℕ)) (o : Option ℕ) → place_of q ps ≡ o → (Has q ps → ⊥) → o ≡ None
no_place q ps None e n = refl
no_place q ps (Some j) e n = let r = place_there q ps j e in absurd (n (has_at q ps j r.within r.there))

-- what does not stand in a list has no place
pub place_none : (q : List ℕ) (ps : List (List ℕ)) → (Has q ps → ⊥) → place_of q ps ≡ None
place_none q ps n = no_place q ps (place_of q ps) refl n

next_word : (next : ℕ) (o : Option ℕ) →
    cell_word (next + 1) None o ≡ cell_word next None (option_map (λ k. k + 1) o)
next_word next None = refl
next_word next (Some k) = omega arith

behind_first : (next : ℕ) (c d : List ℕ) (ps : List (List ℕ)) → c ≢ d →
    cell_word (next + 1) None (place_of d ps) ≡ cell_word next None (place_of d (c ∷ ps))
behind_first next c d ps ne = rw (bytes_differ c d ne) (next_word next (place_of d ps))

first_place : (c : List ℕ) (ps : List (List ℕ)) → place_of c (c ∷ ps) ≡ Some 0
first_place c ps = rw (bytes_same c) refl

kept_first : (f : List ℕ → Bool) (c : List ℕ) (cs : List (List ℕ)) → f c ≡ true →
    filter f (c ∷ cs) ≡ c ∷ filter f cs
kept_first f c cs t = rw t refl

left_first : (f : List ℕ → Bool) (c : List ℕ) (cs : List (List ℕ)) → f c ≡ false →
    filter f (c ∷ cs) ≡ filter f cs
left_first f c cs t = rw t refl

number_first : (b : Bool) (ms : List Bool) (next : ℕ) → b ≡ true →
    numbered next (b ∷ ms) ≡ (2 ^ 61 + next) ∷ numbered (next + 1) ms
number_first b ms next t = rw t refl

zero_first : (b : Bool) (ms : List Bool) (next : ℕ) → b ≡ false →
    numbered next (b ∷ ms) ≡ 0 ∷ numbered next ms
zero_first b ms next t = rw t refl

-- the marks' numbers are the places among what is marked
pub numbers : (f : List ℕ → Bool) (cs : List (List ℕ)) (next : ℕ) → Distinct cs →
    numbered next (map f cs) ≡ map (λ c. cell_word next None (place_of c (filter f cs))) cs
numbers f [] next d = refl
numbers f (c ∷ cs) next d = elim (cases_Bool (f c)) [
  | inl t ↦
      let kept = kept_first f c cs t in
      let head : 2 ^ 61 + next ≡ cell_word next None (place_of c (filter f (c ∷ cs))) =
      ap (λ n. 2 ^ 61 + n) (let e : next ≡ next + 0 = omega arith in e)
      ∙ ap (cell_word next None) (sym (ap (place_of c) kept ∙ first_place c (filter f cs))) in
      let tail : numbered (next + 1) (map f cs) ≡ map
      (λ x. cell_word next None (place_of x (filter f (c ∷ cs)))) cs =
      numbers f cs (next + 1) d.1
      ∙ same_map (λ x. cell_word (next + 1) None (place_of x (filter f cs)))
      (λ x. cell_word next None (place_of x (filter f (c ∷ cs)))) cs
      (λ x h. behind_first next c x (filter f cs) (λ e. d.0 (subst (λ y. Has y cs) (sym e) h))
      ∙ ap (λ ps. cell_word next None (place_of x ps)) (sym kept)) in
      number_first (f c) (map f cs) next t ∙ ap (λ w. w ∷ numbered (next + 1) (map f cs)) head
      ∙ ap (λ ws. cell_word next None (place_of c (filter f (c ∷ cs))) ∷ ws) tail
  | inr u ↦
      let left = left_first f c cs u in
      let head : 0 ≡ cell_word next None (place_of c (filter f (c ∷ cs))) =
      ap (cell_word next None)
      (sym (ap (place_of c) left ∙ place_none c (filter f cs) (λ h. d.0 (kept_has f c cs h).1))) in
      let tail : numbered next (map f cs) ≡ map
      (λ x. cell_word next None (place_of x (filter f (c ∷ cs)))) cs =
      numbers f cs next d.1 ∙ same_map (λ x. cell_word next None (place_of x (filter f cs)))
      (λ x. cell_word next None (place_of x (filter f (c ∷ cs)))) cs
      (λ x h. ap (λ ps. cell_word next None (place_of x ps)) (sym left)) in
      zero_first (f c) (map f cs) next u ∙ ap (λ w. w ∷ numbered next (map f cs)) head
      ∙ ap (λ ws. cell_word next None (place_of c (filter f (c ∷ cs))) ∷ ws) tail
]

-- a place is the only one
pub place_is : (q : List ℕ) (ps : List (List ℕ)) (k : ℕ) → Distinct ps → k < length ps → get_or ps k [] ≡ q →
    place_of q ps ≡ Some k
place_is q ps k d lt e = is q ps k d lt e (place_of q ps) refl
  where
    is : (q : List ℕ) (ps : List (List ℕ)) (k : ℕ) → Distinct ps → k < length ps → get_or ps k [] ≡ q →
        (o : Option ℕ) → place_of q ps ≡ o → place_of q ps ≡ Some k
    is q ps k d lt e None n = absurd (found_place q ps k lt e n)
    is q ps k d lt e (Some j) n = let r = place_there q ps j n in n
        ∙ ap Some (distinct_at ps j k d r.within lt (r.there ∙ sym e))

-- more lengths have no fewer fronts
pub fronts_grow : (leaves : List Leaf) (n m : ℕ) → n ≤ m → length (fronts leaves n) ≤ length (fronts leaves m)
fronts_grow leaves n zero le = let e : n ≡ 0 = omega arith in
    subst (λ i. length (fronts leaves i) ≤ 0) (sym e) (omega arith)
fronts_grow leaves n (suc m) le = elim (cases_eq n (suc m)) [
  | inl e ↦ subst (λ i. length (fronts leaves i) ≤ length (fronts leaves (suc m))) (sym e) (omega arith)
  | inr ne ↦ omega (
    arith,
    fronts_grow leaves n m (omega arith),
    length-append (fronts leaves m)
        (level leaves m),
  )
]

-- the pages of one level, by the places in the next
level_word : (leaves : List Leaf) (first n : ℕ) (c : List ℕ) → n ≤ 3 → AreShort 4 leaves → length c ≡ n + 1 →
    (o : Option ℕ) → place_of c (level leaves (suc n)) ≡ o
    → cell_word (first + length (fronts leaves (suc n))) None o ≡ ref_cell leaves first c
level_word leaves first n c le short len None e =
    ap (cell_word first None) (sym (place_none c (pages leaves) (λ h.
    let v = front_level leaves 4 c h in
    let m : v.0 ≡ suc n = sym (level_length leaves v.0 c v.2) ∙ len ∙ add-one n in
    has_found c (level leaves (suc n)) (subst (λ i. Has c (level leaves i)) m v.2) e)))
level_word leaves first n c le short len (Some k) e =
    let r = place_there c (level leaves (suc n)) k e in
    let h = has_at c (level leaves (suc n)) k r.within r.there in
    let few : length c < 4 =
    begins_short 4 leaves c short
    (kept_has (is_front leaves) c (flat_map children (level leaves n)) h).0 in
    let j = length (fronts leaves (suc n)) + k in
    let lt : j < length (fronts leaves (suc (suc n))) =
    omega (arith, r.within, length-append (fronts leaves (suc n)) (level leaves (suc n))) in
    let there : get_or (pages leaves) j [] ≡ c = front_same leaves (suc (suc n)) 4 j (omega arith) lt
    ∙ get_or-append-add (fronts leaves (suc n)) (level leaves (suc n)) k [] ∙ r.there in
    ap (λ m. 2 ^ 61 + m) (let a : first + length (fronts leaves (suc n)) + k ≡ first + j = omega arith in a)
    ∙ ap (cell_word first None)
    (sym (place_is c (pages leaves) j (distinct_fronts leaves 4)
    (omega (arith, fronts_grow leaves (suc (suc n)) 4 (omega arith))) there))

below_or : (a b : ℕ) → (a < b) ⊎ (b ≤ a)
below_or a b = elim (cases_Bool (ltb a b)) [ inl t ↦ inl (ltb-true a b t) | inr f ↦ inr (ltb-false a b f) ]

-- one level more
pub stage_next : (leaves : List Leaf) (first n : ℕ) (ws : List ℕ) (ms : List Bool) → n ≤ 3 →
    AreShort 4 leaves → IsStage leaves first n ws → length ws ≡ 256 * (first + length (fronts leaves n))
    → ms ≡ map (is_front leaves) (flat_map children (level leaves n)) →
    first + length (fronts leaves (suc (suc n))) ≤ 2 ^ 32
    → IsStage leaves first (suc n) (ws ++ numbered (first + length (fronts leaves (suc n))) ms)
stage_next leaves first n ws ms le short st size is few = record {
  few = few;
  words = λ k b lt small.
      let cs = flat_map children (level leaves n) in
      let next = first + length (fronts leaves (suc n)) in
      let added = numbered next ms in
      elim (below_or k (length (fronts leaves n))) [
        | inl a ↦ get_or_append_left ws added 0 (256 * (first + k) + b) (omega arith) ∙ st.words k b a small
        | inr h ↦
            let i = k - length (fronts leaves n) in
            let room : i < length (level leaves n) =
            omega (arith, length-append (fronts leaves n) (level leaves n)) in
            let at : 256 * (first + k) + b ≡ length ws + (256 * i + b) = omega arith in
            let q = get_or (level leaves n) i [] in
            let whole : get_or (pages leaves) k [] ≡ q = front_same leaves (suc n) 4 k (omega arith) lt
            ∙ ap (λ j. get_or (fronts leaves (suc n)) j [])
            (let e : k ≡ length (fronts leaves n) + i = omega arith in e)
            ∙ get_or-append-add (fronts leaves n) (level leaves n) i [] in
            let len : length (q ++ b ∷ []) ≡ n + 1 = length-append q (b ∷ [])
            ∙ ap (λ m. m + 1) (level_length leaves n q (has_at q (level leaves n) i room refl)) in
            ap (λ j. get_or (ws ++ added) j 0) at ∙ get_or-append-add ws added (256 * i + b) 0
            ∙ ap (λ xs. get_or xs (256 * i + b) 0)
            (ap (numbered next) is
            ∙ numbers (is_front leaves) cs next
            (distinct_children (level leaves n) (distinct_level leaves n)))
            ∙ cells_at (λ c. cell_word next None (place_of c (level leaves (suc n))))
            (level leaves n) i b room small
            ∙ level_word leaves first n (q ++ b ∷ []) le short len
            (place_of (q ++ b ∷ []) (level leaves (suc n))) refl
            ∙ ap (λ v. ref_cell leaves first (v ++ b ∷ [])) (sym whole)
      ];
}

-- there is a word for each mark
pub length-numbered : (ms : List Bool) (next : ℕ) → length (numbered next ms) ≡ length ms
length-numbered [] next = refl
length-numbered (true ∷ ms) next = ap suc (length-numbered ms (next + 1))
length-numbered (false ∷ ms) next = ap suc (length-numbered ms next)

kept_length : (f : List ℕ → Bool) (cs : List (List ℕ)) →
    length (filter (λ m. m) (map f cs)) ≡ length (filter f cs)
kept_length f [] = refl
kept_length f (c ∷ cs) = elim (cases_Bool (f c)) [
  | inl t ↦ rw t (ap suc (kept_length f cs))
  | inr u ↦ rw u (kept_length f cs)
]

one_more : (b : Bool) (ms : List Bool) →
    length (filter (λ m. m) (b ∷ ms)) ≡ cond b (1 + length (filter (λ m. m) ms)) (length (filter (λ m. m) ms))
one_more true ms = omega arith
one_more false ms = refl

-- as many marks stand as strings pass
pub count_marks : (f : List ℕ → Bool) (cs : List (List ℕ)) →
    count_by (λ m. m) (map f cs) ≡ length (filter f cs)
count_marks f cs = sym (is_count_by (λ ms. length (filter (λ m. m) ms)) (λ m. m) refl one_more (map f cs))
    ∙ kept_length f cs
