-- Marks where paths go on.
use Rattle.std.proofs.Common.{◌≡◌, ℕ, zero, suc, ◌+◌, ◌*◌, ◌-◌, ◌<◌, ◌≤◌, Bool, true, false, ltb, ◌||◌, List, [], ◌∷◌, ◌++◌, length, get_or, take, set, replicate, map, Option, Some, refl, sym, ap, ◌∙◌, inl, inr, ◌⊎◌, arith, length-append, length-set}
use Rattle.std.specs.List.{flat_map}
use Rattle.std.proofs.lemmas.List.{get_or_append_left, get_or-append-add, get_or-map, length-map, same_lists, get_or-set_same, get_or-set_other, length-take-le, take_more, get_or_past, length-take, get_or-take}
use Rattle.std.proofs.lemmas.List.Folds.{list_any_more, list_any_at}
use Rattle.std.proofs.lemmas.Bool.{cases_Bool, cases_eq, eq-eqb, ne_eqb, ltb-true, ltb-false}
use Rattle.trie.proofs.Stages.{Refers}
use Rattle.trie.specs.Fronts.{AreShort, is_proper_prefix, is_front, level, fronts, pages, children}
use Rattle.trie.specs.Stages.{IsStage, marked_with}
use Rattle.trie.specs.Words.{front_page}
use Rattle.trie.specs.Leaf.{Leaf}
use Rattle.trie.proofs.Walks.{AreBytes}
use Rattle.trie.proofs.Fronts.{Has, has_at, level_length, front_level, false_true, child_length, goes_longer, begins_short}
use Rattle.trie.proofs.Distinct.{distinct_at, distinct_children, distinct_level, child_at, length-all_children}
use Rattle.trie.proofs.Stages.{page_of, short_front, front_same}

-- what goes on behind a string is_front with it
pub goes_front : (q p : List ℕ) → is_proper_prefix q p ≡ true → take (length q) p ≡ q
goes_front [] p h = refl
goes_front (x ∷ xs) [] h = absurd (false_true h)
goes_front (x ∷ xs) (y ∷ ys) h = elim (cases_eq x y) [
  | inl e ↦ ap (λ v. v ∷ take (length xs) ys) (sym e)
      ∙ ap (λ vs. x ∷ vs) (goes_front xs ys (rw (eq-eqb x y e) at h))
  | inr n ↦ absurd (false_true (rw (ne_eqb x y n) at h))
]

-- a string goes on from each shorter front of it
pub front_goes : (n : ℕ) (p : List ℕ) → n < length p → is_proper_prefix (take n p) p ≡ true
front_goes zero [] lt = absurd (omega arith)
front_goes zero (y ∷ ys) lt = refl
front_goes (suc n) [] lt = absurd (omega arith)
front_goes (suc n) (y ∷ ys) lt = rw (eq-eqb y y refl) (front_goes n ys (omega arith))

or_true : (b : Bool) → (b || true) ≡ true
or_true true = refl
or_true false = refl

or_false : (b : Bool) → (b || false) ≡ b
or_false true = refl
or_false false = refl

-- a mark for one leaf more
more_mark : (leaves : List Leaf) (cs : List (List ℕ)) (m i at : ℕ) (d : Leaf) → i < length leaves →
    at < length cs → get_or cs at [] ≡ take m (get_or leaves i d).path → m < length (get_or leaves i d).path
    → ((k : ℕ) → k < length cs → length (get_or cs k []) ≡ m) →
    ((k : ℕ) → k < length cs → get_or cs k [] ≡ get_or cs at [] → k ≡ at)
    → set (map (is_front (take i leaves)) cs) at true ≡ map (is_front (take (i + 1) leaves)) cs
more_mark leaves cs m i at d lt room here long each once =
    same_lists (set (map (is_front (take i leaves)) cs) at true) (map (is_front (take (i + 1) leaves)) cs)
    (length-set (map (is_front (take i leaves)) cs) at true ∙ length-map cs (is_front (take i leaves))
    ∙ sym (length-map cs (is_front (take (i + 1) leaves))))
    (λ k e below.
    let p = (get_or leaves i d).path in
    let small : k < length cs =
    omega (
      arith,
      length-set (map (is_front (take i leaves)) cs) at true,
      length-map cs
          (is_front (take i leaves)),
    ) in
    let right : get_or (map (is_front (take (i + 1) leaves)) cs) k
    e ≡ (is_front (take i leaves) (get_or cs k []) || is_proper_prefix (get_or cs k []) p) =
    get_or-map (is_front (take (i + 1) leaves)) cs k [] e small
    ∙ list_any_more (λ l. is_proper_prefix (get_or cs k []) l.path) leaves i d lt in
    elim (cases_eq k at) [
      | inl same ↦
          let goes : is_proper_prefix (get_or cs k []) p ≡ true =
          ap (λ j. is_proper_prefix (get_or cs j []) p) same ∙ ap (λ q. is_proper_prefix q p) here
          ∙ front_goes m p long in
          ap (λ j. get_or (set (map (is_front (take i leaves)) cs) at true) j e) same
          ∙ get_or-set_same (map (is_front (take i leaves)) cs) at true e
          (omega (arith, length-map cs (is_front (take i leaves))))
          ∙ sym (right ∙ ap (λ b. is_front (take i leaves) (get_or cs k []) || b) goes
          ∙ or_true (is_front (take i leaves) (get_or cs k [])))
      | inr other ↦
          let stays : is_proper_prefix (get_or cs k []) p ≡ false =
          elim (cases_Bool (is_proper_prefix (get_or cs k []) p)) [
            | inl t ↦ absurd (other (once k small
                (sym (goes_front (get_or cs k []) p t) ∙ ap (λ j. take j p) (each k small) ∙ sym here)))
            | inr f ↦ f
          ] in
          get_or-set_other (map (is_front (take i leaves)) cs) at k true e other
          ∙ get_or-map (is_front (take i leaves)) cs k [] e small
          ∙ sym (right ∙ ap (λ b. is_front (take i leaves) (get_or cs k []) || b) stays
          ∙ or_false (is_front (take i leaves) (get_or cs k [])))
    ])

-- a short leaf marks nothing
pub no_mark : (leaves : List Leaf) (cs : List (List ℕ)) (m i : ℕ) (d : Leaf) → i < length leaves →
    length (get_or leaves i d).path ≤ m → ((k : ℕ) → k < length cs → length (get_or cs k []) ≡ m)
    → map (is_front (take i leaves)) cs ≡ map (is_front (take (i + 1) leaves)) cs
no_mark leaves cs m i d lt brief each =
    same_lists (map (is_front (take i leaves)) cs) (map (is_front (take (i + 1) leaves)) cs)
    (length-map cs (is_front (take i leaves)) ∙ sym (length-map cs (is_front (take (i + 1) leaves))))
    (λ k e below.
    let p = (get_or leaves i d).path in
    let small : k < length cs = omega (arith, length-map cs (is_front (take i leaves))) in
    let stays : is_proper_prefix (get_or cs k []) p ≡ false =
    elim (cases_Bool (is_proper_prefix (get_or cs k []) p)) [
      | inl t ↦ absurd (let l = goes_longer (get_or cs k []) p t in omega (arith, l, each k small))
      | inr f ↦ f
    ] in
    get_or-map (is_front (take i leaves)) cs k [] e small
    ∙ sym (get_or-map (is_front (take (i + 1) leaves)) cs k [] e small
    ∙ list_any_more (λ l. is_proper_prefix (get_or cs k []) l.path) leaves i d lt
    ∙ ap (λ b. is_front (take i leaves) (get_or cs k []) || b) stays
    ∙ or_false (is_front (take i leaves) (get_or cs k []))))

-- where the page of a leaf's front stands
pub record IsLevelPage (leaves : List Leaf) (first n : ℕ) (q : List ℕ) (o : Option ℕ) (i : ℕ) : Type 0 where
  pub within : i < length (level leaves n)
  pub there : get_or (level leaves n) i [] ≡ q
  pub is : o ≡ Some (first + length (fronts leaves n) + i)

below_or : (a b : ℕ) → (a < b) ⊎ (b ≤ a)
below_or a b = elim (cases_Bool (ltb a b)) [ inl t ↦ inl (ltb-true a b t) | inr f ↦ inr (ltb-false a b f) ]

at_least : (leaves : List Leaf) (n j : ℕ) → j < length (fronts leaves (suc n)) →
    length (get_or (fronts leaves (suc n)) j []) ≡ n → length (fronts leaves n) ≤ j
at_least leaves n j low len = elim (below_or j (length (fronts leaves n))) [
  | inl a ↦
      let e : get_or (fronts leaves (suc n)) j [] ≡ get_or (fronts leaves n) j [] =
      get_or_append_left (fronts leaves n) (level leaves n) [] j a in
      let v = front_level leaves n (get_or (fronts leaves n) j [])
      (has_at (get_or (fronts leaves n) j []) (fronts leaves n) j a refl) in
      absurd (omega (arith, v.1, ap length e, level_length leaves v.0 (get_or (fronts leaves n) j []) v.2))
  | inr b ↦ b
]

-- the page of a front, by its place in its level
pub level_page : (leaves : List Leaf) (first n : ℕ) (ws : List ℕ) → n ≤ 3 → AreShort 4 leaves →
    Refers leaves first n ws → (q : List ℕ) → AreBytes q → length q ≡ n → is_front leaves q ≡ true
    → (i : ℕ) × IsLevelPage leaves first n q (front_page ws first q) i
level_page leaves first n ws le short st q ok len t =
    let v = page_of leaves first n ws le short st q 0
    (omega (
      arith,
      length-append (fronts leaves 3) (level leaves 3),
      length-append (fronts leaves 2)
          (level leaves 2),
      length-append (fronts leaves 1) (level leaves 1),
    )) ok (omega arith) t in
    let j = v.0 in
    let there : get_or (pages leaves) j [] ≡ q = v.2.there in
    let low : j < length (fronts leaves (suc n)) =
    short_front leaves (suc n) 4 j (omega arith) v.2.within (omega (arith, ap length there)) in
    let here : get_or (fronts leaves (suc n)) j [] ≡ q =
    sym (front_same leaves (suc n) 4 j (omega arith) low) ∙ there in
    let high : length (fronts leaves n) ≤ j = at_least leaves n j low (ap length here ∙ len) in
    let i = j - length (fronts leaves n) in
    let sum : j ≡ length (fronts leaves n) + i = omega arith in (
      i,
      record {
        within = omega (arith, length-append (fronts leaves n) (level leaves n));
        there = sym (get_or-append-add (fronts leaves n) (level leaves n) i [])
            ∙ ap (λ m. get_or (fronts leaves (suc n)) m []) (sym sum) ∙ here;
        is = ap (λ m. front_page ws m q) (let z : first ≡ first + 0 = omega arith in z) ∙ v.1
            ∙ ap Some (omega arith);
      },
    )

-- a front of bytes is bytes
pub take_bytes : (n : ℕ) (p : List ℕ) → AreBytes p → AreBytes (take n p)
take_bytes n p ok i = elim (below_or i (length (take n p))) [
  | inl a ↦ omega (arith, ok i, get_or-take n p i 0 (omega (arith, length-take n p)))
  | inr b ↦ omega
      (arith, get_or_past (take n p) i 0 b)
]

level_each : (leaves : List Leaf) (n k : ℕ) → k < length (flat_map children (level leaves n)) →
    length (get_or (flat_map children (level leaves n)) k []) ≡ n + 1
level_each leaves n k lt = let cs = flat_map children (level leaves n) in
    child_length n (level leaves n) (level_length leaves n) (get_or cs k [])
    (has_at (get_or cs k []) cs k lt refl)

-- one leaf more, long enough to go on
pub mark_step : (leaves : List Leaf) (first n : ℕ) (ws : List ℕ) (i : ℕ) (d : Leaf) (ms : List Bool) →
    n ≤ 3 → AreShort 4 leaves → IsStage leaves first n ws → i < length leaves →
    AreBytes (get_or leaves i d).path → n + 1 < length (get_or leaves i d).path
    → ms ≡ map (is_front (take i leaves)) (flat_map children (level leaves n))
    → marked_with ms (front_page ws first (take n (get_or leaves i d).path))
    (first + length (fronts leaves n)) (get_or (get_or leaves i d).path n 0) ≡ map
    (is_front (take (i + 1) leaves)) (flat_map children (level leaves n))
mark_step leaves first n ws i d ms le short st lt ok long is =
    let p = (get_or leaves i d).path in
    let cs = flat_map children (level leaves n) in
    let size : length (take n p) ≡ n = length-take-le n p (omega arith) in
    let goes : is_front leaves (take n p) ≡ true =
    list_any_at (λ l. is_proper_prefix (take n p) l.path) leaves i d lt (front_goes n p (omega arith)) in
    let v = level_page leaves first n ws le short
    (record { few = st.few; words = λ k b l w t. st.words k b l w }) (take n p)
    (take_bytes n p ok) size goes in
    let at = 256 * v.0 + get_or p n 0 in
    let room : at < length cs = omega (arith, length-all_children (level leaves n), v.1.within, ok n) in
    let here : get_or cs at [] ≡ take (n + 1) p =
    child_at (level leaves n) v.0 (get_or p n 0) v.1.within (ok n)
    ∙ ap (λ q. q ++ get_or p n 0 ∷ []) v.1.there ∙ sym (take_more p n 0 (omega arith)) in
    let back : first + length (fronts leaves n) + v.0 - (first + length (fronts leaves n)) ≡ v.0 =
    omega arith in
    ap (λ o. marked_with ms o (first + length (fronts leaves n)) (get_or p n 0)) v.1.is
    ∙ ap (λ m. set ms (256 * m + get_or p n 0) true) back ∙ ap (λ x. set x at true) is
    ∙ more_mark leaves cs (n + 1) i at d lt room here long (level_each leaves n)
    (λ k small same. distinct_at cs k at
    (distinct_children (level leaves n) (distinct_level leaves n)) small room same)

-- a path that goes on no further marks nothing
pub short_step : (leaves : List Leaf) (n i : ℕ) (d : Leaf) (ms : List Bool) → i < length leaves →
    length (get_or leaves i d).path ≤ n + 1 →
    ms ≡ map (is_front (take i leaves)) (flat_map children (level leaves n)) →
    ms ≡ map (is_front (take (i + 1) leaves)) (flat_map children (level leaves n))
short_step leaves n i d ms lt brief is = is
    ∙ no_mark leaves (flat_map children (level leaves n)) (n + 1) i d lt brief (level_each leaves n)

-- at first nothing is marked
pub unmarked : (cs : List (List ℕ)) → replicate (length cs) false ≡ map (is_front []) cs
unmarked [] = refl
unmarked (c ∷ cs) = ap (λ bs. false ∷ bs) (unmarked cs)

-- at first no child of a level is marked
pub unmarked_children : (ps : List (List ℕ)) (n : ℕ) → n ≡ 256 * length ps →
    replicate n false ≡ map (is_front []) (flat_map children ps)
unmarked_children ps n e = ap (λ m. replicate m false) (e ∙ sym (length-all_children ps))
    ∙ unmarked (flat_map children ps)

-- where no path is longer, nothing is marked
none_marked : (leaves : List Leaf) (n most : ℕ) (cs : List (List ℕ)) → AreShort most leaves → most ≤ n →
    ((c : List ℕ) → Has c cs → length c ≡ n) → replicate (length cs) false ≡ map (is_front leaves) cs
none_marked leaves n most [] short le each = refl
none_marked leaves n most (c ∷ cs) short le each =
    let stays : is_front leaves c ≡ false = elim (cases_Bool (is_front leaves c)) [
      | inl t ↦ absurd (let below = begins_short most leaves c short t in
          omega (arith, below, each c (inl refl)))
      | inr f ↦ f
    ] in
    ap (λ b. b ∷ replicate (length cs) false) (sym stays)
    ∙ ap (λ bs. is_front leaves c ∷ bs) (none_marked leaves n most cs short le (λ d h. each d (inr h)))

-- so no child of a level is
pub none_longer_marked : (leaves : List Leaf) (n most many : ℕ) → AreShort most leaves → most ≤ n + 1 →
    many ≡ 256 * length (level leaves n) →
    replicate many false ≡ map (is_front leaves) (flat_map children (level leaves n))
none_longer_marked leaves n most many short le e =
    ap (λ m. replicate m false) (e ∙ sym (length-all_children (level leaves n)))
    ∙ none_marked leaves (n + 1) most (flat_map children (level leaves n)) short le
    (λ c h. child_length n (level leaves n) (level_length leaves n) c h)
