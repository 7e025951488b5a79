-- Leaves as runs: the heads alone say which strings paths go on from.
use Rattle.std.proofs.Common.{◌≡◌, ℕ, zero, suc, ◌+◌, ◌^◌, ◌<◌, ◌≤◌, Bool, true, false, eqb, ◌||◌, ◌&&◌, List, [], ◌∷◌, ◌++◌, length, get_or, take, drop, replicate, None, refl, sym, ap, ◌∙◌, subst, inl, inr, arith, append_assoc, append-nil, length-append, Result, Ok, Err}
use Rattle.std.specs.List.{flat_map, filter}
use Rattle.std.proofs.lemmas.List.{get_or_append_left, get_or-append-add, get_or-take, length-take, take_more, take-append-drop}
use Rattle.std.proofs.Math.Seq.{take-length}
use Rattle.std.proofs.lemmas.List.Folds.{list_any-append}
use Rattle.std.proofs.lemmas.Grind.{flat_map-append}
use Rattle.std.proofs.lemmas.Bool.{cases_Bool, cases_eq, eqb-true}
use Rattle.std.specs.Result.{OnOk, IsErr}
use Rattle.std.specs.Str.{bytes_eq}
use Rattle.trie.specs.Fronts.{AreShort, AreLong, is_proper_prefix, is_front, level, fronts, children}
use Rattle.trie.specs.Leaf.{Leaf}
use Rattle.trie.specs.Runs.{raised, later, is_next, Run, run_from, all_of, heads}
use Rattle.trie.specs.Stages.{numbered, IsStage}
use Rattle.trie.specs.Trie.{place_of, cell_word}
use Rattle.trie.proofs.Fronts.{Has, kept_has, begins_short, level_length, false_true}
use Rattle.trie.proofs.Places.{bytes_equal}

-- a raised string is as long
pub length-raised : (n : ℕ) (p : List ℕ) → length (raised n p) ≡ length p
length-raised n [] = refl
length-raised n (x ∷ []) = refl
length-raised n (x ∷ y ∷ ys) = ap suc (length-raised n (y ∷ ys))

-- and has the same front
pub take-raised : (n m : ℕ) (p : List ℕ) → length p ≡ m + 1 → take m (raised n p) ≡ take m p
take-raised n m [] len = absurd (omega (arith, len))
take-raised n zero (x ∷ ys) len = refl
take-raised n (suc m) (x ∷ []) len = absurd (omega (arith, len))
take-raised n (suc m) (x ∷ y ∷ ys) len = ap (λ v. x ∷ v) (take-raised n m (y ∷ ys) (omega (arith, len)))

-- its last number is greater by n
pub get_or-raised : (n m : ℕ) (p : List ℕ) → length p ≡ m + 1 → get_or (raised n p) m 0 ≡ get_or p m 0 + n
get_or-raised n m [] len = absurd (omega (arith, len))
get_or-raised n zero (x ∷ []) len = refl
get_or-raised n zero (x ∷ y ∷ ys) len = absurd (omega (arith, len))
get_or-raised n (suc m) (x ∷ []) len = absurd (omega (arith, len))
get_or-raised n (suc m) (x ∷ y ∷ ys) len = get_or-raised n m (y ∷ ys) (omega (arith, len))

-- the other numbers are the same
pub get_or-raised-front : (n m i : ℕ) (p : List ℕ) → length p ≡ m + 1 → i < m →
    get_or (raised n p) i 0 ≡ get_or p i 0
get_or-raised-front n m i [] len lt = absurd (omega (arith, len))
get_or-raised-front n zero i (x ∷ ys) len lt = absurd (omega (arith, lt))
get_or-raised-front n (suc m) i (x ∷ []) len lt = absurd (omega (arith, len))
get_or-raised-front n (suc m) zero (x ∷ y ∷ ys) len lt = refl
get_or-raised-front n (suc m) (suc i) (x ∷ y ∷ ys) len lt =
    get_or-raised-front n m i (y ∷ ys) (omega (arith, len)) (omega (arith, lt))

-- raised by nothing
pub raised_none : (p : List ℕ) → raised 0 p ≡ p
raised_none [] = refl
raised_none (x ∷ []) = ap (λ n. n ∷ []) (let e : x + 0 ≡ x = omega arith in e)
raised_none (x ∷ y ∷ ys) = ap (λ v. x ∷ v) (raised_none (y ∷ ys))

-- raised twice
pub raised_more : (n : ℕ) (p : List ℕ) → raised 1 (raised n p) ≡ raised (n + 1) p
raised_more n [] = refl
raised_more n (x ∷ []) = ap (λ k. k ∷ []) (let e : x + n + 1 ≡ x + (n + 1) = omega arith in e)
raised_more n (x ∷ y ∷ []) = ap (λ k. x ∷ k ∷ []) (let e : y + n + 1 ≡ y + (n + 1) = omega arith in e)
raised_more n (x ∷ y ∷ z ∷ zs) = ap (λ v. x ∷ v) (raised_more n (y ∷ z ∷ zs))

-- a string goes on from the same ones when it is raised
pub goes-raised : (q : List ℕ) (n : ℕ) (p : List ℕ) → is_proper_prefix q (raised n p) ≡ is_proper_prefix q p
goes-raised [] n [] = refl
goes-raised [] n (x ∷ []) = refl
goes-raised [] n (x ∷ y ∷ ys) = refl
goes-raised (a ∷ q) n [] = refl
goes-raised (a ∷ []) n (x ∷ []) = elim (cases_Bool (eqb a (x + n))) [
  | inl t ↦ rw t (elim (cases_Bool (eqb a x)) [ inl u ↦ rw u refl | inr u ↦ rw u refl ])
  | inr t ↦ rw t (elim (cases_Bool (eqb a x)) [ inl u ↦ rw u refl | inr u ↦ rw u refl ])
]
goes-raised (a ∷ b ∷ q) n (x ∷ []) = elim (cases_Bool (eqb a (x + n))) [
  | inl t ↦ rw t (elim (cases_Bool (eqb a x)) [ inl u ↦ rw u refl | inr u ↦ rw u refl ])
  | inr t ↦ rw t (elim (cases_Bool (eqb a x)) [ inl u ↦ rw u refl | inr u ↦ rw u refl ])
]
goes-raised (a ∷ q) n (x ∷ y ∷ ys) = ap (λ b. eqb a x && b) (goes-raised q n (y ∷ ys))

-- the leaf itself
pub later_none : (l : Leaf) → later 0 l ≡ l
later_none l = ap (λ (o : Leaf). o)
    (let e : record { path = raised 0 l.path; word = l.word + 0 } ≡ l = two (raised_none l.path) (omega arith) in e)
  where
    two : {p q : List ℕ} {v w : ℕ} → p ≡ q → v ≡ w →
        let a : Leaf = record { path = p; word = v } in let b : Leaf = record { path = q; word = w } in a ≡ b
    two {p} {q} {v} {w} e f = ap (λ x. let a : Leaf = record { path = x; word = v } in a) e
        ∙ ap (λ x. let a : Leaf = record { path = q; word = x } in a) f

-- what stands next to a leaf in a run
pub next_is : (a b : Leaf) → is_next a b ≡ true → b ≡ later 1 a
next_is a b t = elim (cases_Bool (bytes_eq b.path (raised 1 a.path))) [
  | inl u ↦ elim (cases_Bool (eqb b.word (a.word + 1))) [
    | inl v ↦ two (bytes_equal b.path (raised 1 a.path) u) (eqb-true b.word (a.word + 1) v)
    | inr v ↦ absurd (false_true (sym (rw u (rw v refl)) ∙ t))
  ]
  | inr u ↦ absurd (false_true (sym (rw u refl) ∙ t))
]
  where
    two : {p q : List ℕ} {v w : ℕ} → p ≡ q → v ≡ w →
        let a : Leaf = record { path = p; word = v } in let b : Leaf = record { path = q; word = w } in a ≡ b
    two {p} {q} {v} {w} e f = ap (λ x. let a : Leaf = record { path = x; word = v } in a) e
        ∙ ap (λ x. let a : Leaf = record { path = q; word = x } in a) f

-- one place further on
pub later_more : (n : ℕ) (l : Leaf) → later 1 (later n l) ≡ later (n + 1) l
later_more n l = two (raised_more n l.path) (let e : l.word + n + 1 ≡ l.word + (n + 1) = omega arith in e)
  where
    two : {p q : List ℕ} {v w : ℕ} → p ≡ q → v ≡ w →
        let a : Leaf = record { path = p; word = v } in let b : Leaf = record { path = q; word = w } in a ≡ b
    two {p} {q} {v} {w} e f = ap (λ x. let a : Leaf = record { path = x; word = v } in a) e
        ∙ ap (λ x. let a : Leaf = record { path = q; word = x } in a) f

-- a run has so many leaves
pub length-run : (h : Leaf) (n : ℕ) → length (run_from h n) ≡ n
length-run h zero = refl
length-run h (suc n) = omega (arith, length-append (run_from h n) (later n h ∷ []), length-run h n)

-- each is as many places on
pub run_leaf : (h : Leaf) (n i : ℕ) (d : Leaf) → i < n → get_or (run_from h n) i d ≡ later i h
run_leaf h zero i d lt = absurd (omega arith)
run_leaf h (suc n) i d lt = elim (cases_eq i n) [
  | inl e ↦ ap (λ k. get_or (run_from h n ++ later n h ∷ []) k d)
      (let z : i ≡ length (run_from h n) + 0 = omega (arith, e, length-run h n) in z)
      ∙ get_or-append-add (run_from h n) (later n h ∷ []) 0 d
      ∙ ap (λ k. later k h) (sym e)
  | inr ne ↦ get_or_append_left (run_from h n) (later n h ∷ []) d i (omega (arith, length-run h n, ne))
      ∙ run_leaf h n i d (omega arith)
]

or_same : (b : Bool) → (b || (b || false)) ≡ b
or_same true = refl
or_same false = refl

-- paths of a run go on from the strings that its head goes on from
front_run : (h : Leaf) (n : ℕ) (q : List ℕ) → is_front (run_from h (suc n)) q ≡ is_proper_prefix q h.path
front_run h zero q = ap (λ b. b || false) (goes-raised q 0 h.path) ∙ or_none (is_proper_prefix q h.path)
  where
    or_none : (b : Bool) → (b || false) ≡ b
    or_none true = refl
    or_none false = refl
front_run h (suc n) q =
    list_any-append (λ l. is_proper_prefix q l.path) (run_from h (suc n)) (later (suc n) h ∷ [])
    ∙ ap (λ b. b || (is_proper_prefix q (raised (suc n) h.path) || false)) (front_run h n q)
    ∙ ap (λ b. is_proper_prefix q h.path || (b || false)) (goes-raised q (suc n) h.path)
    ∙ or_same (is_proper_prefix q h.path)

-- the heads say which strings paths go on from
pub heads_front : (runs : List Run) (q : List ℕ) → is_front (heads runs) q ≡ is_front (all_of runs) q
heads_front [] q = refl
heads_front (r ∷ rs) q = ap (λ b. is_proper_prefix q r.head.path || b) (heads_front rs q)
    ∙ ap (λ b. b || is_front (all_of rs) q) (sym (front_run r.head r.more q))
    ∙ sym (list_any-append (λ l. is_proper_prefix q l.path) (run_from r.head (suc r.more)) (all_of rs))

short_append : (m : ℕ) (xs ys : List Leaf) → AreShort m xs → AreShort m ys → AreShort m (xs ++ ys)
short_append m [] ys a b = b
short_append m (x ∷ xs) ys a b = (a.0, short_append m xs ys a.1 b)

long_append : (m : ℕ) (xs ys : List Leaf) → AreLong m xs → AreLong m ys → AreLong m (xs ++ ys)
long_append m [] ys a b = b
long_append m (x ∷ xs) ys a b = (a.0, long_append m xs ys a.1 b)

run_short : (m : ℕ) (h : Leaf) (n : ℕ) → length h.path ≤ m → AreShort m (run_from h n)
run_short m h zero le = tt
run_short m h (suc n) le = short_append m (run_from h n) (later n h ∷ []) (run_short m h n le)
    (omega (arith, length-raised n h.path, le), tt)

run_long : (m : ℕ) (h : Leaf) (n : ℕ) → m ≤ length h.path → AreLong m (run_from h n)
run_long m h zero le = tt
run_long m h (suc n) le = long_append m (run_from h n) (later n h ∷ []) (run_long m h n le)
    (omega (arith, length-raised n h.path, le), tt)

-- no path is longer than the heads' paths
pub heads_short : (m : ℕ) (runs : List Run) → AreShort m (heads runs) → AreShort m (all_of runs)
heads_short m [] s = tt
heads_short m (r ∷ rs) s = short_append m (run_from r.head (suc r.more)) (all_of rs)
    (run_short m r.head (suc r.more) s.0) (heads_short m rs s.1)

-- and none is shorter
pub heads_long : (m : ℕ) (runs : List Run) → AreLong m (heads runs) → AreLong m (all_of runs)
heads_long m [] s = tt
heads_long m (r ∷ rs) s = long_append m (run_from r.head (suc r.more)) (all_of rs)
    (run_long m r.head (suc r.more) s.0) (heads_long m rs s.1)

same_filter : (f g : List ℕ → Bool) (qs : List (List ℕ)) → ((q : List ℕ) → f q ≡ g q) → filter f qs ≡ filter g qs
same_filter f g [] each = refl
same_filter f g (q ∷ qs) each = elim (cases_Bool (f q)) [
  | inl t ↦ rw t (rw (sym (each q) ∙ t) (ap (λ v. q ∷ v) (same_filter f g qs each)))
  | inr u ↦ rw u (rw (sym (each q) ∙ u) (same_filter f g qs each))
]

-- leaves with the same fronts have the same levels
pub same_level : (a b : List Leaf) (n : ℕ) → ((q : List ℕ) → is_front a q ≡ is_front b q) → level a n ≡ level b n
same_level a b zero each = refl
same_level a b (suc n) each = ap (λ qs. filter (is_front a) (flat_map children qs)) (same_level a b n each)
    ∙ same_filter (is_front a) (is_front b) (flat_map children (level b n)) each

-- and the same fronts of each length
pub same_fronts : (a b : List Leaf) (n : ℕ) → ((q : List ℕ) → is_front a q ≡ is_front b q) →
    fronts a n ≡ fronts b n
same_fronts a b zero each = refl
same_fronts a b (suc n) each = ap (λ qs. qs ++ level a n) (same_fronts a b n each)
    ∙ ap (λ qs. fronts b n ++ qs) (same_level a b n each)

-- so their pages refer to each other in the same way
pub same_stage : (a b : List Leaf) (first n : ℕ) (ws : List ℕ) →
    ((q : List ℕ) → is_front a q ≡ is_front b q) → IsStage a first n ws → IsStage b first n ws
same_stage a b first n ws each st = record {
  few = subst (λ (qs : List (List ℕ)). first + length qs ≤ 2 ^ 32) (same_fronts a b (suc n) each) st.few;
  words = λ k c lt small.
      let ps = same_fronts a b 4 each in
      st.words k c (subst (λ (qs : List (List ℕ)). k < length qs) (sym (same_fronts a b n each)) lt) small
      ∙ ap (λ qs. cell_word first None (place_of (get_or qs k [] ++ c ∷ []) qs)) ps;
}

-- where a run begins among all leaves
abbrev pub start : List Run → ℕ → ℕ
start runs k = length (all_of (take k runs))

-- each leaf of a run, by its place among all leaves
pub run_at : (runs : List Run) (k n : ℕ) (r : Run) (d : Leaf) → k < length runs → n ≤ (get_or runs k r).more →
    get_or (all_of runs) (start runs k + n) d ≡ later n (get_or runs k r).head
run_at [] k n r d lt le = absurd (omega arith)
run_at (x ∷ xs) zero n r d lt le =
    ap (λ i. get_or (all_of (x ∷ xs)) i d) (let e : 0 + n ≡ n = omega arith in e)
    ∙ get_or_append_left (run_from x.head (suc x.more)) (all_of xs) d n (omega (arith, length-run x.head (suc x.more)))
    ∙ run_leaf x.head (suc x.more) n d (omega arith)
run_at (x ∷ xs) (suc k) n r d lt le =
    ap (λ i. get_or (all_of (x ∷ xs)) i d)
    (let e : length (run_from x.head (suc x.more) ++ all_of (take k xs)) + n
    ≡ length (run_from x.head (suc x.more)) + (start xs k + n) =
    omega (arith, length-append (run_from x.head (suc x.more)) (all_of (take k xs))) in e)
    ∙ get_or-append-add (run_from x.head (suc x.more)) (all_of xs) (start xs k + n) d
    ∙ run_at xs k n r d (omega arith) le

-- where the next run begins
pub next_start : (runs : List Run) (k : ℕ) (r : Run) → k < length runs →
    start runs (suc k) ≡ start runs k + ((get_or runs k r).more + 1)
next_start [] k r lt = absurd (omega arith)
next_start (x ∷ xs) zero r lt = omega (
  arith,
  length-append (run_from x.head (suc x.more)) [],
  length-run x.head (suc x.more),
)
next_start (x ∷ xs) (suc k) r lt = omega (
  arith,
  length-append (run_from x.head (suc x.more)) (all_of (take (suc k) xs)),
  length-append (run_from x.head (suc x.more)) (all_of (take k xs)),
  next_start xs k r (omega arith),
)

-- marks that are all unset have the number 0
pub numbered_none : (next n : ℕ) → numbered next (replicate n false) ≡ replicate n 0
numbered_none next zero = refl
numbered_none next (suc n) = ap (λ ws. 0 ∷ ws) (numbered_none next n)

-- a leaf alone is a run
pub run_one : (leaves : List Leaf) (i : ℕ) (h : Leaf) → i < length leaves → h ≡ get_or leaves i h →
    take (i + 1) leaves ≡ take i leaves ++ run_from h 1
run_one leaves i h lt is = take_more leaves i h lt
    ∙ ap (λ l. take i leaves ++ l ∷ []) (sym is ∙ sym (later_none h))

-- the last leaf of a run that was read
run_last : (leaves : List Leaf) (i n : ℕ) (h d : Leaf) → i + n < length leaves →
    take (i + (n + 1)) leaves ≡ take i leaves ++ run_from h (n + 1) → get_or leaves (i + n) d ≡ later n h
run_last leaves i n h d lt is =
    sym (get_or-take (i + (n + 1)) leaves (i + n) d (omega arith))
    ∙ ap (λ ls. get_or ls (i + n) d) is
    ∙ ap (λ k. get_or (take i leaves ++ run_from h (n + 1)) k d)
    (let e : i + n ≡ length (take i leaves) + n = omega (arith, length-take i leaves) in e)
    ∙ get_or-append-add (take i leaves) (run_from h (n + 1)) n d
    ∙ run_leaf h (n + 1) n d (omega arith)

-- one leaf more in a run
pub run_grows : (leaves : List Leaf) (i n : ℕ) (h : Leaf) → i + n + 1 < length leaves →
    get_or leaves (i + n + 1) h ≡ later 1 (get_or leaves (i + n) h) →
    take (i + (n + 1)) leaves ≡ take i leaves ++ run_from h (n + 1) →
    take (i + (n + 1 + 1)) leaves ≡ take i leaves ++ run_from h (n + 1 + 1)
run_grows leaves i n h lt t is =
    let next : get_or leaves (i + n + 1) h ≡ later (n + 1) h =
    t ∙ ap (later 1) (run_last leaves i n h h (omega arith) is) ∙ later_more n h in
    ap (λ k. take k leaves) (let e : i + (n + 1 + 1) ≡ i + n + 1 + 1 = omega arith in e)
    ∙ take_more leaves (i + n + 1) h lt
    ∙ ap (λ k. take k leaves ++ get_or leaves (i + n + 1) h ∷ []) (let e : i + n + 1 ≡ i + (n + 1) = omega arith in e)
    ∙ ap (λ ls. ls ++ get_or leaves (i + n + 1) h ∷ []) is
    ∙ append_assoc (take i leaves) (run_from h (n + 1)) (get_or leaves (i + n + 1) h ∷ [])
    ∙ ap (λ l. take i leaves ++ (run_from h (n + 1) ++ l ∷ [])) next
    ∙ ap (λ k. take i leaves ++ run_from h k) (let e : suc (n + 1) ≡ n + 1 + 1 = omega arith in e)

-- a run behind the runs of all leaves so far
pub run_behind : (runs : List Run) (r : Run) (leaves : List Leaf) (i : ℕ) → all_of runs ≡ take i leaves →
    take (i + (r.more + 1)) leaves ≡ take i leaves ++ run_from r.head (r.more + 1) →
    all_of (runs ++ r ∷ []) ≡ take (i + (r.more + 1)) leaves
run_behind runs r leaves i all is =
    flat_map-append (λ (x : Run). run_from x.head (suc x.more)) runs (r ∷ [])
    ∙ ap (λ ls. ls ++ all_of (r ∷ [])) all
    ∙ ap (λ ls. take i leaves ++ ls) (append-nil (run_from r.head (suc r.more)))
    ∙ ap (λ k. take i leaves ++ run_from r.head k) (let e : suc r.more ≡ r.more + 1 = omega arith in e)
    ∙ sym is

-- the leaves of the first runs are not more than all
pub starts_within : (runs : List Run) (k : ℕ) → start runs k ≤ length (all_of runs)
starts_within runs k =
    let e : all_of runs ≡ all_of (take k runs) ++ all_of (drop k runs) =
    ap all_of (sym (take-append-drop k runs))
    ∙ flat_map-append (λ (x : Run). run_from x.head (suc x.more)) (take k runs) (drop k runs) in
    omega (arith, ap length e, length-append (all_of (take k runs)) (all_of (drop k runs)))

-- a run that was read ends within the leaves
pub run_within : (leaves : List Leaf) (i : ℕ) (r : Run) → i < length leaves →
    take (i + (r.more + 1)) leaves ≡ take i leaves ++ run_from r.head (r.more + 1) →
    i + (r.more + 1) ≤ length leaves
run_within leaves i r lt is = omega (
  arith,
  ap length is,
  length-take i leaves,
  length-take (i + (r.more + 1)) leaves,
  length-append (take i leaves) (run_from r.head (r.more + 1)),
  length-run r.head (r.more + 1),
)

-- where no path is longer, a level has no fronts
pub no_longer : (leaves : List Leaf) (n longest : ℕ) → AreShort longest leaves → longest ≤ n + 1 →
    length (level leaves (suc n)) ≡ 0
no_longer leaves n longest short le = none (level leaves (suc n)) refl
  where
    none : (qs : List (List ℕ)) → level leaves (suc n) ≡ qs → length (level leaves (suc n)) ≡ 0
    none [] e = ap length e
    none (q ∷ qs) e =
        let h : Has q (level leaves (suc n)) = subst (λ ps. Has q ps) (sym e) (inl refl) in
        let goes = (kept_has (is_front leaves) q (flat_map children (level leaves n)) h).0 in
        absurd (omega (arith, begins_short longest leaves q short goes, level_length leaves (suc n) q h, le))

-- what is said of an Ok is nothing where there is none
pub on_err : {T E : Type 0} (P : Type 0) (r : Result T E) → IsErr r → OnOk r P
on_err P (Ok v) h = absurd (false_true h)
on_err P (Err e) h = tt

-- behind the last run all leaves have been
pub start_all : (runs : List Run) → start runs (length runs) ≡ length (all_of runs)
start_all runs = ap (λ rs. length (all_of rs)) (take-length runs)
