-- No string stands twice among the fronts and their children.
use Rattle.std.proofs.Common.{◌≡◌, ℕ, zero, suc, ◌+◌, ◌*◌, ◌<◌, ◌≤◌, Bool, List, [], ◌∷◌, ◌++◌, length, get_or, map, refl, sym, ap, ◌∙◌, subst, inl, inr, arith, length-append}
use Rattle.std.specs.List.{flat_map, filter, range_with_len}
use Rattle.std.proofs.lemmas.List.{get_or_append_left, get_or-append-add, get_or-map}
use Rattle.std.proofs.lemmas.List.FromFn.{length-map-range_with_len, get_or-map-range_with_len}
use Rattle.std.proofs.lemmas.Bool.{cases_Bool}
use Rattle.trie.specs.Fronts.{is_front, level, fronts, children}
use Rattle.trie.specs.Leaf.{Leaf}
use Rattle.trie.proofs.Fronts.{Has, has_at, has_either, kept_has, level_length, front_level}

-- a front has 256 children
pub length-children : (p : List ℕ) → length (children p) ≡ 256
length-children p = length-map-range_with_len (λ b. p ++ b ∷ []) 0 256

-- the child at a place
pub child_at : (ps : List (List ℕ)) (k b : ℕ) → k < length ps → b < 256 →
    get_or (flat_map children ps) (256 * k + b) [] ≡ get_or ps k [] ++ b ∷ []
child_at [] k b lt small = absurd (omega arith)
child_at (p ∷ ps) zero b lt small =
    get_or_append_left (children p) (flat_map children ps) [] (256 * 0 + b) (omega (arith, length-children p))
    ∙ get_or-map-range_with_len (λ c. p ++ c ∷ []) 0 256 (256 * 0 + b) b [] (omega arith) (omega arith)
child_at (p ∷ ps) (suc k) b lt small =
    ap (λ i. get_or (children p ++ flat_map children ps) i [])
    (let e : 256 * suc k + b ≡ length (children p) + (256 * k + b) = omega (arith, length-children p) in
    e)
    ∙ get_or-append-add (children p) (flat_map children ps) (256 * k + b) []
    ∙ child_at ps k b (omega arith) small

-- each of some fronts has 256 children
pub length-all_children : (ps : List (List ℕ)) → length (flat_map children ps) ≡ 256 * length ps
length-all_children [] = refl
length-all_children (p ∷ ps) = length-append (children p) (flat_map children ps)
    ∙ omega (arith, length-children p, length-all_children ps)

-- no string stands twice in a list
abbrev pub Distinct : List (List ℕ) → Type 0
Distinct [] = Unit {0}
Distinct (p ∷ ps) = (Has p ps → ⊥) × Distinct ps

-- nor where a test leaves some out
pub distinct_kept : (f : List ℕ → Bool) (ps : List (List ℕ)) → Distinct ps → Distinct (filter f ps)
distinct_kept f [] d = tt
distinct_kept f (p ∷ ps) d = elim (cases_Bool (f p)) [
  | inl t ↦ rw t ((λ h. d.0 (kept_has f p ps h).1), distinct_kept f ps d.1)
  | inr u ↦ rw u (distinct_kept f ps d.1)
]

-- nor where two lists without a common string are joined
pub distinct_joined : (ps qs : List (List ℕ)) → Distinct ps → Distinct qs →
    ((q : List ℕ) → Has q ps → Has q qs → ⊥) → Distinct (ps ++ qs)
distinct_joined [] qs d e apart = e
distinct_joined (p ∷ ps) qs d e apart = (
  (λ h. elim (has_either p ps qs h) [ inl a ↦ d.0 a | inr b ↦ apart p (inl refl) b ]),
  distinct_joined ps
      qs d.1 e (λ q a b. apart q (inr a) b),
)

head_same : {x y : ℕ} {xs ys : List ℕ} → x ∷ xs ≡ y ∷ ys → x ≡ y
head_same e = cc

tail_same : {x y : ℕ} {xs ys : List ℕ} → x ∷ xs ≡ y ∷ ys → xs ≡ ys
tail_same e = cc

not_cons : {x : ℕ} {xs : List ℕ} → x ∷ xs ≡ [] → ⊥
not_cons e = cc

-- the front and the last byte
pub same_front : (p q : List ℕ) (a b : ℕ) → p ++ a ∷ [] ≡ q ++ b ∷ [] → (p ≡ q) × (a ≡ b)
same_front [] [] a b e = (refl, head_same e)
same_front [] (y ∷ ys) a b e = absurd (omega (arith, ap length e, length-append ys (b ∷ [])))
same_front (x ∷ xs) [] a b e = absurd (omega (arith, ap length e, length-append xs (a ∷ [])))
same_front (x ∷ xs) (y ∷ ys) a b e = let r = same_front xs ys a b (tail_same e) in
    (ap (λ v. v ∷ xs) (head_same e) ∙ ap (λ vs. y ∷ vs) r.0, r.1)

-- a child has a front and a byte
byte_of : (q p : List ℕ) (a n : ℕ) → Has q (map (λ c. p ++ c ∷ []) (range_with_len a n)) →
    (b : ℕ) × (a ≤ b) × (q ≡ p ++ b ∷ [])
byte_of q p a zero h = absurd h
byte_of q p a (suc n) h =
    elim h [
      | inl e ↦ (a, omega arith, sym e)
      | inr r ↦ let v = byte_of q p (a + 1) n r in
          (v.0, omega (arith, v.1), v.2)
    ]

-- a child has a front of the list and one byte more
pub front_of : (q : List ℕ) (ps : List (List ℕ)) → Has q (flat_map children ps) →
    (p : List ℕ) × (b : ℕ) × Has p ps × (q ≡ p ++ b ∷ [])
front_of q [] h = absurd h
front_of q (p ∷ ps) h = elim (has_either q (children p) (flat_map children ps) h) [
  | inl a ↦ let v = byte_of q p 0 256 a in (p, v.0, inl refl, v.2)
  | inr b ↦ let v = front_of q ps b in (v.0, v.1, inr v.2, v.3)
]

distinct_bytes : (p : List ℕ) (a n : ℕ) → Distinct (map (λ c. p ++ c ∷ []) (range_with_len a n))
distinct_bytes p a zero = tt
distinct_bytes p a (suc n) = (
  (λ h. let v = byte_of (p ++ a ∷ []) p (a + 1) n h in
      omega (arith, v.1, (same_front p p a v.0 v.2).1)),
  distinct_bytes p (a + 1) n,
)

-- distinct fronts have distinct children
pub distinct_children : (ps : List (List ℕ)) → Distinct ps → Distinct (flat_map children ps)
distinct_children [] d = tt
distinct_children (p ∷ ps) d =
    distinct_joined (children p) (flat_map children ps) (distinct_bytes p 0 256) (distinct_children ps d.1)
    (λ q a b. let v = byte_of q p 0 256 a in let w = front_of q ps b in
    d.0 (subst (λ r. Has r ps) (sym (same_front p w.0 v.0 w.1 (sym v.2 ∙ w.3)).0) w.2))

-- the fronts of one length are distinct
pub distinct_level : (leaves : List Leaf) (n : ℕ) → Distinct (level leaves n)
distinct_level leaves zero = ((λ h. h), tt)
distinct_level leaves (suc n) =
    distinct_kept (is_front leaves) (flat_map children (level leaves n))
    (distinct_children (level leaves n) (distinct_level leaves n))

-- and so are those of all lengths
pub distinct_fronts : (leaves : List Leaf) (n : ℕ) → Distinct (fronts leaves n)
distinct_fronts leaves zero = tt
distinct_fronts leaves (suc n) =
    distinct_joined (fronts leaves n) (level leaves n) (distinct_fronts leaves n) (distinct_level leaves n)
    (λ q a b. let v = front_level leaves n q a in
    omega (arith, v.1, level_length leaves v.0 q v.2, level_length leaves n q b))

-- where two places have one string, they are one
pub distinct_at : (ps : List (List ℕ)) (i j : ℕ) → Distinct ps → i < length ps → j < length ps →
    get_or ps i [] ≡ get_or ps j [] → i ≡ j
distinct_at [] i j d a b e = absurd (omega arith)
distinct_at (p ∷ ps) zero zero d a b e = refl
distinct_at (p ∷ ps) zero (suc j) d a b e = absurd (d.0 (has_at p ps j (omega arith) (sym e)))
distinct_at (p ∷ ps) (suc i) zero d a b e = absurd (d.0 (has_at p ps i (omega arith) e))
distinct_at (p ∷ ps) (suc i) (suc j) d a b e = ap suc (distinct_at ps i j d.1 (omega arith) (omega arith) e)

-- the words of a trie
pub cells_at : (f : List ℕ → ℕ) (ps : List (List ℕ)) (k b : ℕ) → k < length ps → b < 256 →
    get_or (map f (flat_map children ps)) (256 * k + b) 0 ≡ f (get_or ps k [] ++ b ∷ [])
cells_at f ps k b lt small =
    get_or-map f (flat_map children ps) (256 * k + b) [] 0 (omega (arith, length-all_children ps))
    ∙ ap f (child_at ps k b lt small)
