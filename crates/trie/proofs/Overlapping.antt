-- The least overlap, from the places of the least paths.
use Rattle.std.proofs.Common.{◌≡◌, ◌<◌, ◌≤◌, ◌∙◌, ℕ, suc, zero, ◌+◌, Bool, true, ◌||◌, List, [], ◌∷◌, length, get_or, None, take, refl, sym, ap, subst, arith, inl, inr, add-one}
use Rattle.std.proofs.lemmas.List.{get_or-map, length-map}
use Rattle.std.proofs.lemmas.Bool.{cases_Bool}
use Rattle.trie.specs.Leaf.{Leaf}
use Rattle.trie.specs.Fronts.{is_proper_prefix, is_front, paths, AreShort, AreLong}
use Rattle.trie.specs.Leasts.{IsLeastAt, IsLeastSoFar}
use Rattle.trie.specs.Overlaps.{at_most, IsLeast, is_prefix_of_one, AreApart, path_at, IsOverlapAt}
use Rattle.trie.specs.Stages.{NoneGoesOn}
use Rattle.trie.proofs.Fronts.{true_false, begins_short}

-- the path of a leaf by its place
pub path_is : (leaves : List Leaf) (i : ℕ) (d : Leaf) (q : List ℕ) → i < length leaves →
    get_or (paths leaves) i q ≡ (get_or leaves i d).path
path_is leaves i d q lt = get_or-map (λ (l : Leaf). l.path) leaves i d q lt

-- a path goes on from a string exactly where it is a front
pub one_is : (leaves : List Leaf) (front : List ℕ) →
    is_prefix_of_one (paths leaves) front ≡ is_front leaves front
one_is [] front = refl
one_is (l ∷ ls) front = ap (λ b. is_proper_prefix front l.path || b) (one_is ls front)

-- the least of the paths
least_is : (test test' : List ℕ → Bool) (leaves : List Leaf) (i : ℕ) → ((q : List ℕ) → test' q ≡ test q) →
    IsLeastAt test leaves (length leaves) i → IsLeast test' (paths leaves) (path_at leaves i)
least_is test test' leaves i same h =
    let d : Leaf = record { path = []; word = 0 } in
    let here : path_at leaves i ≡ (get_or leaves i d).path = path_is leaves i d [] h.within in
    record {
      there = (
        i,
        omega (arith, h.within, length-map leaves (λ (l : Leaf). l.path)),
        path_is leaves i d
            (path_at leaves i) h.within ∙ sym here,
      );
      passes = same (path_at leaves i) ∙ ap test here ∙ h.passes d;
      least = λ other (k, lt, is) t.
          let low : k < length leaves = omega (arith, length-map leaves (λ (l : Leaf). l.path)) in
          let that : other ≡ (get_or leaves k d).path = sym is ∙ path_is leaves k d other low in
          ap (λ p. at_most p other) here ∙ ap (at_most (get_or leaves i d).path) that
          ∙ h.least k d d low (ap test (sym that) ∙ sym (same other) ∙ t);
    }

-- the least path that another one goes on from, and the least that goes on from it
pub overlap_is : (leaves : List Leaf) (i j : ℕ) (q : List ℕ) → q ≡ path_at leaves i →
    IsLeastAt (is_front leaves) leaves (length leaves) i →
    IsLeastAt (is_proper_prefix q) leaves (length leaves) j → IsOverlapAt leaves i j
overlap_is leaves i j q is first second = record {
  first_within = first.within;
  second_within = second.within;
  least = record {
    first_is = least_is (is_front leaves) (is_prefix_of_one (paths leaves)) leaves i (one_is leaves) first;
    second_is = least_is (is_proper_prefix q) (is_proper_prefix (path_at leaves i)) leaves j
        (λ p. ap (λ x. is_proper_prefix x p) (sym is)) second;
  };
}

-- from a front at least one path goes on
pub some_beyond : (leaves : List Leaf) (q : List ℕ) → is_front leaves q ≡ true →
    IsLeastSoFar (is_proper_prefix q) leaves (length leaves) None → ⊥
some_beyond [] q t none = true_false (sym t)
some_beyond (l ∷ ls) q t none = elim (cases_Bool (is_proper_prefix q l.path)) [
  | inl u ↦ true_false (sym u ∙ none 0 l (omega arith))
  | inr u ↦ some_beyond ls q (rw u at t) (λ j d lt. none (suc j) d (omega arith))
]

-- where no path goes on from another, the strings are apart
pub apart_is : (leaves : List Leaf) → NoneGoesOn leaves → AreApart (paths leaves)
apart_is leaves none one (k, lt, is) =
    let d : Leaf = record { path = []; word = 0 } in
    let low : k < length leaves = omega (arith, length-map leaves (λ (l : Leaf). l.path)) in
    one_is leaves one ∙ ap (is_front leaves) (sym is ∙ path_is leaves k d one low) ∙ none k d low

-- one more short path
pub short_more : (most i : ℕ) (leaves : List Leaf) (d : Leaf) → i < length leaves →
    AreShort most (take i leaves) → length (get_or leaves i d).path ≤ most →
    AreShort most (take (i + 1) leaves)
short_more most zero [] d lt short few = absurd (omega arith)
short_more most zero (l ∷ ls) d lt short few = (few, tt)
short_more most (suc i) [] d lt short few = absurd (omega arith)
short_more most (suc i) (l ∷ ls) d lt short few =
    rw (add-one (suc i)) (
      short.0,
      subst (λ n. AreShort most (take n ls)) (add-one i)
          (short_more most i ls d (omega arith) short.1 few),
    )

-- one more long path
pub long_more : (least i : ℕ) (leaves : List Leaf) (d : Leaf) → i < length leaves →
    AreLong least (take i leaves) →
    least ≤ length (get_or leaves i d).path → AreLong least (take (i + 1) leaves)
long_more least zero [] d lt long many = absurd (omega arith)
long_more least zero (l ∷ ls) d lt long many = (many, tt)
long_more least (suc i) [] d lt long many = absurd (omega arith)
long_more least (suc i) (l ∷ ls) d lt long many = rw (add-one (suc i)) (
  long.0,
  subst (λ n. AreLong least (take n ls)) (add-one i)
      (long_more least i ls d (omega arith) long.1 many),
)

-- paths are as short as any greater length
pub shorter : (m n : ℕ) (leaves : List Leaf) → m ≤ n → AreShort m leaves → AreShort n leaves
shorter m n [] le short = tt
shorter m n (l ∷ ls) le short = (omega (arith, short.0), shorter m n ls le short.1)

-- and as long as any lesser one
pub longer : (m n : ℕ) (leaves : List Leaf) → n ≤ m → AreLong m leaves → AreLong n leaves
longer m n [] le long = tt
longer m n (l ∷ ls) le long = (omega (arith, long.0), longer m n ls le long.1)

long_at : (least i : ℕ) (leaves : List Leaf) (d : Leaf) → i < length leaves → AreLong least leaves →
    least ≤ length (get_or leaves i d).path
long_at least i [] d lt long = absurd (omega arith)
long_at least zero (l ∷ ls) d lt long = long.0
long_at least (suc i) (l ∷ ls) d lt long = long_at least i ls d (omega arith) long.1

-- where all paths have one length, none goes on from another
pub none_longer : (most least : ℕ) (leaves : List Leaf) → most ≤ least → AreShort most leaves →
    AreLong least leaves → NoneGoesOn leaves
none_longer most least leaves le short long i d lt =
    elim (cases_Bool (is_front leaves (get_or leaves i d).path)) [
      | inl t ↦ absurd (let below = begins_short most leaves (get_or leaves i d).path short t in
          let above = long_at least i leaves d lt long in omega (arith, below, above))
      | inr f ↦ f
    ]
