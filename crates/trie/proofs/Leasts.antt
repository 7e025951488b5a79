-- The least path so far.
use Rattle.std.proofs.Common.{◌≡◌, ℕ, ◌+◌, ◌<◌, ◌≤◌, Bool, true, false, cond, ltb, List, [], ◌∷◌, length, get_or, Option, Some, None, refl, sym, ap, ◌∙◌, subst, inl, inr, arith}
use Rattle.std.proofs.lemmas.List.{get_or_default}
use Rattle.std.proofs.lemmas.Bool.{cases_Bool, cases_eq, eq-eqb, ne_eqb, lt-ltb, ltb-true, ltb-false}
use Rattle.trie.specs.Leasts.{lesser, IsLeastAt, IsLeastSoFar}
use Rattle.trie.specs.Overlaps.{at_most}
use Rattle.trie.specs.Leaf.{Leaf}
use Rattle.trie.proofs.Fronts.{true_false, false_true}

-- how two bytes stand
data Way (x y : ℕ) : Type 0 where
  less : x < y → Way x y
  even : x ≡ y → Way x y
  more : y < x → Way x y

way : (x y : ℕ) → Way x y
way x y = elim (cases_eq x y) [
  | inl e ↦ even e
  | inr n ↦ elim (cases_Bool (ltb x y))
      [ inl t ↦ less (ltb-true x y t) | inr f ↦ more (let h = ltb-false x y f in omega arith) ]
]

at_most_less : (x y : ℕ) (xs ys : List ℕ) → x < y → at_most (x ∷ xs) (y ∷ ys) ≡ true
at_most_less x y xs ys lt = rw (lt-ltb x y lt) refl

not_less : (x y : ℕ) → y ≤ x → ltb x y ≡ false
not_less x y le = elim (cases_Bool (ltb x y))
    [ inl t ↦ absurd (let h = ltb-true x y t in omega arith) | inr f ↦ f ]

at_most_same : (x y : ℕ) (xs ys : List ℕ) → x ≡ y → at_most (x ∷ xs) (y ∷ ys) ≡ at_most xs ys
at_most_same x y xs ys e = rw (not_less x y (omega arith), eq-eqb x y e) refl

at_most_more : (x y : ℕ) (xs ys : List ℕ) → y < x → at_most (x ∷ xs) (y ∷ ys) ≡ false
at_most_more x y xs ys lt = rw (not_less x y (omega arith), ne_eqb x y (λ e. omega arith)) refl

-- a string is at most itself
pub at_most_refl : (a : List ℕ) → at_most a a ≡ true
at_most_refl [] = refl
at_most_refl (x ∷ xs) = at_most_same x x xs xs refl ∙ at_most_refl xs

-- of two strings one is at most the other
pub at_most_either : (a b : List ℕ) → at_most a b ≡ false → at_most b a ≡ true
at_most_either [] b f = absurd (true_false f)
at_most_either (x ∷ xs) [] f = refl
at_most_either (x ∷ xs) (y ∷ ys) f = elim (way x y) [
  | less lt ↦ absurd (true_false (sym (at_most_less x y xs ys lt) ∙ f))
  | even e ↦ at_most_same y x ys xs (sym e) ∙ at_most_either xs ys (sym (at_most_same x y xs ys e) ∙ f)
  | more lt ↦ at_most_less y x ys xs lt
]

-- the order goes on from one string to the next
pub at_most_trans : (a b c : List ℕ) → at_most a b ≡ true → at_most b c ≡ true → at_most a c ≡ true
at_most_trans [] b c p q = refl
at_most_trans (x ∷ xs) [] c p q = absurd (false_true p)
at_most_trans (x ∷ xs) (y ∷ ys) [] p q = absurd (false_true q)
at_most_trans (x ∷ xs) (y ∷ ys) (z ∷ zs) p q = elim (way x y) [
  | more lt ↦ absurd (false_true (sym (at_most_more x y xs ys lt) ∙ p))
  | less lt ↦ elim (way y z) [
    | more lt2 ↦ absurd (false_true (sym (at_most_more y z ys zs lt2) ∙ q))
    | less lt2 ↦ at_most_less x z xs zs (omega arith)
    | even e2 ↦ at_most_less x z xs zs (omega arith)
  ]
  | even e ↦ elim (way y z) [
    | more lt2 ↦ absurd (false_true (sym (at_most_more y z ys zs lt2) ∙ q))
    | less lt2 ↦ at_most_less x z xs zs (omega arith)
    | even e2 ↦ at_most_same x z xs zs (e ∙ e2)
        ∙ at_most_trans xs ys zs (sym (at_most_same x y xs ys e) ∙ p) (sym (at_most_same y z ys zs e2) ∙ q)
  ]
]

path_at : (leaves : List Leaf) (i : ℕ) (d e : Leaf) → i < length leaves →
    (get_or leaves i d).path ≡ (get_or leaves i e).path
path_at leaves i d e lt = ap (λ (l : Leaf). l.path) (get_or_default leaves i d e lt)

-- one that passes
pub least_more : (test : List ℕ → Bool) (leaves : List Leaf) (n : ℕ) (d : Leaf) (best : Option ℕ) →
    n < length leaves → IsLeastSoFar test leaves n best → test (get_or leaves n d).path ≡ true →
    IsLeastSoFar test leaves (n + 1) (Some (lesser leaves best n d))
least_more test leaves n d None lt h t = record {
  within = omega arith;
  passes = λ e. ap test (path_at leaves n e d lt) ∙ t;
  least = λ j e f below u. elim (cases_eq j n) [
    | inl same ↦ ap (λ k. at_most (get_or leaves n f).path (get_or leaves k e).path) same
        ∙ ap (λ p. at_most p (get_or leaves n e).path) (path_at leaves n f e lt)
        ∙ at_most_refl (get_or leaves n e).path
    | inr ne ↦ absurd (true_false (sym u ∙ h j e (omega arith)))
  ];
}
least_more test leaves n d (Some i) lt h t =
    elim (cases_Bool (at_most (get_or leaves i d).path (get_or leaves n d).path)) [
      | inl le ↦ subst (λ k. IsLeastAt test leaves (n + 1) k) (sym (ap (λ b. cond b i n) le)) (record {
        within = omega (arith, h.within);
        passes = h.passes;
        least = λ j e f below u. elim (cases_eq j n) [
          | inl same ↦ ap (λ k. at_most (get_or leaves i f).path (get_or leaves k e).path) same
              ∙ ap (λ p. at_most p (get_or leaves n e).path) (path_at leaves i f d (omega (arith, h.within)))
              ∙ ap (at_most (get_or leaves i d).path) (path_at leaves n e d lt) ∙ le
          | inr ne ↦ h.least j e f (omega arith) u
        ];
      })
      | inr gt ↦ subst (λ k. IsLeastAt test leaves (n + 1) k) (sym (ap (λ b. cond b i n) gt)) (record {
        within = omega arith;
        passes = λ e. ap test (path_at leaves n e d lt) ∙ t;
        least = λ j e f below u. elim (cases_eq j n) [
          | inl same ↦ ap (λ k. at_most (get_or leaves n f).path (get_or leaves k e).path) same
              ∙ ap (λ p. at_most p (get_or leaves n e).path) (path_at leaves n f e lt)
              ∙ at_most_refl (get_or leaves n e).path
          | inr ne ↦ ap (λ p. at_most p (get_or leaves j e).path) (path_at leaves n f d lt)
              ∙ at_most_trans (get_or leaves n d).path (get_or leaves i d).path (get_or leaves j e).path
              (at_most_either (get_or leaves i d).path (get_or leaves n d).path gt)
              (h.least j e d (omega arith) u)
        ];
      })
    ]

-- one that doesn't
pub least_stays : (test : List ℕ → Bool) (leaves : List Leaf) (n : ℕ) (d : Leaf) (best : Option ℕ) →
    n < length leaves → IsLeastSoFar test leaves n best → test (get_or leaves n d).path ≡ false →
    IsLeastSoFar test leaves (n + 1) best
least_stays test leaves n d None lt h f = λ j e below. elim (cases_eq j n) [
  | inl same ↦ ap (λ k. test (get_or leaves k e).path) same ∙ ap test (path_at leaves n e d lt) ∙ f
  | inr ne ↦ h j e (omega arith)
]
least_stays test leaves n d (Some i) lt h f = record {
  within = omega (arith, h.within);
  passes = h.passes;
  least = λ j e g below u. elim (cases_eq j n) [
    | inl same ↦ absurd (true_false
        (sym u ∙ ap (λ k. test (get_or leaves k e).path) same ∙ ap test (path_at leaves n e d lt) ∙ f))
    | inr ne ↦ h.least j e g (omega arith) u
  ];
}

-- the place that is kept stands among the places so far
pub lesser_below : (leaves : List Leaf) (best : Option ℕ) (n : ℕ) (d : Leaf) →
    ((x : ℕ) → best ≡ Some x → x < n) → lesser leaves best n d < n + 1
lesser_below leaves None n d h = omega arith
lesser_below leaves (Some i) n d h =
    elim (at_most (get_or leaves i d).path (get_or leaves n d).path) as (λ b. cond b i n < n + 1)
    [ true ↦ omega (arith, h i refl) | false ↦ omega arith ]

-- two places that are told alike are one
pub same_some : {m n : ℕ} → Some m ≡ Some n → m ≡ n
same_some e = cc
