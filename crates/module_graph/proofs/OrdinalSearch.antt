-- What a binary search by ordinals finds.
use Rattle.std.proofs.Common.{◌≡◌, ◌≢◌, ℕ, zero, suc, ◌<◌, List, [], ◌∷◌, length, get_or, Some, None, Less, Greater, Result, Ok, Err, MatchResult, eqb, refl, sym, ap, inl, inr, arith}
use Rattle.std.specs.List.{All, AllPairs, find}
use Rattle.std.specs.List.Sorted.{IsSearchInRange, IsBinarySearchResult, IsNonDecreasingBy}
use Rattle.std.specs.Ordering.{nat_cmp, ordering_index}
use Rattle.std.proofs.lemmas.Cmp.{ranked}
use Rattle.std.proofs.lemmas.Bool.{cases_lt, cases_eq, eq-eqb, ne_eqb}
use Rattle.std.proofs.lemmas.Bool.Decides.{nat_tests}
use Rattle.module_graph.specs.declared.edge.Edge.{Edge}

abbrev Rising : List Edge → Type 0
Rising es = AllPairs (λ (e f : Edge). e.ordinal < f.ordinal) es

rising_rest : (e : Edge) (es : List Edge) → Rising (e ∷ es) → Rising es
rising_rest e es h i j d lt fit = h (suc i) (suc j) d (omega (arith, lt)) (omega (arith, fit))

-- the edge of an ordinal is the one at its place
pub find_there : (es : List Edge) → Rising es → (k at : ℕ) (d : Edge) → at < length es → (get_or es at d).ordinal ≡ k → find (λ e. eqb e.ordinal k) es ≡ Some (get_or es at d)
find_there [] h k at d lt is = absurd (omega arith)
find_there (e ∷ es) h k zero d lt is = rw (eq-eqb e.ordinal k is) refl
find_there (e ∷ es) h k (suc i) d lt is =
    let below : e.ordinal < (get_or es i d).ordinal = h 0 (suc i) d (omega arith) lt in
    let rest = find_there es (rising_rest e es h) k i d (omega (arith, lt)) is in
    rw (ne_eqb e.ordinal k (λ q. omega (arith, below, q))) rest

-- and there is none where no edge has it
pub find_nowhere : (es : List Edge) (k : ℕ) → All (λ (e : Edge). e.ordinal ≢ k) es → find (λ e. eqb e.ordinal k) es ≡ None
find_nowhere [] k h = refl
find_nowhere (e ∷ es) k h = rw (ne_eqb e.ordinal k (h 0 e (omega arith))) (find_nowhere es k (λ i d fit. h (suc i) d (omega (arith, fit))))

module _ (es : List Edge) (h : Rising es) (k : ℕ) where
  -- the comparisons rise along the edges, as a binary search asks
  comparisons_rise : IsNonDecreasingBy (λ (e : Edge). ordering_index (nat_cmp e.ordinal k)) es
  comparisons_rise i j d le fit = elim (cases_eq i j) [
    | inl same ↦ let e : ordering_index (nat_cmp (get_or es i d).ordinal k) ≡ ordering_index (nat_cmp (get_or es j d).ordinal k) = ap (λ n. ordering_index (nat_cmp (get_or es n d).ordinal k)) same in omega (arith, e)
    | inr differ ↦ let below : (get_or es i d).ordinal < (get_or es j d).ordinal = h i j d (omega arith) fit in grind (arith, nat_tests)
  ]

  not_less : (n : ℕ) → nat_cmp n k ≡ Less → n ≢ k
  not_less n e is = grind (arith, nat_tests)

  not_greater : (n : ℕ) → nat_cmp n k ≡ Greater → n ≢ k
  not_greater n e is = grind (arith, nat_tests)

  -- a binary search ends at the ordinal, or no edge has it
  pub searched : (r : Result ℕ ℕ) → IsSearchInRange r (length es) → IsBinarySearchResult (λ (e : Edge). nat_cmp e.ordinal k) es r
      → MatchResult r (λ at. (at < length es) × ((d : Edge) → (get_or es at d).ordinal ≡ k)) (λ _. All (λ (e : Edge). e.ordinal ≢ k) es)
  searched (Ok at) range equal = (range, λ d. ranked _ k _ (sym (equal d)))
  searched (Err at) range parted = λ i d fit. elim (cases_lt i at) [
    | inl lt ↦ not_less (get_or es i d).ordinal ((parted comparisons_rise).0 i d (omega arith) lt)
    | inr ge ↦ not_greater (get_or es i d).ordinal ((parted comparisons_rise).1 i d ge fit)
  ]
