-- The first answer of some numbers, one after another.
use Rattle.std.proofs.Common.{◌≡◌, ◌+◌, ◌<◌, ◌≤◌, ℕ, zero, suc, Option, Some, None, refl, sym, ap, ◌∙◌, inl, inr, arith}
use Rattle.std.specs.Prelude.{slice_get}
use Rattle.std.specs.List.{filter_map, cons_option, range_with_len}
use Rattle.std.proofs.lemmas.Bool.{cases_eq}

some_none : {X : Type 0} {x : X} → Some x ≡ None → ⊥
some_none e = cc

-- The first answer is that of one of the numbers.
pub first_is : {X : Type 0} (f : ℕ → Option X) (a n : ℕ) (w : X) →
    slice_get (filter_map f (range_with_len a n)) 0 ≡ Some w →
    (u : ℕ) × (a ≤ u) × (u < a + n) × (f u ≡ Some w)
first_is f a zero w e = absurd (some_none (sym e))
first_is {X = X} f a (suc n) w e = by (f a) refl (λ later. first_is f (a + 1) n w later)
  where
    same_some : {v : X} → Some v ≡ Some w → v ≡ w
    same_some h = cc

    by : (o : Option X) → f a ≡ o →
        (slice_get (filter_map f (range_with_len (a + 1) n)) 0 ≡ Some w →
        (u : ℕ) × (a + 1 ≤ u) × (u < a + 1 + n) × (f u ≡ Some w)) →
        (u : ℕ) × (a ≤ u) × (u < a + suc n) × (f u ≡ Some w)
    by (Some v) is rest = (
      a,
      omega arith,
      omega arith,
      is
          ∙ ap Some (same_some
          (sym (ap (λ o. slice_get (cons_option o (filter_map f (range_with_len (a + 1) n))) 0) is) ∙ e)),
    )
    by None is rest =
        let later = rest (sym (ap
        (λ o. slice_get (cons_option o (filter_map f (range_with_len (a + 1) n))) 0) is) ∙ e) in
        (later.0, omega (arith, later.1), omega (arith, later.2), later.3)

-- Where there is no first answer, no number has one.
pub none_is : {X : Type 0} (f : ℕ → Option X) (a n : ℕ) →
    slice_get (filter_map f (range_with_len a n)) 0 ≡ None →
    (u : ℕ) → a ≤ u → u < a + n → f u ≡ None
none_is f a zero e u low high = absurd (omega arith)
none_is {X = X} f a (suc n) e u low high =
    by (f a) refl (λ later more less. none_is f (a + 1) n later u more less)
  where
    by : (o : Option X) → f a ≡ o →
        (slice_get (filter_map f (range_with_len (a + 1) n)) 0 ≡ None → a + 1 ≤ u → u < a + 1 + n →
        f u ≡ None) → f u ≡ None
    by (Some v) is rest = absurd
        (some_none (sym (ap (λ o. slice_get (cons_option o (filter_map f (range_with_len (a + 1) n))) 0) is)
        ∙ e))
    by None is rest = elim (cases_eq a u) [
      | inl same ↦ ap f (sym same) ∙ is
      | inr other ↦ rest (sym (ap
          (λ o. slice_get (cons_option o (filter_map f (range_with_len (a + 1) n))) 0) is) ∙ e) (omega arith)
          (omega arith)
    ]
