-- What is plain is a concatenation of units with one point each.
use Rattle.std.proofs.Common.{◌≡◌, ℕ, suc, ◌+◌, ◌*◌, ◌<◌, Bool, true, false, cond, List, [], ◌∷◌, ◌++◌, take, get_or, Option, Some, refl, sym, ap, ◌∙◌, subst, arith, w8, Fits}
use Rattle.std.specs.Prelude.{nat_lt}
use Rattle.std.specs.List.{prefix_len}
use Rattle.std.proofs.lemmas.Bool.Decides.{nat_tests}
use Rattle.ascii_lanes.specs.Runs.{ascii_run, plain_units, numbers, number_of, is_plain_unit}
use Rattle.unit_relations.specs.Units.{Piece}
use Rattle.step_unicode.specs.declared.set.State.{State}
use Rattle.step_unicode.specs.declared.set.State.TheVariants.{Little, Big}
use Rattle.step_unicode.specs.declared.set.Uni.TheVariants.{Ascii, Utf8, Utf16, Utf16Le, Utf16Be}
use Rattle.step_unicode.specs.Points.{IsPoint}
use Rattle.step_unicode.specs.Utf16.{little, big, IsUtf16Unit}
use Rattle.step_unicode.specs.Sets.{IsUnit}
use Rattle.step_unicode.specs.Runs.{IsPointRun}

-- nothing is such a run
pub no_run : (U : State → List ℕ → Option ℕ → State → Type 0) (s : State) → IsPointRun U s []
no_run U s = record { cut = []; units = refl; bytes = refl; points = tt }

-- one unit more
one_more : (U : State → List ℕ → Option ℕ → State → Type 0) (s : State) (u x : List ℕ) (p : ℕ) → U s u (Some p) s → IsPointRun U s x → IsPointRun U s (u ++ x)
one_more U s u x p unit run =
    let piece : Piece State = record { bytes = u; point = Some p; state = s } in
    record {
      cut = piece ∷ run.cut;
      units = (unit, run.units);
      bytes = ap (λ z. u ++ z) run.bytes;
      points = (refl, run.points);
    }

-- bytes below 80 hex, where each is a unit
pub ascii_points : (U : State → List ℕ → Option ℕ → State → Type 0) (s : State) → ((b : ℕ) → b < 128 → U s (b ∷ []) (Some b) s) →
    (x : List ℕ) → IsPointRun U s (take (ascii_run x) x)
ascii_points U s is [] = no_run U s
ascii_points U s is (b ∷ x) = go (ascii_points U s is x) (nat_lt b 128) refl
  where
    go : IsPointRun U s (take (ascii_run x) x) → (t : Bool) → nat_lt b 128 ≡ t → IsPointRun U s (take (ascii_run (b ∷ x)) (b ∷ x))
    go run true e =
        let small : b < 128 = grind (arith, nat_tests, e) in
        let long : ascii_run (b ∷ x) ≡ suc (ascii_run x) =
        ap (λ t. cond t (1 + ascii_run x) 0) e ∙ (let one : 1 + ascii_run x ≡ suc (ascii_run x) = omega arith in one) in
        subst (λ k. IsPointRun U s (take k (b ∷ x))) (sym long) (one_more U s (b ∷ []) (take (ascii_run x) x) b (is b small) run)
    go run false e =
        subst (λ k. IsPointRun U s (take k (b ∷ x))) (sym (ap (λ t. cond t (1 + ascii_run x) 0) e)) (no_run U s)

-- units of two bytes that are no surrogates, where each is a unit
pub unit_points : (U : State → List ℕ → Option ℕ → State → Type 0) (s : State) (big : Bool) →
    ((a b : ℕ) → a < 256 → b < 256 → is_plain_unit (number_of big a b) ≡ true → U s (a ∷ b ∷ []) (Some (number_of big a b)) s) →
    (x : List ℕ) → ((k : ℕ) → Fits w8 (get_or x k 0)) → IsPointRun U s (take (plain_units big x) x)
unit_points U s big is [] fits = no_run U s
unit_points U s big is (a ∷ []) fits = no_run U s
unit_points U s big is (a ∷ b ∷ x) fits =
    go (unit_points U s big is x (λ k. fits (suc (suc k)))) (is_plain_unit (number_of big a b)) refl
  where
    go : IsPointRun U s (take (plain_units big x) x) → (t : Bool) → is_plain_unit (number_of big a b) ≡ t →
        IsPointRun U s (take (plain_units big (a ∷ b ∷ x)) (a ∷ b ∷ x))
    go run true e =
        let n = prefix_len is_plain_unit (numbers big x) in
        let long : plain_units big (a ∷ b ∷ x) ≡ suc (suc (plain_units big x)) =
        ap (λ t. 2 * cond t (1 + n) 0) e ∙ (let two : 2 * (1 + n) ≡ suc (suc (2 * n)) = omega arith in two) in
        subst (λ k. IsPointRun U s (take k (a ∷ b ∷ x))) (sym long)
        (one_more U s (a ∷ b ∷ []) (take (plain_units big x) x) (number_of big a b) (is a b (fits 0).fits (fits 1).fits e) run)
    go run false e =
        subst (λ k. IsPointRun U s (take k (a ∷ b ∷ x))) (sym (ap (λ t. 2 * cond t (1 + prefix_len is_plain_unit (numbers big x)) 0) e)) (no_run U s)

-- a number of 16 bits that is no surrogate is a point
number_point : (n : ℕ) → n < 65536 → is_plain_unit n ≡ true → IsPoint n
number_point n small e = (omega (arith, small), λ h. grind (arith, nat_tests, e, h))

-- the sets whose bytes below 80 hex are units
pub ascii_set_points : (s : State) (x : List ℕ) → IsPointRun (IsUnit Ascii) s (take (ascii_run x) x)
ascii_set_points s = ascii_points (IsUnit Ascii) s (λ b h. (b, (omega arith, refl), refl, refl))

pub utf8_points : (s : State) (x : List ℕ) → IsPointRun (IsUnit Utf8) s (take (ascii_run x) x)
utf8_points s = ascii_points (IsUnit Utf8) s (λ b h. (b, (omega arith, refl), refl, refl))

low_unit : (a b : ℕ) → a < 256 → b < 256 → is_plain_unit (a + 256 * b) ≡ true → IsUtf16Unit little (a ∷ b ∷ []) (a + 256 * b)
low_unit a b la lb ok = (omega (arith, la), omega (arith, lb), number_point (a + 256 * b) (omega (arith, la, lb)) ok, refl)

high_unit : (a b : ℕ) → a < 256 → b < 256 → is_plain_unit (256 * a + b) ≡ true → IsUtf16Unit big (a ∷ b ∷ []) (256 * a + b)
high_unit a b la lb ok = (omega (arith, la), omega (arith, lb), number_point (256 * a + b) (omega (arith, la, lb)) ok, refl)

-- the forms of UTF-16 in each order
pub low_points : (s : State) (x : List ℕ) → ((k : ℕ) → Fits w8 (get_or x k 0)) → IsPointRun (IsUnit Utf16Le) s (take (plain_units false x) x)
low_points s = unit_points (IsUnit Utf16Le) s false (λ a b la lb ok. (a + 256 * b, low_unit a b la lb ok, refl, refl))

pub high_points : (s : State) (x : List ℕ) → ((k : ℕ) → Fits w8 (get_or x k 0)) → IsPointRun (IsUnit Utf16Be) s (take (plain_units true x) x)
high_points s = unit_points (IsUnit Utf16Be) s true (λ a b la lb ok. (256 * a + b, high_unit a b la lb ok, refl, refl))

pub marked_low_points : (x : List ℕ) → ((k : ℕ) → Fits w8 (get_or x k 0)) → IsPointRun (IsUnit Utf16) Little (take (plain_units false x) x)
marked_low_points = unit_points (IsUnit Utf16) Little false (λ a b la lb ok. (a + 256 * b, low_unit a b la lb ok, refl, refl))

pub marked_high_points : (x : List ℕ) → ((k : ℕ) → Fits w8 (get_or x k 0)) → IsPointRun (IsUnit Utf16) Big (take (plain_units true x) x)
marked_high_points = unit_points (IsUnit Utf16) Big true (λ a b la lb ok. (256 * a + b, high_unit a b la lb ok, refl, refl))
