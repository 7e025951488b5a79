-- The first unit of a text of UTF-16: a mark, or a unit of the little order.
use Rattle.std.proofs.Common.{◌≡◌, ◌≢◌, ℕ, ◌<◌, ◌≤◌, zero, suc, List, [], ◌∷◌, ◌++◌, length, take, get_or, Option, Some, inl, inr, refl, arith, ◌∙◌}
use Rattle.step_unicode.specs.declared.set.State.{State}
use Rattle.step_unicode.specs.declared.set.State.TheVariants.{Plain, Little}
use Rattle.step_unicode.specs.declared.set.Unit.{Unit}
use Rattle.step_unicode.specs.declared.set.Unit.TheVariants.{Got, Incomplete, Illegal}
use Rattle.step_unicode.specs.declared.set.Uni.TheVariants.{Utf16, Utf16Le}
use Rattle.step_unicode.specs.Sets.{IsUnit}
use Rattle.step_unicode.specs.Utf16.{big_mark, little_mark}
use Rattle.step_unicode.specs.Answers.{IsAnswer}
use Rattle.step_unicode.specs.Points.{IsByte}
use Rattle.unit_relations.specs.Units.{IsPartial}

-- two bytes that are no mark
pub record IsNoMark (a b : ℕ) : Type 0 where
  pub big : a ≡ 0xFE → b ≢ 0xFF
  pub little : a ≡ 0xFF → b ≢ 0xFE

no_big : (a b : ℕ) (u : List ℕ) → IsNoMark a b → a ∷ b ∷ u ≢ big_mark
no_big a b u none e = let h : a ≡ 0xFE = cc in let k : b ≡ 0xFF = cc in none.big h k

no_little : (a b : ℕ) (u : List ℕ) → IsNoMark a b → a ∷ b ∷ u ≢ little_mark
no_little a b u none e = let h : a ≡ 0xFF = cc in let k : b ≡ 0xFE = cc in none.little h k

-- a unit of the little order that begins so is a first unit
first : (a b : ℕ) (u : List ℕ) (q : Option ℕ) (t : State) → IsNoMark a b → IsUnit Utf16Le Little (a ∷ b ∷ u) q t → IsUnit Utf16 Plain (a ∷ b ∷ u) q t
first a b u q t none (p, unit, is, after) = inr (inr (no_big a b u none, no_little a b u none, (p, unit, is), after))

-- and a first unit that begins so is one of the little order
back : (a b : ℕ) (u : List ℕ) (q : Option ℕ) (t : State) → IsNoMark a b → IsUnit Utf16 Plain (a ∷ b ∷ u) q t → IsUnit Utf16Le Little (a ∷ b ∷ u) q t
back a b u q t none (inl (e, _, _)) = absurd (no_big a b u none e)
back a b u q t none (inr (inl (e, _, _))) = absurd (no_little a b u none e)
back a b u q t none (inr (inr (_, _, (p, unit, is), after))) = (p, unit, is, after)

-- a unit of the little order is no front of two bytes
got : (a b : ℕ) (x : List ℕ) (q : Option ℕ) (used : ℕ) (t : State) → IsNoMark a b →
    IsUnit Utf16Le Little (take used (a ∷ b ∷ x)) q t → IsUnit Utf16 Plain (take used (a ∷ b ∷ x)) q t
got a b x q zero t none (p, unit, is, after) = absurd unit
got a b x q (suc zero) t none (p, unit, is, after) = absurd unit
got a b x q (suc (suc n)) t none unit = first a b (take n x) q t none unit

-- what begins with a first unit, and with no mark, begins with a unit of the little order
begins : (a b : ℕ) (x u rest : List ℕ) (q : Option ℕ) (t : State) → IsNoMark a b → IsUnit Utf16 Plain u q t → a ∷ b ∷ x ≡ u ++ rest → IsUnit Utf16Le Little u q t
begins a b x [] rest q t none (inl (e, _, _)) h = cc
begins a b x [] rest q t none (inr (inl (e, _, _))) h = cc
begins a b x [] rest q t none (inr (inr (_, _, (p, unit, _), _))) h = absurd unit
begins a b x (c ∷ []) rest q t none (inl (e, _, _)) h = cc
begins a b x (c ∷ []) rest q t none (inr (inl (e, _, _))) h = cc
begins a b x (c ∷ []) rest q t none (inr (inr (_, _, (p, unit, _), _))) h = absurd unit
begins a b x (c ∷ d ∷ u) rest q t none unit h =
    let same : a ≡ c = cc in
    let same2 : b ≡ d = cc in
    back c d u q t (record { big = λ e k. none.big (same ∙ e) (same2 ∙ k); little = λ e k. none.little (same ∙ e) (same2 ∙ k) }) unit

answer_of : (a b : ℕ) (x : List ℕ) (r : Unit) → IsNoMark a b → IsAnswer (IsUnit Utf16Le) Little (a ∷ b ∷ x) r → IsAnswer (IsUnit Utf16) Plain (a ∷ b ∷ x) r
answer_of a b x (Got q used t) none (within, unit) = (within, got a b x q used t none unit)
answer_of a b x Incomplete none (more, q, t, some, unit) = (more, q, t, some, first a b (x ++ more) q t none unit)
answer_of a b x Illegal none (begun, partial) = (
  (λ (u, rest, q, t, unit, e). begun (u, rest, q, t, begins a b x u rest q t none unit e, e)),
  (λ (more, q, t, some, unit). partial (more, q, t, some, back a b (x ++ more) q t none unit)),
)

-- what is read where no mark stands is what the little order reads
pub answer : (x : List ℕ) (r : Unit) → 2 ≤ length x → IsNoMark (get_or x 0 0) (get_or x 1 0) →
    IsAnswer (IsUnit Utf16Le) Little x r → IsAnswer (IsUnit Utf16) Plain x r
answer [] r two none a = absurd (omega arith)
answer (b ∷ []) r two none a = absurd (omega arith)
answer (b ∷ c ∷ x) r two none a = answer_of b c x r none a

-- one byte is the front of a unit of the little order
pub one_byte : (x : List ℕ) → 0 < length x → length x < 2 → IsByte (get_or x 0 0) → IsPartial (IsUnit Utf16) Plain x
one_byte [] some short byte = absurd (omega arith)
one_byte (a ∷ []) some short byte = (
  0 ∷ [],
  Some a,
  Little,
  (λ e. cc),
  first a 0 [] (Some a) Little (record { big = λ e k. cc; little = λ e k. cc })
      (a, (byte, omega arith, (omega arith, λ h. omega arith), omega arith), refl, refl),
)
one_byte (a ∷ b ∷ x) some short byte = absurd (omega arith)
