-- The units of every set are apart.
use Rattle.std.proofs.Common.{◌≡◌, ◌≢◌, ℕ, ◌+◌, ◌*◌, ◌<◌, arith, List, [], ◌∷◌, ◌++◌, Option, Some, inl, inr, ap, sym, ◌∙◌, refl}
use Rattle.step_unicode.specs.declared.set.Uni.{Uni}
use Rattle.step_unicode.specs.declared.set.Uni.TheVariants.{Ascii, Utf8, Utf16, Utf16Le, Utf16Be, Ucs4}
use Rattle.step_unicode.specs.declared.set.State.{State}
use Rattle.step_unicode.specs.declared.set.State.TheVariants.{Plain, Little, Big, Roman, Kanji}
use Rattle.step_unicode.specs.Points.{IsStatelessUnit}
use Rattle.step_unicode.specs.Sets.{IsUnit, IsAsciiUnit}
use Rattle.step_unicode.specs.Utf16.{little, big, IsUtf16Unit, IsUtf16SetUnit, IsFirstUnit, big_mark, little_mark}
use Rattle.step_unicode.specs.Utf8.{IsUtf8Unit}
use Rattle.step_unicode.specs.Ucs4.{IsUcs4Unit}
use Rattle.unit_relations.specs.Units.{AreApart}
use Rattle.step_unicode.proofs.Utf8Apart as utf8
use Rattle.step_unicode.proofs.Utf16Apart as utf16

-- codes of which none begins another, each for one point
abbrev CodesApart : (List ℕ → ℕ → Type 0) → Type 0
CodesApart IsCode = (u v x y : List ℕ) (p r : ℕ) → IsCode u p → IsCode v r → u ++ x ≡ v ++ y → (u ≡ v) × (p ≡ r)

stand_apart : (IsCode : List ℕ → ℕ → Type 0) → CodesApart IsCode → AreApart (IsStatelessUnit IsCode)
stand_apart IsCode codes s u v x y q r t w m n h =
    let one : (u ≡ v) × (m.0 ≡ n.0) = codes u v x y m.0 n.0 m.1 n.1 h in
    (one.0, m.2 ∙ ap Some one.1 ∙ sym n.2, m.3 ∙ sym n.3)

ascii : CodesApart IsAsciiUnit
ascii u v x y p r m n h =
    let f : p ∷ x ≡ r ∷ y = ap (λ z. z ++ x) (sym m.1) ∙ h ∙ ap (λ z. z ++ y) n.1 in
    let same : p ≡ r = cc in
    (m.1 ∙ ap (λ z. z ∷ []) same ∙ sym n.1, same)

ucs4 : CodesApart IsUcs4Unit
ucs4 (a ∷ b ∷ c ∷ d ∷ []) (e ∷ f ∷ g ∷ k ∷ []) x y p r m n h =
    let i : a ≡ e = cc in
    let j : b ≡ f = cc in
    let l : c ≡ g = cc in
    let o : d ≡ k = cc in
    (cc, cc)
ucs4 [] v x y p r m n h = absurd m
ucs4 (a ∷ []) v x y p r m n h = absurd m
ucs4 (a ∷ b ∷ []) v x y p r m n h = absurd m
ucs4 (a ∷ b ∷ c ∷ []) v x y p r m n h = absurd m
ucs4 (a ∷ b ∷ c ∷ d ∷ z ∷ u) v x y p r m n h = absurd m
ucs4 (a ∷ b ∷ c ∷ d ∷ []) [] x y p r m n h = absurd n
ucs4 (a ∷ b ∷ c ∷ d ∷ []) (e ∷ []) x y p r m n h = absurd n
ucs4 (a ∷ b ∷ c ∷ d ∷ []) (e ∷ f ∷ []) x y p r m n h = absurd n
ucs4 (a ∷ b ∷ c ∷ d ∷ []) (e ∷ f ∷ g ∷ []) x y p r m n h = absurd n
ucs4 (a ∷ b ∷ c ∷ d ∷ []) (e ∷ f ∷ g ∷ k ∷ z ∷ v) x y p r m n h = absurd n

-- a unit of the little order that begins with two bytes of a number above the surrogates is these two
is_mark : (a b : ℕ) (x v y : List ℕ) (p : ℕ) → 0xDBFF < a + 256 * b → IsUtf16Unit little v p → a ∷ b ∷ x ≡ v ++ y → v ≡ a ∷ b ∷ []
is_mark a b x (e ∷ f ∷ []) y p high unit h = let i : a ≡ e = cc in let j : b ≡ f = cc in cc
is_mark a b x (e ∷ f ∷ g ∷ k ∷ []) y p high unit h = let i : a ≡ e = cc in let j : b ≡ f = cc in absurd (omega arith)
is_mark a b x [] y p high unit h = absurd unit
is_mark a b x (e ∷ []) y p high unit h = absurd unit
is_mark a b x (e ∷ f ∷ g ∷ []) y p high unit h = absurd unit
is_mark a b x (e ∷ f ∷ g ∷ k ∷ z ∷ v) y p high unit h = absurd unit

big_no_unit : (x v y : List ℕ) (p : ℕ) → v ≢ big_mark → IsUtf16Unit little v p → big_mark ++ x ≡ v ++ y → ⊥
big_no_unit x v y p none unit h = none (is_mark 0xFE 0xFF x v y p (omega arith) unit h)

little_no_unit : (x v y : List ℕ) (p : ℕ) → v ≢ little_mark → IsUtf16Unit little v p → little_mark ++ x ≡ v ++ y → ⊥
little_no_unit x v y p none unit h = none (is_mark 0xFF 0xFE x v y p (omega arith) unit h)

differ : (a b : ℕ) → a ≡ b → a ≡ 0xFE → b ≡ 0xFF → ⊥
differ a b e f g = absurd (omega arith)

heads : (a b : ℕ) (x y : List ℕ) → a ∷ x ≡ b ∷ y → a ≡ b
heads a b x y e = cc

two_marks : (x y : List ℕ) → big_mark ++ x ≡ little_mark ++ y → ⊥
two_marks x y e = differ 0xFE 0xFF (heads 0xFE 0xFF (0xFF ∷ x) (0xFE ∷ y) e) refl refl

first : (u v x y : List ℕ) (q r : Option ℕ) (t w : State) → IsFirstUnit u q t → IsFirstUnit v r w → u ++ x ≡ v ++ y → (u ≡ v) × (q ≡ r) × (t ≡ w)
first u v x y q r t w (inl (e, f, g)) (inl (e', f', g')) h = (e ∙ sym e', f ∙ sym f', g ∙ sym g')
first u v x y q r t w (inl (e, f, g)) (inr (inl (e', f', g'))) h =
    let k : big_mark ++ x ≡ little_mark ++ y = ap (λ z. z ++ x) (sym e) ∙ h ∙ ap (λ z. z ++ y) e' in absurd (two_marks x y k)
first u v x y q r t w (inl (e, f, g)) (inr (inr (plain, plain', (p, unit, is), g'))) h =
    absurd (big_no_unit x v y p plain unit (ap (λ z. z ++ x) (sym e) ∙ h))
first u v x y q r t w (inr (inl (e, f, g))) (inl (e', f', g')) h =
    let k : little_mark ++ x ≡ big_mark ++ y = ap (λ z. z ++ x) (sym e) ∙ h ∙ ap (λ z. z ++ y) e' in absurd (two_marks y x (sym k))
first u v x y q r t w (inr (inl (e, f, g))) (inr (inl (e', f', g'))) h = (e ∙ sym e', f ∙ sym f', g ∙ sym g')
first u v x y q r t w (inr (inl (e, f, g))) (inr (inr (plain, plain', (p, unit, is), g'))) h =
    absurd (little_no_unit x v y p plain' unit (ap (λ z. z ++ x) (sym e) ∙ h))
first u v x y q r t w (inr (inr (plain, plain', (p, unit, is), g))) (inl (e', f', g')) h =
    absurd (big_no_unit y u x p plain unit (ap (λ z. z ++ y) (sym e') ∙ sym h))
first u v x y q r t w (inr (inr (plain, plain', (p, unit, is), g))) (inr (inl (e', f', g'))) h =
    absurd (little_no_unit y u x p plain' unit (ap (λ z. z ++ y) (sym e') ∙ sym h))
first u v x y q r t w (inr (inr (plain, plain', (p, unit, is), g))) (inr (inr (other, other', (p', unit', is'), g'))) h =
    let one : (u ≡ v) × (p ≡ p') = utf16.apart little u v x y p p' unit unit' h in
    (one.0, is ∙ ap Some one.1 ∙ sym is', g ∙ sym g')

marked_apart : AreApart IsUtf16SetUnit
marked_apart Plain u v x y q r t w m n h = first u v x y q r t w m n h
marked_apart Little u v x y q r t w m n h = stand_apart (IsUtf16Unit little) (utf16.apart little) Little u v x y q r t w m n h
marked_apart Big u v x y q r t w m n h = stand_apart (IsUtf16Unit big) (utf16.apart big) Big u v x y q r t w m n h
marked_apart Roman u v x y q r t w m n h = absurd m
marked_apart Kanji u v x y q r t w m n h = absurd m

-- in one state no unit of a set begins another, and a unit gives one answer and leads to one state
pub are_apart : (set : Uni) → AreApart (IsUnit set)
are_apart Ascii = stand_apart IsAsciiUnit ascii
are_apart Utf8 = stand_apart IsUtf8Unit utf8.apart
are_apart Utf16 = marked_apart
are_apart Utf16Le = stand_apart (IsUtf16Unit little) (utf16.apart little)
are_apart Utf16Be = stand_apart (IsUtf16Unit big) (utf16.apart big)
are_apart Ucs4 = stand_apart IsUcs4Unit ucs4
