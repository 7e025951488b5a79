-- A unit of a set without tables has at most eight bytes.
use Rattle.std.proofs.Common.{ℕ, ◌≤◌, List, [], ◌∷◌, length, Option, inl, inr, arith}
use Rattle.unit_relations.specs.Units.{AreShort}
use Rattle.step_unicode.specs.declared.set.Uni.{Uni}
use Rattle.step_unicode.specs.declared.set.Uni.TheVariants.{Ascii, Utf8, Utf16, Utf16Le, Utf16Be, Ucs4}
use Rattle.step_unicode.specs.declared.set.State.{State}
use Rattle.step_unicode.specs.declared.set.State.TheVariants.{Plain, Little, Big, Roman, Kanji}
use Rattle.step_unicode.specs.Sets.{IsUnit}
use Rattle.step_unicode.specs.Utf8.{IsUtf8Unit}
use Rattle.step_unicode.specs.Utf16.{IsUtf16Unit, IsUtf16SetUnit, little, big}
use Rattle.step_unicode.specs.Ucs4.{IsUcs4Unit}

short_utf8 : (u : List ℕ) (p : ℕ) → IsUtf8Unit u p → length u ≤ 8
short_utf8 [] p unit = omega arith
short_utf8 (a ∷ []) p unit = omega arith
short_utf8 (a ∷ b ∷ []) p unit = omega arith
short_utf8 (a ∷ b ∷ c ∷ []) p unit = omega arith
short_utf8 (a ∷ b ∷ c ∷ d ∷ []) p unit = omega arith
short_utf8 (a ∷ b ∷ c ∷ d ∷ e ∷ u) p unit = absurd unit

short_utf16 : (number : ℕ → ℕ → ℕ) (u : List ℕ) (p : ℕ) → IsUtf16Unit number u p → length u ≤ 8
short_utf16 number [] p unit = omega arith
short_utf16 number (a ∷ []) p unit = omega arith
short_utf16 number (a ∷ b ∷ []) p unit = omega arith
short_utf16 number (a ∷ b ∷ c ∷ []) p unit = omega arith
short_utf16 number (a ∷ b ∷ c ∷ d ∷ []) p unit = omega arith
short_utf16 number (a ∷ b ∷ c ∷ d ∷ e ∷ u) p unit = absurd unit

short_ucs4 : (u : List ℕ) (p : ℕ) → IsUcs4Unit u p → length u ≤ 8
short_ucs4 [] p unit = omega arith
short_ucs4 (a ∷ []) p unit = omega arith
short_ucs4 (a ∷ b ∷ []) p unit = omega arith
short_ucs4 (a ∷ b ∷ c ∷ []) p unit = omega arith
short_ucs4 (a ∷ b ∷ c ∷ d ∷ []) p unit = omega arith
short_ucs4 (a ∷ b ∷ c ∷ d ∷ e ∷ u) p unit = absurd unit

short_marked : (s : State) (u : List ℕ) (q : Option ℕ) (t : State) → IsUtf16SetUnit s u q t → length u ≤ 8
short_marked Plain u q t (inl (e, f, g)) = rw e (omega arith)
short_marked Plain u q t (inr (inl (e, f, g))) = rw e (omega arith)
short_marked Plain u q t (inr (inr (e, f, (p, unit, is), g))) = short_utf16 little u p unit
short_marked Little u q t (p, unit, is, at) = short_utf16 little u p unit
short_marked Big u q t (p, unit, is, at) = short_utf16 big u p unit
short_marked Roman u q t unit = absurd unit
short_marked Kanji u q t unit = absurd unit

-- a unit of each set
pub short_units : (set : Uni) → AreShort (IsUnit set)
short_units Ascii s u q t (p, unit, is, at) = rw unit.1 (omega arith)
short_units Utf8 s u q t (p, unit, is, at) = short_utf8 u p unit
short_units Utf16 s u q t unit = short_marked s u q t unit
short_units Utf16Le s u q t (p, unit, is, at) = short_utf16 little u p unit
short_units Utf16Be s u q t (p, unit, is, at) = short_utf16 big u p unit
short_units Ucs4 s u q t (p, unit, is, at) = short_ucs4 u p unit
