-- States, bytes and spellings of each set.
use Rattle.std.proofs.Common.{◌≡◌, ℕ, ◌≤◌, List, [], ◌∷◌, ◌++◌, length, Option, refl, ap, sym, subst, inl, inr, arith}
use Rattle.step_unicode.specs.declared.set.Uni.{Uni}
use Rattle.step_unicode.specs.declared.set.Uni.TheVariants.{Ascii, Utf8, Utf16, Utf16Le, Utf16Be, Ucs4}
use Rattle.step_unicode.specs.declared.set.State.{State}
use Rattle.step_unicode.specs.declared.set.State.TheVariants.{Plain, Little, Big, Roman, Kanji}
use Rattle.step_unicode.specs.Sets.{IsUnit, IsStateOf, spelling, after}
use Rattle.std.proofs.lemmas.List.Concat.{flat_map-append}
use Rattle.step_unicode.specs.Utf8.{utf8}
use Rattle.step_unicode.specs.Utf16.{utf16, little_bytes, big_bytes, big_mark, little_mark, marked, after_marked}
use Rattle.step_unicode.specs.Ucs4.{ucs4}
use Rattle.unit_relations.specs.Units.{HaveBytes}
use Rattle.unit_relations.specs.Spellings.{Joins, IsShort}

-- a unit leads to a state of its set
pub unit_leads : (set : Uni) (s : State) (u : List ℕ) (q : Option ℕ) (t : State) → IsStateOf set s → IsUnit set s u q t → IsStateOf set t
unit_leads Ascii s u q t at (p, unit, e, same) = subst (λ z. IsStateOf Ascii z) (sym same) at
unit_leads Utf8 s u q t at (p, unit, e, same) = subst (λ z. IsStateOf Utf8 z) (sym same) at
unit_leads Utf16Le s u q t at (p, unit, e, same) = subst (λ z. IsStateOf Utf16Le z) (sym same) at
unit_leads Utf16Be s u q t at (p, unit, e, same) = subst (λ z. IsStateOf Utf16Be z) (sym same) at
unit_leads Ucs4 s u q t at (p, unit, e, same) = subst (λ z. IsStateOf Ucs4 z) (sym same) at
unit_leads Utf16 Plain u q t at (inl (e, f, to)) = subst (λ z. IsStateOf Utf16 z) (sym to) refl
unit_leads Utf16 Plain u q t at (inr (inl (e, f, to))) = subst (λ z. IsStateOf Utf16 z) (sym to) refl
unit_leads Utf16 Plain u q t at (inr (inr (e, f, g, to))) = subst (λ z. IsStateOf Utf16 z) (sym to) refl
unit_leads Utf16 Little u q t at (p, unit, e, to) = subst (λ z. IsStateOf Utf16 z) (sym to) refl
unit_leads Utf16 Big u q t at (p, unit, e, to) = subst (λ z. IsStateOf Utf16 z) (sym to) refl
unit_leads Utf16 Roman u q t at unit = absurd unit
unit_leads Utf16 Kanji u q t at unit = absurd unit

-- the spelling of points leads to a state of its set
pub spelling_leads : (set : Uni) (s : State) (q : List ℕ) → IsStateOf set s → IsStateOf set (after set s q)
spelling_leads Ascii s q at = at
spelling_leads Utf8 s q at = at
spelling_leads Utf16Le s q at = at
spelling_leads Utf16Be s q at = at
spelling_leads Ucs4 s q at = at
spelling_leads Utf16 Plain [] at = refl
spelling_leads Utf16 Plain (p ∷ q) at = refl
spelling_leads Utf16 Little q at = at
spelling_leads Utf16 Big q at = at
spelling_leads Utf16 Roman q at = at
spelling_leads Utf16 Kanji q at = at

-- a unit has bytes
pub have_bytes : (set : Uni) → HaveBytes (IsUnit set)
have_bytes Ascii s [] q t (p, (low, e), f, g) = λ h. no_cons p e
  where
    no_cons : (p : ℕ) → [] ≡ p ∷ [] → ⊥
    no_cons p h = cc
have_bytes Utf8 s [] q t (p, unit, f, g) = absurd unit
have_bytes Utf16 Plain [] q t (inl (e, f, g)) = λ h. no_cons e
  where
    no_cons : [] ≡ big_mark → ⊥
    no_cons h = cc
have_bytes Utf16 Plain [] q t (inr (inl (e, f, g))) = λ h. no_cons e
  where
    no_cons : [] ≡ little_mark → ⊥
    no_cons h = cc
have_bytes Utf16 Plain [] q t (inr (inr (e, f, (p, unit, h), g))) = absurd unit
have_bytes Utf16 Little [] q t (p, unit, e, f) = absurd unit
have_bytes Utf16 Big [] q t (p, unit, e, f) = absurd unit
have_bytes Utf16 Roman [] q t unit = absurd unit
have_bytes Utf16 Kanji [] q t unit = absurd unit
have_bytes Utf16Le s [] q t (p, unit, e, f) = absurd unit
have_bytes Utf16Be s [] q t (p, unit, e, f) = absurd unit
have_bytes Ucs4 s [] q t (p, unit, e, f) = absurd unit
have_bytes set s (b ∷ u) q t unit = λ e. cc

marked_join : (s : State) (q r : List ℕ) → marked s (q ++ r) ≡ marked s q ++ marked (after_marked s q) r
marked_join Plain [] r = refl
marked_join Plain (p ∷ q) r = ap (λ z. little_mark ++ z) (flat_map-append (utf16 little_bytes) (p ∷ q) r)
marked_join Little q r = flat_map-append (utf16 little_bytes) q r
marked_join Big q r = flat_map-append (utf16 big_bytes) q r
marked_join Roman q r = flat_map-append (utf16 little_bytes) q r
marked_join Kanji q r = flat_map-append (utf16 little_bytes) q r

after_join : (s : State) (q r : List ℕ) → after_marked s (q ++ r) ≡ after_marked (after_marked s q) r
after_join Plain [] r = refl
after_join Plain (p ∷ q) r = refl
after_join Little q r = refl
after_join Big q r = refl
after_join Roman q r = refl
after_join Kanji q r = refl

marked_nothing : (s : State) → marked s [] ≡ []
marked_nothing Plain = refl
marked_nothing Little = refl
marked_nothing Big = refl
marked_nothing Roman = refl
marked_nothing Kanji = refl

marked_stays : (s : State) → after_marked s [] ≡ s
marked_stays Plain = refl
marked_stays Little = refl
marked_stays Big = refl
marked_stays Roman = refl
marked_stays Kanji = refl

-- a list is spelled part by part
pub joins : (set : Uni) → Joins (spelling set)
joins Ascii = record { nothing = λ s. refl; stays = λ s. refl; bytes = λ s q r. refl; after = λ s q r. refl }
joins Utf8 = record { nothing = λ s. refl; stays = λ s. refl; bytes = λ s q r. flat_map-append utf8 q r; after = λ s q r. refl }
joins Utf16 = record { nothing = marked_nothing; stays = marked_stays; bytes = marked_join; after = after_join }
joins Utf16Le = record { nothing = λ s. refl; stays = λ s. refl; bytes = λ s q r. flat_map-append (utf16 little_bytes) q r; after = λ s q r. refl }
joins Utf16Be = record { nothing = λ s. refl; stays = λ s. refl; bytes = λ s q r. flat_map-append (utf16 big_bytes) q r; after = λ s q r. refl }
joins Ucs4 = record { nothing = λ s. refl; stays = λ s. refl; bytes = λ s q r. flat_map-append ucs4 q r; after = λ s q r. refl }

short_utf8 : (p : ℕ) → length (utf8 p ++ []) ≤ 8
short_utf8 p = grind arith

short_little : (p : ℕ) → length (utf16 little_bytes p ++ []) ≤ 4
short_little p = grind arith

short_big : (p : ℕ) → length (utf16 big_bytes p ++ []) ≤ 4
short_big p = grind arith

short_marked : (s : State) (p : ℕ) → length (marked s (p ∷ [])) ≤ 8
short_marked Plain p = omega (arith, short_little p)
short_marked Little p = omega (arith, short_little p)
short_marked Big p = omega (arith, short_big p)
short_marked Roman p = omega (arith, short_little p)
short_marked Kanji p = omega (arith, short_little p)

-- a point has at most eight bytes
pub short : (set : Uni) → IsShort (spelling set)
short Ascii = λ s p. omega arith
short Utf8 = λ s p. short_utf8 p
short Utf16 = short_marked
short Utf16Le = λ s p. omega (arith, short_little p)
short Utf16Be = λ s p. omega (arith, short_big p)
short Ucs4 = λ s p. omega arith

-- the initial state is one of every set
pub plain_is_state : (set : Uni) → IsStateOf set Plain
plain_is_state Ascii = refl
plain_is_state Utf8 = refl
plain_is_state Utf16 = refl
plain_is_state Utf16Le = refl
plain_is_state Utf16Be = refl
plain_is_state Ucs4 = refl
