-- What a set spells, it reads.
use Rattle.std.proofs.Common.{◌≡◌, ℕ, ◌+◌, ◌-◌, ◌/◌, ◌%◌, ◌<◌, ◌≤◌, List, [], ◌∷◌, ◌++◌, Option, Some, None, inl, inr, refl, ap, arith}
use Rattle.std.specs.Prelude.{nat_lt, if◌then◌else◌}
use Rattle.std.specs.List.{flat_map, AllByRecursion}
use Rattle.std.proofs.lemmas.Bool.{cases_lt, cond_both, ltb-true, ltb-false}
use Rattle.step_unicode.specs.declared.set.Uni.{Uni}
use Rattle.step_unicode.specs.declared.set.Uni.TheVariants.{Ascii, Utf8, Utf16, Utf16Le, Utf16Be, Ucs4}
use Rattle.step_unicode.specs.declared.set.State.{State}
use Rattle.step_unicode.specs.declared.set.State.TheVariants.{Plain, Little, Big, Roman, Kanji}
use Rattle.step_unicode.specs.Points.{IsPoint}
use Rattle.step_unicode.specs.Utf8.{IsUtf8Unit, utf8}
use Rattle.step_unicode.specs.Utf16.{little, big, little_bytes, big_bytes, little_mark, IsUtf16Unit, utf16}
use Rattle.step_unicode.specs.Ucs4.{IsUcs4Unit, ucs4}
use Rattle.step_unicode.specs.Sets.{IsStateOf, IsUnit, IsSpellable, spelled, after}
use Rattle.unit_relations.specs.Units.{Reads}

-- the sequences of three and of four bytes
abbrev longer : ℕ → List ℕ
longer p =
    if nat_lt p 0x10000 then (0xE0 + p / 4096) ∷ (0x80 + p / 64 % 64) ∷ (0x80 + p % 64) ∷ []
    else (0xF0 + p / 262144) ∷ (0x80 + p / 4096 % 64) ∷ (0x80 + p / 64 % 64) ∷ (0x80 + p % 64) ∷ []

-- the sequences of two bytes and more
abbrev long : ℕ → List ℕ
long p = if nat_lt p 0x800 then (0xC0 + p / 64) ∷ (0x80 + p % 64) ∷ [] else longer p

-- behind the first byte ED no second byte of a point is above 9F
second_below : (p : ℕ) → IsPoint p → 0xE0 + p / 4096 ≡ 0xED → 0x80 + p / 64 % 64 ≤ 0x9F
second_below p is e = elim (cases_lt p 0xD800) [
  | inl low ↦ omega arith
  | inr high ↦ let above : 0xDFFF < p = is.1 high in absurd (omega arith)
]

three : (p : ℕ) → IsPoint p → 0x800 ≤ p → IsUtf8Unit (longer p) p
three p is h =
    cond_both (nat_lt p 0x10000) ((0xE0 + p / 4096) ∷ (0x80 + p / 64 % 64) ∷ (0x80 + p % 64) ∷ [])
    ((0xF0 + p / 262144) ∷ (0x80 + p / 4096 % 64) ∷ (0x80 + p / 64 % 64) ∷ (0x80 + p % 64) ∷ []) (λ u. IsUtf8Unit u p)
    (λ e. let k = ltb-true p 0x10000 e in
    ((omega arith, omega arith), ((omega arith, omega arith), (λ a. omega arith), (λ a. second_below p is a), (λ a. omega arith), (λ a. omega arith)), (omega arith, omega arith), omega arith))
    (λ e. let k = ltb-false p 0x10000 e in
    ((omega arith, omega arith), ((omega arith, omega arith), (λ a. omega arith), (λ a. omega arith), (λ a. omega arith), (λ a. omega arith)), (omega arith, omega arith), (omega arith, omega arith), omega arith))

two : (p : ℕ) → IsPoint p → 0x80 ≤ p → IsUtf8Unit (long p) p
two p is h =
    cond_both (nat_lt p 0x800) ((0xC0 + p / 64) ∷ (0x80 + p % 64) ∷ []) (longer p) (λ u. IsUtf8Unit u p)
    (λ e. let k = ltb-true p 0x800 e in
    ((omega arith, omega arith), ((omega arith, omega arith), (λ a. omega arith), (λ a. omega arith), (λ a. omega arith), (λ a. omega arith)), omega arith))
    (λ e. three p is (ltb-false p 0x800 e))

-- the sequence of a point is well formed
utf8_unit : (p : ℕ) → IsPoint p → IsUtf8Unit (utf8 p) p
utf8_unit p is =
    cond_both (nat_lt p 0x80) (p ∷ []) (long p) (λ u. IsUtf8Unit u p) (λ e. let h = ltb-true p 0x80 e in (omega arith, refl))
    (λ e. two p is (ltb-false p 0x80 e))

-- the bytes of a point are a unit of the little order
little_unit : (p : ℕ) → IsPoint p → IsUtf16Unit little (utf16 little_bytes p) p
little_unit p is =
    cond_both (nat_lt p 0x10000) (little_bytes p)
    (little_bytes (0xD800 + (p - 0x10000) / 1024) ++ little_bytes (0xDC00 + (p - 0x10000) % 1024)) (λ u. IsUtf16Unit little u p)
    (λ e. let k = ltb-true p 0x10000 e in (omega arith, omega arith, is, omega arith))
    (λ e. let k = ltb-false p 0x10000 e in
    (omega arith, omega arith, omega arith, omega arith, (omega arith, omega arith), (omega arith, omega arith), omega arith))

-- and of the big order
big_unit : (p : ℕ) → IsPoint p → IsUtf16Unit big (utf16 big_bytes p) p
big_unit p is =
    cond_both (nat_lt p 0x10000) (big_bytes p)
    (big_bytes (0xD800 + (p - 0x10000) / 1024) ++ big_bytes (0xDC00 + (p - 0x10000) % 1024)) (λ u. IsUtf16Unit big u p)
    (λ e. let k = ltb-true p 0x10000 e in (omega arith, omega arith, is, omega arith))
    (λ e. let k = ltb-false p 0x10000 e in
    (omega arith, omega arith, omega arith, omega arith, (omega arith, omega arith), (omega arith, omega arith), omega arith))

ucs4_unit : (p : ℕ) → IsPoint p → IsUcs4Unit (ucs4 p) p
ucs4_unit p is = (omega arith, omega arith, omega arith, omega arith, is, omega arith)

-- units one after another, each of which leaves the state
list_reads : (U : State → List ℕ → Option ℕ → State → Type 0) (s : State) (f : ℕ → List ℕ) (Has : ℕ → Type 0) →
    ((p : ℕ) → Has p → U s (f p) (Some p) s) → (q : List ℕ) → AllByRecursion Has q → Reads U s (flat_map f q) q s
list_reads U s f Has unit [] all = record { cut = []; units = refl; bytes = refl; points = refl }
list_reads U s f Has unit (p ∷ q) all =
    let rest : Reads U s (flat_map f q) q s = list_reads U s f Has unit q all.1 in
    record {
      cut = record { bytes = f p; point = Some p; state = s } ∷ rest.cut;
      units = (unit p all.0, rest.units);
      bytes = ap (λ x. f p ++ x) rest.bytes;
      points = ap (λ x. p ∷ x) rest.points;
    }

ascii_reads : (s : State) (q : List ℕ) → AllByRecursion (λ p. p ≤ 0x7F) q → Reads (IsUnit Ascii) s q q s
ascii_reads s [] all = record { cut = []; units = refl; bytes = refl; points = refl }
ascii_reads s (p ∷ q) all =
    let rest : Reads (IsUnit Ascii) s q q s = ascii_reads s q all.1 in
    record {
      cut = record { bytes = p ∷ []; point = Some p; state = s } ∷ rest.cut;
      units = ((p, (all.0, refl), refl, refl), rest.units);
      bytes = ap (λ x. p ∷ x) rest.bytes;
      points = ap (λ x. p ∷ x) rest.points;
    }

little_reads : (q : List ℕ) → AllByRecursion IsPoint q → Reads (IsUnit Utf16) Little (flat_map (utf16 little_bytes) q) q Little
little_reads q all = list_reads (IsUnit Utf16) Little (utf16 little_bytes) IsPoint (λ p is. (p, little_unit p is, refl, refl)) q all

-- UTF-16 from each of its states
utf16_reads : (s : State) (q : List ℕ) → IsStateOf Utf16 s → AllByRecursion IsPoint q → Reads (IsUnit Utf16) s (spelled Utf16 s q) q (after Utf16 s q)
utf16_reads Plain [] is all = record { cut = []; units = refl; bytes = refl; points = refl }
utf16_reads Plain (p ∷ q) is all =
    let rest : Reads (IsUnit Utf16) Little (flat_map (utf16 little_bytes) (p ∷ q)) (p ∷ q) Little = little_reads (p ∷ q) all in
    record {
      cut = record { bytes = little_mark; point = None; state = Little } ∷ rest.cut;
      units = (inr (inl (refl, refl, refl)), rest.units);
      bytes = ap (λ x. little_mark ++ x) rest.bytes;
      points = rest.points;
    }
utf16_reads Little q is all = little_reads q all
utf16_reads Big q is all = list_reads (IsUnit Utf16) Big (utf16 big_bytes) IsPoint (λ p unit. (p, big_unit p unit, refl, refl)) q all
utf16_reads Roman q is all = cc
utf16_reads Kanji q is all = cc

-- a list that a set spells is read as that list, and the states after it are the same
pub reads_back : (set : Uni) (s : State) (q : List ℕ) → IsStateOf set s → AllByRecursion (IsSpellable set) q →
    Reads (IsUnit set) s (spelled set s q) q (after set s q)
reads_back Ascii s q is all = ascii_reads s q all
reads_back Utf8 s q is all = list_reads (IsUnit Utf8) s utf8 IsPoint (λ p unit. (p, utf8_unit p unit, refl, refl)) q all
reads_back Utf16 s q is all = utf16_reads s q is all
reads_back Utf16Le s q is all = list_reads (IsUnit Utf16Le) s (utf16 little_bytes) IsPoint (λ p unit. (p, little_unit p unit, refl, refl)) q all
reads_back Utf16Be s q is all = list_reads (IsUnit Utf16Be) s (utf16 big_bytes) IsPoint (λ p unit. (p, big_unit p unit, refl, refl)) q all
reads_back Ucs4 s q is all = list_reads (IsUnit Ucs4) s ucs4 IsPoint (λ p unit. (p, ucs4_unit p unit, refl, refl)) q all
