-- Points below 10000 hex, none a surrogate, in the sets that read and write eight at once.
use Rattle.std.proofs.Common.{◌≡◌, ℕ, ◌+◌, ◌<◌, ◌≤◌, ◌/◌, ◌%◌, true, false, inl, inr, List, [], ◌∷◌, length, take, refl, sym, subst, arith}
use Rattle.std.specs.Prelude.{nat_lt}
use Rattle.std.proofs.lemmas.Bool.Decides.{nat_tests}
use Rattle.std.proofs.lemmas.Bool.{cases_lt}
use Rattle.std.specs.List.{AllByRecursion, flat_map}
use Rattle.step_unicode.specs.declared.set.State.{State}
use Rattle.step_unicode.specs.declared.set.State.TheVariants.{Little, Big}
use Rattle.step_unicode.specs.declared.set.Uni.TheVariants.{Utf8, Utf16, Utf16Le, Utf16Be, Ucs4}
use Rattle.step_unicode.specs.Points.{IsPoint}
use Rattle.step_unicode.specs.Utf8.{IsUtf8Unit, utf8}
use Rattle.step_unicode.specs.Utf16.{little, big, utf16, little_bytes, big_bytes, IsUtf16Unit}
use Rattle.step_unicode.specs.Ucs4.{ucs4}
use Rattle.step_unicode.specs.Sets.{IsUnit, IsSpellable, spelling}
use Rattle.wide_lanes.specs.Wide.{IsWide, AreWide, low_first, high_first, in_fours}
use Rattle.chain_steps.specs.Appended.{IsAppended}
use Rattle.chain_steps.specs.Blocks.{IsBlock, IsBlockPut}
use Rattle.chain_steps.proofs.PlainSets.{block_of, spelled_same, all_have}

-- two bytes are the unit of such a point
low_unit : (p : ℕ) → IsWide p → IsUtf16Unit little (little_bytes p) p
low_unit p wide = let small : p < 65536 = wide.0 in (omega arith, omega (arith, small), wide.1, omega arith)

high_unit : (p : ℕ) → IsWide p → IsUtf16Unit big (big_bytes p) p
high_unit p wide = let small : p < 65536 = wide.0 in (omega (arith, small), omega arith, wide.1, omega arith)

one_number : (bytes : ℕ → List ℕ) (p : ℕ) → IsWide p → utf16 bytes p ≡ bytes p
one_number bytes p wide = let yes1 : nat_lt p 65536 ≡ true = grind (arith, nat_tests, wide.0) in rw yes1 refl

points_have : (q : List ℕ) → AreWide q → AllByRecursion IsPoint q
points_have = all_have IsWide IsPoint (λ p wide. wide.1)

-- the UTF-8 of such a point is its unit
utf8_unit : (p : ℕ) → IsWide p → IsUtf8Unit (utf8 p) p
utf8_unit p wide = elim (cases_lt p 128) [
  | inl lt ↦ one lt
  | inr ge ↦ elim (cases_lt p 2048) [
    | inl lt ↦ two ge lt
    | inr more ↦ three ge more
  ]
]
  where
    one : p < 128 → IsUtf8Unit (utf8 p) p
    one lt =
        let yes1 : nat_lt p 128 ≡ true = grind (arith, nat_tests, lt) in
        rw yes1 (omega (arith, lt), refl)

    two : 128 ≤ p → p < 2048 → IsUtf8Unit (utf8 p) p
    two ge lt =
        let no1 : nat_lt p 128 ≡ false = grind (arith, nat_tests, ge) in
        let yes2 : nat_lt p 2048 ≡ true = grind (arith, nat_tests, lt) in
        rw (no1, yes2) (
          (omega (arith, ge), omega (arith, lt)),
          ((omega arith, omega arith), (λ h. omega (arith, lt, h)), (λ h. omega (arith, lt, h)), (λ h. omega (arith, lt, h)), (λ h. omega (arith, lt, h))),
          omega arith,
        )

    three : 128 ≤ p → 2048 ≤ p → IsUtf8Unit (utf8 p) p
    three ge more =
        let no1 : nat_lt p 128 ≡ false = grind (arith, nat_tests, ge) in
        let no2 : nat_lt p 2048 ≡ false = grind (arith, nat_tests, more) in
        let yes3 : nat_lt p 65536 ≡ true = grind (arith, nat_tests, wide.0) in
        let small : p < 65536 = wide.0 in
        let second : 0xE0 + p / 4096 ≡ 0xED → 0x80 + p / 64 % 64 ≤ 0x9F = λ h. elim (cases_lt p 55296) [
          | inl lt ↦ omega (arith, lt, h)
          | inr far ↦ let above : 57343 < p = wide.1.1 far in omega (arith, above, h)
        ] in
        rw (no1, no2, yes3) (
          (omega arith, omega (arith, small)),
          ((omega arith, omega arith), (λ h. omega (arith, more, h)), second, (λ h. omega (arith, small, h)), (λ h. omega (arith, small, h))),
          (omega arith, omega arith),
          omega arith,
        )

-- eight units of UTF-8
pub utf8_wide_block : (s : State) (x q : List ℕ) (n : ℕ) → 0 < n → n ≤ length x → take n x ≡ flat_map utf8 q → AreWide q → IsBlock AreWide (IsUnit Utf8) s x q n
utf8_wide_block s x q n some within same wide = block_of IsWide (IsUnit Utf8) s utf8 (λ p h. (p, utf8_unit p h, refl, refl)) x q n some within same wide

-- eight units of UTF-16, in each order, without a mark and behind one
pub low_block : (s : State) (x q : List ℕ) → 16 ≤ length x → take 16 x ≡ low_first q → AreWide q → IsBlock AreWide (IsUnit Utf16Le) s x q 16
low_block s x q within same wide = block_of IsWide (IsUnit Utf16Le) s little_bytes (λ p h. (p, low_unit p h, refl, refl)) x q 16 (omega arith) within same wide

pub high_block : (s : State) (x q : List ℕ) → 16 ≤ length x → take 16 x ≡ high_first q → AreWide q → IsBlock AreWide (IsUnit Utf16Be) s x q 16
high_block s x q within same wide = block_of IsWide (IsUnit Utf16Be) s big_bytes (λ p h. (p, high_unit p h, refl, refl)) x q 16 (omega arith) within same wide

pub marked_low_block : (x q : List ℕ) → 16 ≤ length x → take 16 x ≡ low_first q → AreWide q → IsBlock AreWide (IsUnit Utf16) Little x q 16
marked_low_block x q within same wide = block_of IsWide (IsUnit Utf16) Little little_bytes (λ p h. (p, low_unit p h, refl, refl)) x q 16 (omega arith) within same wide

pub marked_high_block : (x q : List ℕ) → 16 ≤ length x → take 16 x ≡ high_first q → AreWide q → IsBlock AreWide (IsUnit Utf16) Big x q 16
marked_high_block x q within same wide = block_of IsWide (IsUnit Utf16) Big big_bytes (λ p h. (p, high_unit p h, refl, refl)) x q 16 (omega arith) within same wide

-- eight units of UCS-4
pub fours_block : (s : State) (x q : List ℕ) → 32 ≤ length x → take 32 x ≡ in_fours q → AreWide q → IsBlock AreWide (IsUnit Ucs4) s x q 32
fours_block s x q within same wide = block_of IsWide (IsUnit Ucs4) s (λ p. 0 ∷ 0 ∷ (p / 256) ∷ (p % 256) ∷ [])
    (λ p h. let small : p < 65536 = h.0 in (p, (omega arith, omega arith, omega (arith, small), omega arith, h.1, omega arith), refl, refl)) x q 32 (omega arith) within same wide

-- eight points written in each of these sets
pub utf8_wide : (t : State) (q : List ℕ) (at n : ℕ) (old new : List ℕ) → AreWide q → IsAppended old new at n (flat_map utf8 q) → IsBlockPut (IsSpellable Utf8) (spelling Utf8) t q at old new n
utf8_wide t q at n old new wide put = record { has = points_have q wide; put = put; stays = refl }

pub low_wide : (t : State) (q : List ℕ) (at n : ℕ) (old new : List ℕ) → AreWide q → IsAppended old new at n (low_first q) → IsBlockPut (IsSpellable Utf16Le) (spelling Utf16Le) t q at old new n
low_wide t q at n old new wide put = record {
  has = points_have q wide;
  put = subst (λ w. IsAppended old new at n w) (sym (spelled_same IsWide (utf16 little_bytes) little_bytes (one_number little_bytes) q wide)) put;
  stays = refl;
}

pub high_wide : (t : State) (q : List ℕ) (at n : ℕ) (old new : List ℕ) → AreWide q → IsAppended old new at n (high_first q) → IsBlockPut (IsSpellable Utf16Be) (spelling Utf16Be) t q at old new n
high_wide t q at n old new wide put = record {
  has = points_have q wide;
  put = subst (λ w. IsAppended old new at n w) (sym (spelled_same IsWide (utf16 big_bytes) big_bytes (one_number big_bytes) q wide)) put;
  stays = refl;
}

pub marked_low_wide : (q : List ℕ) (at n : ℕ) (old new : List ℕ) → AreWide q → IsAppended old new at n (low_first q) → IsBlockPut (IsSpellable Utf16) (spelling Utf16) Little q at old new n
marked_low_wide q at n old new wide put = record {
  has = points_have q wide;
  put = subst (λ w. IsAppended old new at n w) (sym (spelled_same IsWide (utf16 little_bytes) little_bytes (one_number little_bytes) q wide)) put;
  stays = refl;
}

pub marked_high_wide : (q : List ℕ) (at n : ℕ) (old new : List ℕ) → AreWide q → IsAppended old new at n (high_first q) → IsBlockPut (IsSpellable Utf16) (spelling Utf16) Big q at old new n
marked_high_wide q at n old new wide put = record {
  has = points_have q wide;
  put = subst (λ w. IsAppended old new at n w) (sym (spelled_same IsWide (utf16 big_bytes) big_bytes (one_number big_bytes) q wide)) put;
  stays = refl;
}

four_wide : (p : ℕ) → IsWide p → ucs4 p ≡ 0 ∷ 0 ∷ (p / 256) ∷ (p % 256) ∷ []
four_wide p wide =
    let small : p < 65536 = wide.0 in
    let a : p / 16777216 ≡ 0 = omega (arith, small) in
    let b : p / 65536 % 256 ≡ 0 = omega (arith, small) in
    let d : p / 256 % 256 ≡ p / 256 = omega (arith, small) in
    λ i. a i ∷ b i ∷ d i ∷ (p % 256) ∷ []

pub fours_wide : (t : State) (q : List ℕ) (at n : ℕ) (old new : List ℕ) → AreWide q → IsAppended old new at n (in_fours q) → IsBlockPut (IsSpellable Ucs4) (spelling Ucs4) t q at old new n
fours_wide t q at n old new wide put = record {
  has = points_have q wide;
  put = subst (λ w. IsAppended old new at n w) (sym (spelled_same IsWide ucs4 (λ p. 0 ∷ 0 ∷ (p / 256) ∷ (p % 256) ∷ []) four_wide q wide)) put;
  stays = refl;
}
