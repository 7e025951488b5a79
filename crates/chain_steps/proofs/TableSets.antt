-- Points below 80 hex in tables whose lower half is ASCII, and in ISO-2022-JP in its initial state.
use Rattle.std.proofs.Common.{◌≡◌, ◌≢◌, ℕ, ◌<◌, ◌≤◌, true, false, List, [], ◌∷◌, ◌++◌, length, take, Option, Some, None, refl, ap, sym, ◌∙◌, subst, arith, inl, inr}
use Rattle.std.specs.Prelude.{unwrap_or, IsSome, MatchOption, nat_le, nat_eq}
use Rattle.std.specs.List.{AllByRecursion}
use Rattle.std.proofs.lemmas.Bool.Decides.{nat_tests}
use Rattle.std.proofs.lemmas.Bool.{cases_lt}
use Rattle.ascii_lanes.specs.Plain.{ArePlain}
use Rattle.code_pairs.specs.Tables.{Table, IsCode, IsWellFormed}
use Rattle.code_table.specs.Ascii.{IsAscii}
use Rattle.step_unicode.specs.declared.set.State.{State}
use Rattle.step_unicode.specs.declared.set.State.TheVariants.{Plain}
use Rattle.step_unicode.specs.Points.{IsPoint}
use Rattle.unit_relations.specs.Units.{Piece, Reads}
use Rattle.wide_lanes.specs.Wide.{AreWide}
use Rattle.step_table.specs.Many.{ArePut}
use Rattle.code_table.specs.Eights.{AreCodes, AreEight}
use Rattle.code_table.specs.declared.eights.Eight.{Eight}
use Rattle.step_table.specs.Sets.{IsTableUnit, IsInTable, spelled, table_spelling}
use Rattle.step_iso2022jp.specs.Sets.{IsJpUnit, IsPointUnit, IsInJp, Written, written_of, jp_spelling, jp_bytes, jp_after}
use Rattle.chain_steps.specs.Appended.{IsAppended}
use Rattle.chain_steps.specs.Blocks.{IsBlock, IsBlockPut}
use Rattle.chain_steps.proofs.PlainSets.{Low, block_of, spelled_same, bytes_alone, all_have}

-- sixteen bytes of such a table
pub table_block : (table : Table) → IsAscii table → (s : State) (x q : List ℕ) → 16 ≤ length x → take 16 x ≡ q → ArePlain q → IsBlock ArePlain (IsTableUnit table) s x q 16
table_block table ascii s x q within same plain =
    block_of Low (IsTableUnit table) s (λ p. p ∷ []) (λ p h. (p, (ascii p h).point, refl, refl)) x q 16 (omega arith) within (same ∙ sym (bytes_alone q)) plain

-- sixteen points in such a table
pub table_put : (table : Table) → IsAscii table → (t : State) (q : List ℕ) (at n : ℕ) (old new : List ℕ) → ArePlain q → IsAppended old new at n q → IsBlockPut (IsInTable table) (table_spelling table) t q at old new n
table_put table ascii t q at n old new plain put = record {
  has = all_have Low (IsInTable table) (λ p h. subst (λ o. IsSome o) (sym (ascii p h).code) refl) q plain;
  put = subst (λ w. IsAppended old new at n w) (sym (spelled_same Low (spelled table) (λ p. p ∷ []) (λ p h. ap (λ o. unwrap_or o []) (ascii p h).code) q plain ∙ bytes_alone q)) put;
  stays = refl;
}

-- codes one behind another are units
codes_read : (table : Table) (s : State) (q x : List ℕ) → AreCodes table q x → Reads (IsTableUnit table) s x q s
codes_read table s [] x are = record { cut = []; units = refl; bytes = are; points = refl }
codes_read table s (p ∷ q) x (code, rest, is, small, whole, are) =
    let tail : Reads (IsTableUnit table) s rest q s = codes_read table s q rest are in
    let piece : Piece State = record { bytes = code; point = Some p; state = s } in
    record {
      cut = piece ∷ tail.cut;
      units = ((p, is, refl, refl), tail.units);
      bytes = whole ∙ ap (λ z. code ++ z) tail.bytes;
      points = ap (λ z. p ∷ z) tail.points;
    }

-- their points are points below 10000 hex
codes_wide : (table : Table) → IsWellFormed table → ((t : Table) (u : List ℕ) (p : ℕ) → IsWellFormed t → IsCode t u p → IsPoint p) →
    (q x : List ℕ) → AreCodes table q x → AreWide q
codes_wide table well points [] x are = tt
codes_wide table well points (p ∷ q) x (code, rest, is, small, whole, are) =
    ((small, points table code p well is), codes_wide table well points q rest are)

-- eight codes of a table
pub eight_block : (table : Table) → IsWellFormed table → ((t : Table) (u : List ℕ) (p : ℕ) → IsWellFormed t → IsCode t u p → IsPoint p) →
    (s : State) (x : List ℕ) (r : Eight) → AreEight table x r → IsBlock AreWide (IsTableUnit table) s x r.points r.used
eight_block table well points s x r eight = record {
  some = eight.some;
  within = eight.within;
  form = codes_wide table well points r.points (take r.used x) eight.codes;
  reads = codes_read table s r.points (take r.used x) eight.codes;
}

-- points that were written in a table at once, or not
pub all_put : (table : Table) (t : State) (q : List ℕ) (at : ℕ) (old new : List ℕ) (r : Option ℕ) → MatchOption r (¬ (AllByRecursion (IsInTable table) q) × (new ≡ old)) (ArePut table q at old new) →
    MatchOption r (new ≡ old) (λ n. IsBlockPut (IsInTable table) (table_spelling table) t q at old new n)
all_put table t q at old new None lacks = lacks.1
all_put table t q at old new (Some n) put = record {
  has = put.has;
  put = record { within = put.within; front = put.front; rest = put.rest };
  stays = refl;
}

-- a point below 80 hex that is no escape
abbrev pub Clean : ℕ → Type 0
Clean p = (p < 128) × (p ≢ 27)

both : (q : List ℕ) → ArePlain q → AllByRecursion (λ p. p ≢ 27) q → AllByRecursion Clean q
both [] plain lacks = tt
both (p ∷ q) plain lacks = ((plain.0, lacks.0), both q plain.1 lacks.1)

clean_unit : (roman kanji : Table) (p : ℕ) → Clean p → IsJpUnit roman kanji Plain (p ∷ []) (Some p) Plain
clean_unit roman kanji p clean = inr (p, point, refl, refl)
  where
    low : p < 128
    low = clean.0

    point : IsPointUnit roman kanji Plain (p ∷ []) p
    point = elim (cases_lt p 0x21) [
      | inl lt ↦ inl (
        elim (cases_lt p 0x1B) [
          | inl less ↦ inl (omega (arith, less))
          | inr ge ↦ elim (cases_lt p 0x1C) [
            | inl is ↦ absurd (clean.1 (let e : p ≡ 27 = omega (arith, ge, is) in e))
            | inr more ↦ inr (inl (more, omega (arith, lt)))
          ]
        ],
        refl,
      )
      | inr ge ↦ elim (cases_lt p 0x7F) [
        | inl lt ↦ inr (grind (arith, nat_tests, ge, lt), refl)
        | inr more ↦ inl (inr (inr (omega (arith, more, low))), refl)
      ]
    ]

clean_written : (roman kanji : Table) (p : ℕ) → Clean p → written_of roman kanji p ≡ Some (record { class = Plain; code = p ∷ [] })
clean_written roman kanji p clean =
    let low : p < 128 = clean.0 in
    let yes1 : nat_le p 0x7F ≡ true = grind (arith, nat_tests, low) in
    let no2 : nat_eq p 0x1B ≡ false = grind (arith, nat_tests, clean.1) in
    rw (yes1, no2) refl

-- such points are all written as they are
record AreWritten (roman kanji : Table) (q : List ℕ) : Type 0 where
  bytes : jp_bytes roman kanji Plain q ≡ q
  after : jp_after roman kanji Plain q ≡ Plain

clean_spelled : (roman kanji : Table) (q : List ℕ) → AllByRecursion Clean q → AreWritten roman kanji q
clean_spelled roman kanji [] clean = record { bytes = refl; after = refl }
clean_spelled roman kanji (p ∷ q) clean =
    let rest = clean_spelled roman kanji q clean.1 in
    let one = clean_written roman kanji p clean.0 in
    record { bytes = rw one (ap (λ z. p ∷ z) rest.bytes); after = rw one rest.after }

pub jp_block : (roman kanji : Table) (x q : List ℕ) → 16 ≤ length x → take 16 x ≡ q → ArePlain q → AllByRecursion (λ p. p ≢ 27) q → IsBlock ArePlain (IsJpUnit roman kanji) Plain x q 16
jp_block roman kanji x q within same plain lacks =
    let block = block_of Clean (IsJpUnit roman kanji) Plain (λ p. p ∷ []) (clean_unit roman kanji) x q 16 (omega arith) within (same ∙ sym (bytes_alone q)) (both q plain lacks) in
    record { some = block.some; within = block.within; form = plain; reads = block.reads }

pub jp_put : (roman kanji : Table) (q : List ℕ) (at n : ℕ) (old new : List ℕ) → ArePlain q → AllByRecursion (λ p. p ≢ 27) q → IsAppended old new at n q →
    IsBlockPut (IsInJp roman kanji) (jp_spelling roman kanji) Plain q at old new n
jp_put roman kanji q at n old new plain lacks put =
    let clean = both q plain lacks in
    let all = clean_spelled roman kanji q clean in
    record {
      has = all_have Clean (IsInJp roman kanji) (λ p c. subst (λ (o : Option Written). IsSome o) (sym (clean_written roman kanji p c)) refl) q clean;
      put = subst (λ w. IsAppended old new at n w) (sym all.bytes) put;
      stays = all.after;
    }
