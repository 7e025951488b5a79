-- Codes that follow codes.
use Rattle.std.proofs.Common.{◌≡◌, ◌+◌, ◌<◌, ◌≤◌, ℕ, List, [], ◌∷◌, ◌++◌, length, take, drop, refl, sym, ap, ◌∙◌, subst, arith, append_assoc, append-nil}
use Rattle.std.specs.Prelude.{slice_set}
use Rattle.std.proofs.Math.Seq.{take-add}
use Rattle.std.proofs.lemmas.List.{take_more_set, length-take-le, take-take}
use Rattle.code_pairs.specs.Tables.{Table, IsCode, IsWellFormed}
use Rattle.code_table.specs.Looks.{look_of, IsLook}
use Rattle.code_table.specs.declared.lookup.Look.TheVariants.{Point}
use Rattle.code_table.specs.Eights.{IsOneAt, AreCodes}

-- what a look-up in four bytes tells of the code there
pub one_is : (table : Table) → IsWellFormed table → (bytes four : List ℕ) (at point used : ℕ) → four ≡ take 4 (drop at bytes) →
    IsLook table four (look_of table four) → Point point used ≡ look_of table four → point < 0x10000 →
    IsOneAt table bytes at (record { point = point; used = used })
one_is table well bytes four at point used is tells e small =
    let look : (used ≤ length four) × IsCode table (take used four) point = subst (IsLook table four) (sym e) tells in
    let form = well.forms (take used four) point look.1 in
    let long : length (take used four) ≡ used = length-take-le used four look.0 in
    let few : used ≤ 4 = omega (arith, form.few, long) in
    record {
      some = omega (arith, form.some, long);
      few = few;
      code = subst (λ b. IsCode table b point) (ap (take used) is ∙ take-take used 4 (drop at bytes) few) look.1;
      small = small;
    }

-- one code more.
pub codes_more : (table : Table) (ps : List ℕ) (bytes code : List ℕ) (p : ℕ) → AreCodes table ps bytes → IsCode table code p →
    p < 0x10000 → AreCodes table (ps ++ p ∷ []) (bytes ++ code)
codes_more table [] bytes code p are is small = (code, [], is, small, ap (λ z. z ++ code) are ∙ sym (append-nil code), refl)
codes_more table (q ∷ ps) bytes code p (c, rest, that, low, whole, are) is small =
    (c, rest ++ code, that, low, ap (λ z. z ++ code) whole ∙ append_assoc c rest code, codes_more table ps rest code p are is small)

-- the same in a loop that puts each point behind the last.
pub codes_next : (table : Table) (points bytes : List ℕ) (i used more p : ℕ) → i < length points → AreCodes table (take i points) (take used bytes) →
    IsCode table (take more (drop used bytes)) p → p < 0x10000 → AreCodes table (take (i + 1) (slice_set points i p)) (take (used + more) bytes)
codes_next table points bytes i used more p lt are is small =
    subst (λ ps. AreCodes table ps (take (used + more) bytes)) (sym (take_more_set points i p lt))
    (subst (λ b. AreCodes table (take i points ++ p ∷ []) b) (sym (take-add used more bytes))
    (codes_more table (take i points) (take used bytes) (take more (drop used bytes)) p are is small))
