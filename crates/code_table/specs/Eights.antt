-- Eight codes read or looked up at once.
use Rattle.std.specs.Prelude.{◌≡◌, ℕ, ◌<◌, ◌≤◌, List, [], ◌∷◌, ◌++◌, length, take, drop, Option, Some, MatchOption, IsSome}
use Rattle.std.specs.List.{AllByRecursion}
use Rattle.code_pairs.specs.Tables.{Table, IsCode, code_of}
use Rattle.code_table.specs.declared.eights.One.{One}
use Rattle.code_table.specs.declared.eights.Eight.{Eight}
use Rattle.code_table.specs.declared.eights.Codes.{Codes}

-- At a place of the bytes stands the code of a point below 10000 hex.
pub record IsOneAt (table : Table) (bytes : List ℕ) (at : ℕ) (r : One) : Type 0 where
  pub some : 0 < r.used
  pub few : r.used ≤ 4
  pub code : IsCode table (take r.used (drop at bytes)) r.point
  pub small : r.point < 0x10000

-- The bytes are codes of these points, one behind another, and each point is below 10000 hex.
abbrev pub AreCodes : Table → List ℕ → List ℕ → Type 0
AreCodes table [] bytes = bytes ≡ []
AreCodes table (p ∷ ps) bytes =
    (code : List ℕ) × (rest : List ℕ) × IsCode table code p × (p < 0x10000) × (bytes ≡ code ++ rest)
    × AreCodes table ps rest

-- The bytes begin with codes of these points, and so many bytes are theirs.
pub record AreEight (table : Table) (bytes : List ℕ) (r : Eight) : Type 0 where
  pub some : 0 < r.used
  pub within : r.used ≤ length bytes
  pub codes : AreCodes table r.points (take r.used bytes)

-- The table has a code for the point.
abbrev pub HasCode : Table → ℕ → Type 0
HasCode table point = IsSome (code_of table point)

-- Each of the codes is that of the point at its place.
abbrev pub AreCodesOf : Table → List ℕ → List (List ℕ) → Type 0
AreCodesOf table [] [] = Unit {0}
AreCodesOf table (p ∷ ps) (c ∷ cs) = (code_of table p ≡ Some c) × AreCodesOf table ps cs
AreCodesOf table _ _ = ⊥

-- The codes of the points; none exactly where the table lacks one of them.
abbrev pub GivesCodes : Table → List ℕ → Option Codes → Type 0
GivesCodes table points r =
    MatchOption r (¬ (AllByRecursion (HasCode table) points)) (λ (c : Codes). AreCodesOf table points c.list)
