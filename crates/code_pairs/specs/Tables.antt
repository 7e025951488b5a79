-- What a table means: a table is the list of its pairs of a point and a code.
use Rattle.std.specs.Prelude.{◌≡◌, ℕ, Bool, ◌&&◌, ◌||◌, ◌==◌, if◌then◌else◌, nat_le, nat_lt, IsTrue, List, [], ◌∷◌, ◌++◌, Option, Some, None, slice_index_or}
use Rattle.std.specs.List.{AllByRecursion}
use Rattle.std.specs.Str.{bytes_eq}
use Rattle.code_pairs.specs.Bytes.{IsCodeForm}
pub use Rattle.code_pairs.specs.declared.pair.Pair.{Pair}

abbrev pub Table : Type 0
Table = List Pair

abbrev pub Tables : Type 0
Tables = List Table

-- The table of that number, and an empty one past the last.
abbrev pub table_at : Tables → ℕ → Table
table_at ts k = slice_index_or ts k []

-- The point of the first pair with these bytes.
abbrev pub point_of : Table → List ℕ → Option ℕ
point_of [] bytes = None
point_of (p ∷ ps) bytes = if bytes_eq p.code bytes then Some p.point else point_of ps bytes

-- The code of the first pair with this point.
abbrev pub code_of : Table → ℕ → Option (List ℕ)
code_of [] point = None
code_of (p ∷ ps) point = if p.point == point then Some p.code else code_of ps point

-- A point of Unicode that is no half of a surrogate pair.
abbrev pub is_point : ℕ → Bool
is_point n = nat_lt n 0xD800 || (nat_le 0xE000 n && nat_le n 0x10FFFF)

abbrev pub IsPoint : ℕ → Type 0
IsPoint n = IsTrue (is_point n)

-- The number of each pair is a point.
abbrev pub HasPoints : Table → Type 0
HasPoints table = AllByRecursion (λ (p : Pair). IsPoint p.point) table

-- In the table the bytes are a code of the point.
abbrev pub IsCode : Table → List ℕ → ℕ → Type 0
IsCode table bytes point = point_of table bytes ≡ Some point

-- Each code has 1 to 4 bytes, each stands for a point, and no code is a proper prefix of another.
pub record IsWellFormed (table : Table) : Type 0 where
  pub forms : (u : List ℕ) (n : ℕ) → IsCode table u n → IsCodeForm u
  pub points : (u : List ℕ) (n : ℕ) → IsCode table u n → IsPoint n
  pub apart : (u more : List ℕ) (n m : ℕ) → IsCode table u n → IsCode table (u ++ more) m → more ≡ []
