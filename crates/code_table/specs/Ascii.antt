-- Tables whose lower half is ASCII.
use Rattle.std.specs.Prelude.{◌≡◌, ◌<◌, ℕ, zero, suc, ◌==◌, Bool, true, false, ◌&&◌, List, [], ◌∷◌, Option, Some, None}
use Rattle.code_pairs.specs.Tables.{Table, point_of, code_of}

-- What was found is the byte's own number.
abbrev pub is_found : Option ℕ → ℕ → Bool
is_found None b = false
is_found (Some point) b = point == b

-- The code is the byte alone.
abbrev pub is_single : Option (List ℕ) → ℕ → Bool
is_single (Some (c ∷ [])) b = c == b
is_single _ b = false

-- A byte stands for its own number, and is the code of that point.
abbrev pub is_own : Table → ℕ → Bool
is_own table b = is_found (point_of table (b ∷ [])) b && is_single (code_of table b) b

-- Each byte below a bound does and is.
abbrev pub are_own : Table → ℕ → Bool
are_own table zero = true
are_own table (suc b) = is_own table b && are_own table b

-- Each byte below 80 hex does and is.
unfoldable pub is_ascii : Table → Bool
is_ascii table = are_own table 0x80

-- The same, as what a reader and a writer of such a byte need.
pub record IsOwn (table : Table) (b : ℕ) : Type 0 where
  pub point : point_of table (b ∷ []) ≡ Some b
  pub code : code_of table b ≡ Some (b ∷ [])

abbrev pub IsAscii : Table → Type 0
IsAscii table = (b : ℕ) → b < 0x80 → IsOwn table b
