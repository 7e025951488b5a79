-- Small tables, by computation.
use Rattle.std.specs.Prelude.{◌≡◌, ℕ, List, [], ◌∷◌, Some, None, refl}
use Rattle.code_pairs.specs.Bytes.{big_endian, value_of}
use Rattle.code_pairs.specs.Tables.{Pair, Table, point_of, code_of, table_at}

abbrev pub a_pair : ℕ → List ℕ → Pair
a_pair point code = record { point = point; code = code }

-- One point twice, and one code twice.
abbrev pub some_table : Table
some_table =
    a_pair 0x41 (0x41 ∷ []) ∷ a_pair 0x41 (0x42 ∷ []) ∷ a_pair 0x43 (0x42 ∷ []) ∷ a_pair 0x44 (0x81 ∷ 0x40 ∷ []) ∷ []

-- The first pair of a point wins.
pub first_code : code_of some_table 0x41 ≡ Some (0x41 ∷ [])
first_code = refl

-- The first pair of a code wins.
pub first_point : point_of some_table (0x42 ∷ []) ≡ Some 0x41
first_point = refl

-- A point keeps its code where the code reads as another point.
pub one_way : code_of some_table 0x43 ≡ Some (0x42 ∷ [])
one_way = refl

pub no_point : point_of some_table (0x81 ∷ []) ≡ None
no_point = refl

pub no_table : table_at (some_table ∷ []) 1 ≡ []
no_table = refl

pub two_bytes : big_endian 2 0x81FE ≡ 0x81 ∷ 0xFE ∷ []
two_bytes = refl

pub their_value : value_of (0x81 ∷ 0xFE ∷ []) ≡ 0x81FE
their_value = refl
