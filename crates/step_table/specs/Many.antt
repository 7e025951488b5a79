-- The codes of several points.
use Rattle.std.specs.Prelude.{◌≡◌, ℕ, ◌+◌, ◌≤◌, List, ◌++◌, length, take, drop}
use Rattle.std.specs.List.{AllByRecursion, flat_map}
use Rattle.code_pairs.specs.Tables.{Table}
use Rattle.step_table.specs.Sets.{IsInTable, spelled}

-- the table has these points, and n bytes, which spell them, were put behind the first `at` bytes of old, which
-- gives new
pub record ArePut (table : Table) (points : List ℕ) (at : ℕ) (old new : List ℕ) (n : ℕ) : Type 0 where
  pub has : AllByRecursion (IsInTable table) points
  pub within : at + n ≤ length new
  pub front : take (at + n) new ≡ take at old ++ flat_map (spelled table) points
  pub rest : drop (at + n) new ≡ drop (at + n) old
