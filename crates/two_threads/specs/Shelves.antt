-- Histories in which callers take the one table.
use Rattle.std.specs.Prelude.{◌≡◌, ◌⊎◌, ℕ, ◌*◌, ◌<◌, ◌^◌, ◌==◌, ◌||◌, Bool, true, false}
use Rattle.std.specs.Prelude.{if◌then◌else◌, nat_lt, List, [], ◌∷◌, slice_index, Option, Some, None}
use Rattle.std.specs.List.{range_with_len}
use Rattle.code_pairs.specs.Tables.{Table, HasPoints, IsWellFormed}
use Rattle.code_table.specs.Images.{page_count, image}
use Rattle.code_table.specs.Layouts.{layout_of}
use Rattle.history_core.specs.History.{History}
use Rattle.history_core.specs.Tokens.{words_of}
use Rattle.history_core.specs.declared.tokens.Hall.{Hall}
use Rattle.page_store.specs.Holdings.{Holding, AreFilled, IsWithin}
use Rattle.page_store.specs.declared.pin.Pin.{Pin}
use Rattle.two_threads.specs.declared.shelf.Shelf.{Shelf}
use Rattle.two_threads.specs.declared.shelf.Taken.{Taken}

-- The table is well formed, of points, and its pages can be counted.
pub record IsGood (table : Table) : Type 0 where
  pub well_formed : IsWellFormed table
  pub numbers : HasPoints table
  pub few : (count : ℕ) → page_count table ≡ count → count < 2 ^ 32

-- The pages of the table: the first ones.
abbrev pub pages_of : Table → List ℕ
pages_of table = range_with_len 0 (page_count table)

-- Whether the number took the table; of 0, whether any number did.
abbrev pub has_taken : ℕ → History Taken → Bool
has_taken n [] = false
has_taken n (e ∷ es) = n == 0 || (e.0 == n || has_taken n es)

-- The table where it is held.
abbrev pub held_where : Bool → Table → List Holding
held_where b table = if b then record { table = table; pages = pages_of table } ∷ [] else []

-- The word of the table's page image at a place.
abbrev pub word_of : Table → ℕ → Option ℕ
word_of table place =
    if nat_lt place (256 * page_count table) then Some (slice_index (image table) place) else None

-- That word where it is pinned.
abbrev pub pinned_where : Bool → Table → ℕ → Option ℕ
pinned_where b table place = if b then word_of table place else None

-- What a number holds.
abbrev pub held : Table → History Taken → ℕ → List Holding
held table log n = held_where (has_taken n log) table

-- What a number has pinned.
abbrev pub pinned : Table → History Taken → ℕ → ℕ → Option ℕ
pinned table log n place = pinned_where (has_taken n log) table place

-- The shelf is filled where the table was ever taken.
abbrev pub IsShelfOf : Shelf → History Taken → Type 0
IsShelfOf shelf log = shelf.filled ≡ has_taken 0 log

-- The table lies in its pages: it was taken before, or was filled in now.
abbrev pub IsThere : Table → History Taken → List (ℕ × ℕ) → Type 0
IsThere table log fills =
    (has_taken 0 log ≡ true) ⊎ AreFilled table (pages_of table) (page_count table) fills

-- The pin of the table in its pages.
pub record IsPinOf (table : Table) (pin : Pin) : Type 0 where
  pub pages : pin.pages.items ≡ pages_of table
  pub parts : pin.layout ≡ layout_of table

-- One pin, of the table.
abbrev pub IsOnePin : Table → List Pin → Type 0
IsOnePin table [] = ⊥
IsOnePin table (pin ∷ []) = IsPinOf table pin
IsOnePin table (pin ∷ next ∷ rest) = ⊥

module _ {S E T : Type 0} where
  -- The table of a hall.
  abbrev pub table_of : Hall S Shelf E T → Table
  table_of hall = hall.table.shared.key.value.value.table.value

  -- The hall has this table, and room for its pages.
  pub record IsHallOf (hall : Hall S Shelf E T) (table : Table) : Type 0 where
    pub same : table_of hall ≡ table
    pub room : (page : ℕ) → page < page_count table → IsWithin (words_of hall) page
