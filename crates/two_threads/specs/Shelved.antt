-- Tables that have a hall of their own, and callers that take part there.
use Rattle.std.specs.Prelude.{◌≡◌, ℕ, List}
use Rattle.code_pairs.specs.Tables.{Table}
use Rattle.history_core.specs.Tokens.{next_number, IsPassOf, IsLeadOf}
use Rattle.history_core.specs.declared.story.Story.{Ghosts}
use Rattle.history_core.specs.declared.tokens.Hall.{Hall}
use Rattle.history_core.specs.declared.tokens.Pass.{Pass}
use Rattle.page_store.specs.declared.pin.Pin.{Pin}
use Rattle.two_threads.specs.Shelves.{pages_of, table_of, IsHallOf, IsOnePin}
use Rattle.two_threads.specs.declared.shelf.Shelf.{Shelf}
use Rattle.two_threads.specs.declared.shelved.Shelved.{Shelved}

-- The pages and the pins are those of the table of this hall.
pub record AreOf {S E T : Type 0} (hall : Hall S Shelf E T) (table : Table) (pages : List ℕ)
    (pins : List Pin) : Type 0 where
  pub place : IsHallOf hall table
  pub numbers : pages ≡ pages_of table
  pub pin : IsOnePin (table_of hall) pins

-- The pass is the hall's, whose table, pages and pins these are.
pub record CanTakePart {S E T : Type 0} {g : Ghosts S Shelf E T} (hall : Hall S Shelf E T)
    (pass : Pass S Shelf E T g) (table : Table) (pages : List ℕ) (pins : List Pin)
    : Type 0 where
  pub own : IsPassOf hall pass
  pub all : AreOf hall table pages pins

-- The hall is the table's, and gave out no number yet.
pub record IsShelved (table : Table) (made : Shelved) : Type 0 where
  pub all : AreOf made.hall table made.pages.items made.pins.items
  pub lead : IsLeadOf made.hall made.lead
  pub next : next_number made.lead ≡ 1
