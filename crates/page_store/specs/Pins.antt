-- Pins, and the tables that they stand for.
use Rattle.std.specs.Prelude.{ℕ, List, map}
use Rattle.std.specs.List.{AllByRecursion}
use Rattle.code_pairs.specs.Tables.{Tables}
use Rattle.history_core.specs.History.{History}
use Rattle.history_core.specs.Tokens.{words_of, IsPassOf}
use Rattle.history_core.specs.declared.story.Story.{Ghosts}
use Rattle.history_core.specs.declared.tokens.Hall.{Hall}
use Rattle.history_core.specs.declared.tokens.Pass.{Pass}
use Rattle.page_store.specs.Holdings.{Holding, holdings_of, table_in, IsPin}
use Rattle.page_store.specs.declared.pin.Pin.{Pin}

-- The tables that pins stand for.
abbrev pub tables_of : List Holding → List Pin → Tables
tables_of hs pins = map (λ (pin : Pin). table_in hs pin.pages.items) pins

-- Each pin is of a table that is held.
abbrev pub ArePins : List Holding → ℕ → List Pin → Type 0
ArePins hs words pins =
    AllByRecursion (λ (pin : Pin). IsPin hs words pin.pages.items pin.layout) pins

-- The pass is the hall's, and holds the tables of the pins.
pub record CanLook {S V E T : Type 0} {g : Ghosts S V E T}
    (holds : T → History E → ℕ → List Holding) (hall : Hall S V E T) (pass : Pass S V E T g)
    (pins : List Pin) : Type 0 where
  pub own : IsPassOf hall pass
  pub held : ArePins (holdings_of holds hall pass) (words_of hall) pins
