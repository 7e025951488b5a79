-- Which descriptors a caller owns, and what these convert by.
use Rattle.std.specs.Prelude.{◌≡◌, ℕ, List, [], Option, Some, None}
use Rattle.chain_steps.specs.Chains.{CanRun}
use Rattle.code_pairs.specs.Tables.{Tables}
use Rattle.desk_openings.specs.Parts.{parts_for, tables_for, AreThere, ArePinsOf}
use Rattle.history_core.specs.declared.story.Story.{Ghosts}
use Rattle.runtime_histories.specs.Deeds.{Desc, Deeds, IsIn, openings, desc_at}
use Rattle.runtime_histories.specs.Pins.{live_of}
use Rattle.runtime_histories.specs.Places.{Placed, places}
use Rattle.runtime_room.specs.Grounds.{Ground}
use Rattle.runtime_room.specs.Rooms.{deeds_of}
use Rattle.runtime_room.specs.declared.desk.Desk.{Desk}
use Rattle.runtime_room.specs.declared.desk.Noted.{Noted}
use Rattle.runtime_room.specs.declared.story.Room.{Room}
use Rattle.gconv_runtime.specs.Tokens.{number, front, ground}
use Rattle.gconv_runtime.specs.declared.tokens.Gconv.{Gconv}
use Rattle.gconv_runtime.specs.declared.tokens.Caller.{Caller}
use Rattle.gconv_runtime.specs.declared.tokens.Descriptor.{Descriptor}

-- The tables of the chain of a descriptor, by where modules have their places.
abbrev pub tables_by : List Placed → Option Desc → Tables
tables_by held None = []
tables_by held (Some d) = tables_for held d.modules

-- The tables of the chain of the descriptor of a number, after a history.
abbrev pub desc_tables : ℕ → Deeds → ℕ → Tables
desc_tables pages log n = tables_by (places pages log) (desc_at n (openings 0 log))

module _ {L : Type 0} {g : Ghosts (Room L) (Desk L) Noted Ground} where
  -- The tables that a descriptor converts by.
  abbrev pub tables_of : Gconv L → Caller L (Desk L) Noted Ground g → Descriptor → Tables
  tables_of gconv caller d = desc_tables (ground gconv caller).setting.pages (deeds_of (front caller)) d.number

  -- The descriptor is live and this caller's: its pins are those of the tables of its chain, and its
  -- recipe can be run over these.
  pub record Owns (gconv : Gconv L) (caller : Caller L (Desk L) Noted Ground g) (d : Descriptor) : Type 0 where
    pub desc : Desc
    pub live : IsIn desc (live_of (number caller) (deeds_of (front caller)))
    pub found : desc_at d.number (openings 0 (deeds_of (front caller))) ≡ Some desc
    pub there : AreThere (places (ground gconv caller).setting.pages (deeds_of (front caller))) desc.modules
    pub pins : ArePinsOf (parts_for (places (ground gconv caller).setting.pages (deeds_of (front caller))) desc.modules) d.pins.items
    pub range : CanRun (tables_of gconv caller d) d.runner.recipe
