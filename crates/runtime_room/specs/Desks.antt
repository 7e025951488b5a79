-- What the desk of a runtime stands for.
use Rattle.std.specs.Prelude.{◌≡◌, ℕ, zero, suc, ◌+◌, List, [], ◌∷◌, map, string_bytes}
use Rattle.std.specs.List.{AllByRecursion}
use Rattle.std.specs.declared.vec.Vec.{Vec}
use Rattle.std.specs.declared.alloc.Global.{Global}
use Rattle.code_table.specs.Layouts.{layout_of}
use Rattle.code_table.specs.declared.layout.Layout.{Layout}
use Rattle.history_core.specs.History.{History}
use Rattle.outside.specs.Faults.{RoseBy}
use Rattle.outside.specs.Moments.{Holdings}
use Rattle.runtime_histories.specs.declared.entries.Entry.{Entry}
use Rattle.runtime_histories.specs.declared.entries.Event.{Event}
use Rattle.runtime_histories.specs.declared.entries.Event.TheVariants.{Opening, Closing}
use Rattle.runtime_histories.specs.declared.entries.Reply.{Reply}
use Rattle.runtime_histories.specs.declared.entries.Reply.TheVariants.{Opened, Refused}
use Rattle.runtime_histories.specs.declared.refusals.Refusal.{Refusal}
use Rattle.runtime_histories.specs.declared.refusals.Refusal.TheVariants.{LibraryFault}
use Rattle.runtime_histories.specs.Fetches.{FetchesLoose}
use Rattle.runtime_histories.specs.Places.{Placed, places}
use Rattle.runtime_histories.specs.Settings.{Setting}
use Rattle.pair_openings.specs.Plans.{Asked}
use Rattle.runtime_room.specs.Grounds.{Ground}
use Rattle.runtime_room.specs.Published.{published}
use Rattle.runtime_room.specs.Rooms.{entries_of, deeds_of}
use Rattle.runtime_room.specs.declared.desk.Desk.{Desk}
use Rattle.runtime_room.specs.declared.desk.Noted.{Noted}

-- A refusal blames the library once, or not at all.
abbrev pub blames : Refusal → ℕ
blames (LibraryFault m w) = 1
blames _ = 0

abbrev pub blames_by : Reply → ℕ
blames_by (Opened chain cost loads modules) = 0
blames_by (Refused why) = blames why

abbrev pub blamed_in : Event → ℕ
blamed_in (Opening from to reply) = blames_by reply
blamed_in (Closing number) = 0

-- How often entries blame the library.
abbrev pub blame : List Entry → ℕ
blame [] = 0
blame (e ∷ es) = blamed_in e.event + blame es

-- The parts that are kept of the images of a module's tables.
abbrev pub layouts_at : List (Vec Layout Global) → ℕ → List Layout
layouts_at [] m = []
layouts_at (v ∷ vs) zero = v.items
layouts_at (v ∷ vs) (suc m) = layouts_at vs m

-- They are those of the tables of this module.
abbrev pub IsLaidOut : List (Vec Layout Global) → Placed → Type 0
IsLaidOut ls x = layouts_at ls x.«module» ≡ map layout_of x.tables

-- What the histories of a desk stand on.
abbrev pub ground_of : {L : Type 0} → (L → Holdings) → Desk L → Ground
ground_of holdings desk = record {
  setting = record {
    first = record { graph = desk.graph; aliases = desk.aliases.value };
    source = record { directory = string_bytes desk.directory; texts = (holdings desk.library).told };
    pages = desk.counts.pages;
  };
  limit = desk.counts.limit;
  handed = holdings desk.first.value;
}

-- The library was asked for what the entries ask for, and besides that for what openings asked for that
-- gave up for want of memory.
pub record HasAsked (s : Setting) (entries : List Entry) (old new : Holdings) : Type 0 where
  pub more : List (List ℕ)
  pub asked : Asked old new more
  pub fetched : FetchesLoose s entries more

-- The books are those of the entries and of the graph, the parts of the images of resident tables are
-- kept, the pairs that were opened are published, and since it was handed in the library was asked for what the
-- entries ask for, and is blamed at most as often as it failed.
pub record IsDeskOf {L : Type 0} (holdings : L → Holdings) (desk : Desk L) (log : History Noted) : Type 0 where
  pub journal : desk.counts.journal ≡ entries_of log
  pub graph : desk.counts.graph ≡ desk.graph
  pub layouts : AllByRecursion (IsLaidOut desk.layouts.items) (places desk.counts.pages (deeds_of log))
  pub cache : desk.cache ≡ published desk.graph log
  pub asked : HasAsked (ground_of holdings desk).setting (entries_of log) (holdings desk.first.value)
      (holdings desk.library)
  pub blamed : RoseBy (blame (entries_of log)) (holdings desk.first.value).faults (holdings desk.library).faults
