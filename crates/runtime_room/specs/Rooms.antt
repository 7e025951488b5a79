-- The histories of a runtime: which are legal, what numbers hold, and what they have pinned.
use Rattle.std.specs.Prelude.{◌≡◌, ℕ, List, [], ◌∷◌, ◌++◌, map, take, drop, Option}
use Rattle.std.specs.List.{AllByRecursion}
use Rattle.code_pairs.specs.Tables.{Table, HasPoints}
use Rattle.code_table.specs.Images.{page_count}
use Rattle.history_core.specs.History.{History}
use Rattle.page_store.specs.Holdings.{Holding}
use Rattle.runtime_histories.specs.declared.entries.Entry.{Entry}
use Rattle.runtime_histories.specs.Deeds.{Loaded, Deed, opens, closes, rests, Deeds, Act}
use Rattle.runtime_histories.specs.Entries as entries
use Rattle.runtime_histories.specs.Legal.{Legal}
use Rattle.runtime_histories.specs.Pins as pins
use Rattle.runtime_histories.specs.Places.{Placed}
use Rattle.runtime_room.specs.Grounds.{Ground, IsGround}
use Rattle.runtime_room.specs.declared.desk.Noted.{Noted}

-- The entries of a history.
abbrev pub entries_of : History Noted → List Entry
entries_of log = map (λ (e : ℕ × Noted). e.1.entry.value) log

-- What they do.
abbrev pub deeds_of : History Noted → Deeds
deeds_of log = entries.deeds (entries_of log)

-- The entry has the number of the pass that committed it.
abbrev pub IsOwn : ℕ × Noted → Type 0
IsOwn e = e.1.entry.value.caller ≡ e.0

-- The tables of a load are of points.
abbrev pub IsOfPoints : Loaded → Type 0
IsOfPoints l = AllByRecursion HasPoints l.tables

-- What a deed loads is.
abbrev pub LoadsPoints : Deed → Type 0
LoadsPoints (opens p ms l) = AllByRecursion IsOfPoints l
LoadsPoints (closes k) = Unit {0}
LoadsPoints rests = Unit {0}

-- The entries are legal one after another, each is that of its caller, and the tables that they load
-- are of points.
pub record IsHistory (g : Ground) (log : History Noted) : Type 0 where
  pub ground : IsGround g
  pub legal : Legal g.setting (entries_of log)
  pub own : AllByRecursion IsOwn log
  pub points : AllByRecursion (λ (e : Act). LoadsPoints e.deed) (deeds_of log)

-- Tables, each with its part of the pages, one after another.
abbrev pub parts : List Table → List ℕ → List Holding
parts [] pages = []
parts (t ∷ ts) pages =
    record { table = t; pages = take (page_count t) pages } ∷ parts ts (drop (page_count t) pages)

-- The tables of modules, each with its pages.
abbrev pub parts_of : List Placed → List Holding
parts_of [] = []
parts_of (x ∷ xs) = parts x.tables x.pages ++ parts_of xs

-- What a number holds: the tables of the modules of its live descriptors; of 0, of all resident modules.
abbrev pub holdings : Ground → History Noted → ℕ → List Holding
holdings g log n = parts_of (pins.held_by g.setting.pages n (deeds_of log))

-- The word that a number has pinned at a place.
abbrev pub pinned : Ground → History Noted → ℕ → ℕ → Option ℕ
pinned g log n place = pins.pinned g.setting.pages (deeds_of log) n place
