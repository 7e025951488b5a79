-- The tables of modules in their pages, and the pins of these.
use Rattle.std.specs.Prelude.{◌≡◌, ℕ, List, [], ◌∷◌, ◌++◌, map, Option, Some, None, ◌==◌, if◌then◌else◌}
use Rattle.std.specs.List.{AllByRecursion}
use Rattle.code_pairs.specs.Tables.{Tables}
use Rattle.code_table.specs.Layouts.{layout_of}
use Rattle.page_store.specs.Holdings.{Holding}
use Rattle.page_store.specs.declared.pin.Pin.{Pin}
use Rattle.runtime_histories.specs.Places.{Placed}
use Rattle.runtime_room.specs.Rooms.{parts}

-- The place of a module.
abbrev pub place_of : List Placed → ℕ → Option Placed
place_of [] m = None
place_of (x ∷ xs) m = if x.«module» == m then Some x else place_of xs m

abbrev pub parts_at : Option Placed → List Holding
parts_at None = []
parts_at (Some x) = parts x.tables x.pages

-- The tables of modules, in order, each with its pages.
abbrev pub parts_for : List Placed → List ℕ → List Holding
parts_for held [] = []
parts_for held (m ∷ ms) = parts_at (place_of held m) ++ parts_for held ms

-- The tables of the modules of a chain, in order.
abbrev pub tables_for : List Placed → List ℕ → Tables
tables_for held modules = map (λ (h : Holding). h.table) (parts_for held modules)

-- Each module has a place.
abbrev pub IsThere : Option Placed → Type 0
IsThere None = ⊥
IsThere (Some x) = Unit {0}

abbrev pub AreThere : List Placed → List ℕ → Type 0
AreThere held modules = AllByRecursion (λ (m : ℕ). IsThere (place_of held m)) modules

-- The pin is that of the table in its pages.
abbrev pub IsPinOf : Holding → Pin → Type 0
IsPinOf h pin = (pin.pages.items ≡ h.pages) × (pin.layout ≡ layout_of h.table)

abbrev pub ArePinsOf : List Holding → List Pin → Type 0
ArePinsOf [] [] = Unit {0}
ArePinsOf [] (p ∷ ps) = ⊥
ArePinsOf (h ∷ hs) [] = ⊥
ArePinsOf (h ∷ hs) (p ∷ ps) = IsPinOf h p × ArePinsOf hs ps
