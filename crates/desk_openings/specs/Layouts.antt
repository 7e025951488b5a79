-- The parts of the page images of modules that are loaded.
use Rattle.std.specs.Prelude.{◌≡◌, ℕ, false, List, map}
use Rattle.std.specs.List.{AllByRecursion}
use Rattle.std.specs.declared.vec.Vec.{Vec}
use Rattle.std.specs.declared.alloc.Global.{Global}
use Rattle.code_table.specs.declared.layout.Layout.{Layout}
use Rattle.runtime_histories.specs.Deeds.{Loaded}
use Rattle.runtime_histories.specs.Places.{among}
use Rattle.code_table.specs.Layouts.{layout_of}
use Rattle.runtime_room.specs.Desks.{layouts_at}

-- The parts of the images of all other modules are as they were.
abbrev pub KeepsLayouts : List (Vec Layout Global) → List (Vec Layout Global) → List ℕ → Type 0
KeepsLayouts old new modules = (m : ℕ) → among m modules ≡ false → layouts_at new m ≡ layouts_at old m

-- They are kept of the tables of each load.
abbrev pub AreKept : List (Vec Layout Global) → List Loaded → Type 0
AreKept layouts loads = AllByRecursion (λ (l : Loaded). layouts_at layouts l.«module» ≡ map layout_of l.tables) loads
