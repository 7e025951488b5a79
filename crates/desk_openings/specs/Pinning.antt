-- The pins that the modules of a chain get.
use Rattle.std.specs.Prelude.{◌≡◌, ◌≤◌, ℕ, ◌+◌, ◌==◌, if◌then◌else◌, Bool, true, Option, Some, None}
use Rattle.std.specs.Prelude.{List, [], ◌∷◌, length, take, drop}
use Rattle.std.specs.List.{flat_map}
use Rattle.std.specs.declared.vec.Vec.{Vec}
use Rattle.std.specs.declared.alloc.Global.{Global}
use Rattle.code_table.specs.declared.layout.Layout.{Layout}
use Rattle.module_counts.specs.Counting.{Booked}
use Rattle.page_store.specs.declared.pin.Pin.{Pin}
use Rattle.runtime_histories.specs.declared.loads.Load.{Load}
use Rattle.runtime_histories.specs.Deeds.{marks}
use Rattle.runtime_histories.specs.Entries.{deeds}
use Rattle.runtime_histories.specs.Places.{places, pages_of}
use Rattle.runtime_histories.specs.Residence.{resident}
use Rattle.runtime_room.specs.Desks.{layouts_at}

-- What a pin says: the pages of an image, and its parts.
pub record Shown : Type 0 where
  pub pages : List ℕ
  pub layout : Layout

abbrev pub shown : Pin → Shown
shown pin = record { pages = pin.pages.items; layout = pin.layout }

-- How many pages images have.
abbrev pub layout_pages : List Layout → ℕ
layout_pages [] = 0
layout_pages (l ∷ ls) = l.pages + layout_pages ls

-- Pages cut by images, one after another.
abbrev pub cut_pins : List Layout → List ℕ → List Shown
cut_pins [] pages = []
cut_pins (l ∷ ls) pages = record { pages = take l.pages pages; layout = l } ∷ cut_pins ls (drop l.pages pages)

-- The pages that a module is given, if it is loaded.
abbrev pub given_to : ℕ → List Load → List (List ℕ) → Option (List ℕ)
given_to m [] ps = None
given_to m (l ∷ ls) [] = None
given_to m (l ∷ ls) (p ∷ ps) = if l.«module» == m then Some p else given_to m ls ps

abbrev pub or_pages : Option (List ℕ) → List ℕ → List ℕ
or_pages None pages = pages
or_pages (Some given) pages = given

-- The pages of a module of a chain: those that it is given, else those that it has.
abbrev pub chosen_pages : Booked → List Load → List (List ℕ) → ℕ → List ℕ
chosen_pages c loads ps m = or_pages (given_to m loads ps) (pages_of m (places c.pages (deeds c.journal)))

-- What the pins of modules say, each module's pages cut by its images.
abbrev pub pins_for : (ℕ → List Layout) → (ℕ → List ℕ) → List ℕ → List Shown
pins_for images pages modules = flat_map (λ m. cut_pins (images m) (pages m)) modules

-- A module of a chain is loaded or resident, and has as many pages as its images.
pub record CanPin (layouts : List (Vec Layout Global)) (c : Booked) (loads : List Load)
    (ps : List (List ℕ)) (m : ℕ) : Type 0 where
  pub there : given_to m loads ps ≡ None → resident (marks (deeds c.journal)) m ≡ true
  pub enough : layout_pages (layouts_at layouts m) ≤ length (chosen_pages c loads ps m)
