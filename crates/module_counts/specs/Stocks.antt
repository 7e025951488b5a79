-- What the bookkeeping holds. No public clause cites it.
use Rattle.std.specs.Prelude.{◌≡◌, ℕ, ◌<◌, ◌≤◌, Bool, false, not, if◌then◌else◌, List, [], ◌∷◌, ◌++◌, map, length, slice_set, vec_capacity}
use Rattle.std.specs.List.{AllByRecursion, filter, range_with_len}
use Rattle.std.specs.declared.vec.Vec.{Vec}
use Rattle.std.specs.declared.alloc.Global.{Global}
use Rattle.std.proofs.Common.{get_or}
use Rattle.module_counts.specs.declared.ages.Ages.{Ages}
use Rattle.module_counts.specs.declared.homes.Homes.{Homes}
use Rattle.module_counts.specs.Tracking.{is_kept}
use Rattle.runtime_histories.specs.Deeds.{Loaded}
use Rattle.runtime_histories.specs.Places.{Placed, among, pages_for, all_pages, all_needs, lowest, placed_at}

-- A module with its pages.
pub record Seat : Type 0 where
  pub «module» : ℕ
  pub pages : List ℕ

-- A module with the pages that stand in its row.
abbrev pub seat_in : List (List ℕ) → ℕ → Seat
seat_in rows m = record { «module» = m; pages = get_or rows m [] }

abbrev pub seat_of : Placed → Seat
seat_of x = record { «module» = x.«module»; pages = x.pages }

-- The pages of all modules.
abbrev pub seat_pages : List Seat → List ℕ
seat_pages [] = []
seat_pages (x ∷ xs) = x.pages ++ seat_pages xs

-- The bits say which pages are in the list.
abbrev pub IsMap : List Bool → List ℕ → Type 0
IsMap bits all = (k : ℕ) → k < length bits → get_or bits k false ≡ among k all

-- The seats of those modules that are kept.
abbrev pub kept_among : Ages → List (List ℕ) → List ℕ → List Seat
kept_among a rows ms = map (seat_in rows) (filter (is_kept a) ms)

-- The pages, up to one, whose bits are not set.
abbrev pub unset : List Bool → ℕ → List ℕ
unset bits end = filter (λ k. not (get_or bits k false)) (range_with_len 0 end)

-- The lists of several vectors.
abbrev pub lists : List (Vec ℕ Global) → List (List ℕ)
lists vs = map (λ v. v.items) vs

-- The seats of the modules that are kept, in the order in which they were placed.
abbrev pub kept_seats : Ages → Homes → List Seat
kept_seats a h = kept_among a (lists h.rows.items) h.order.items

-- Rows with those of modules that fail a test emptied.
abbrev pub cleared : (ℕ → Bool) → List (List ℕ) → List ℕ → List (List ℕ)
cleared p rows [] = rows
cleared p rows (m ∷ ms) = cleared p (if p m then rows else slice_set rows m []) ms

-- Rows with those of some modules, each of which gets the list at its place.
abbrev pub laid : List (List ℕ) → List ℕ → List (List ℕ) → List (List ℕ)
laid rows [] ps = rows
laid rows (m ∷ ms) [] = rows
laid rows (m ∷ ms) (p ∷ ps) = laid (slice_set rows m p) ms ps

-- Those that aren't kept are gone, and modules with their pages stand behind the others.
pub record IsSettled (a : Ages) (old new : Homes) (ms : List ℕ) (ps : List (List ℕ)) : Type 0 where
  pub rows_are : lists new.rows.items ≡ laid (cleared (is_kept a) (lists old.rows.items) old.order.items) ms ps
  pub order_is : new.order.items ≡ filter (is_kept a) old.order.items ++ ms
  pub room : vec_capacity old.order ≤ vec_capacity new.order

-- Where no module is loaded, nothing changes.
abbrev pub Settles : Ages → Homes → Homes → List ℕ → List (List ℕ) → Type 0
Settles a old new [] ps = new ≡ old
Settles a old new (m ∷ ms) ps = IsSettled a old new (m ∷ ms) ps

-- There is a row for each module, and one that doesn't stand in the order has an empty one.
pub record IsHomes (modules : ℕ) (h : Homes) : Type 0 where
  pub count : length h.rows.items ≡ modules
  pub empty : (m : ℕ) → among m h.order.items ≡ false → get_or (lists h.rows.items) m [] ≡ []

-- The pages that loads get, one after another.
abbrev pub places_for : ℕ → List Loaded → List Placed → List (List ℕ)
places_for pages [] held = []
places_for pages (l ∷ ls) held =
    lowest pages (all_pages held) (pages_for l.tables) ∷ places_for pages ls (held ++ placed_at pages held l ∷ [])

-- Modules, each with the list of pages at its place.
abbrev pub seated : List ℕ → List (List ℕ) → List Seat
seated [] ps = []
seated (m ∷ ms) [] = []
seated (m ∷ ms) (p ∷ ps) = record { «module» = m; pages = p } ∷ seated ms ps

-- No number stands twice.
abbrev pub Once : List ℕ → Type 0
Once [] = Unit {0}
Once (x ∷ xs) = (among x xs ≡ false) × Once xs

-- The numbers of placed modules.
abbrev pub placed_modules : List Placed → List ℕ
placed_modules xs = map (λ x. x.«module») xs

-- The modules are known and stand once, each has as many pages as its tables need, and the store has
-- so many.
pub record IsTidy (modules pages : ℕ) (held : List Placed) : Type 0 where
  pub known : AllByRecursion (λ m. m < modules) (placed_modules held)
  pub once : Once (placed_modules held)
  pub fits : AllByRecursion (λ (x : Placed). length x.pages ≡ pages_for x.tables) held
  pub within : all_needs held ≤ pages
