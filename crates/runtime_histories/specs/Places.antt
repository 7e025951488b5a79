-- The pages of resident modules.
use Rattle.std.specs.Prelude.{ℕ, ◌+◌, ◌-◌, ◌==◌, Bool, not, if◌then◌else◌, List, [], ◌∷◌, ◌++◌, take}
use Rattle.std.specs.List.{list_any, filter, range_with_len}
use Rattle.code_pairs.specs.Tables.{Table}
use Rattle.code_table.specs.Images.{page_count}
use Rattle.runtime_histories.specs.Deeds.{Deed, opens, closes, rests, Deeds, Loaded, marks}
use Rattle.runtime_histories.specs.Residence.{resident}

-- A resident module with its tables and their pages, those of the first table first.
pub record Placed : Type 0 where
  pub «module» : ℕ
  pub tables : List Table
  pub pages : List ℕ

-- The number is one of the list.
abbrev pub among : ℕ → List ℕ → Bool
among x ys = list_any (λ y. y == x) ys

-- How many pages tables need.
abbrev pub pages_for : List Table → ℕ
pages_for [] = 0
pages_for (t ∷ ts) = page_count t + pages_for ts

-- The pages of a store that are not taken, in ascending order.
abbrev pub free_of : ℕ → List ℕ → List ℕ
free_of pages taken = filter (λ k. not (among k taken)) (range_with_len 0 pages)

-- The lowest of them, so many.
abbrev pub lowest : ℕ → List ℕ → ℕ → List ℕ
lowest pages taken need = take need (free_of pages taken)

-- The pages of all modules.
abbrev pub all_pages : List Placed → List ℕ
all_pages [] = []
all_pages (x ∷ xs) = x.pages ++ all_pages xs

-- The pages that all modules need.
abbrev pub all_needs : List Placed → ℕ
all_needs [] = 0
all_needs (x ∷ xs) = pages_for x.tables + all_needs xs

-- The pages of a module.
abbrev pub pages_of : ℕ → List Placed → List ℕ
pages_of m [] = []
pages_of m (x ∷ xs) = if x.«module» == m then x.pages else pages_of m xs

-- A module that is loaded gets the lowest free pages.
abbrev pub placed_at : ℕ → List Placed → Loaded → Placed
placed_at pages held l = record {
  «module» = l.«module»;
  tables = l.tables;
  pages = lowest pages (all_pages held) (pages_for l.tables);
}

-- The modules with those that are loaded, one after another.
abbrev pub place_loads : ℕ → List Loaded → List Placed → List Placed
place_loads pages [] held = held
place_loads pages (l ∷ ls) held = place_loads pages ls (held ++ placed_at pages held l ∷ [])

-- The modules with those that a deed loads.
abbrev pub place_deed : ℕ → Deed → List Placed → List Placed
place_deed pages (opens p ms l) held = place_loads pages l held
place_deed pages (closes k) held = held
place_deed pages rests held = held

-- The modules that are still resident after these deeds.
abbrev pub still : Deeds → List Placed → List Placed
still log held = filter (λ x. resident (marks log) x.«module») held

-- The modules with their pages after deeds that follow others.
abbrev pub places_from : ℕ → Deeds → List Placed → Deeds → List Placed
places_from pages before held [] = held
places_from pages before held (e ∷ es) =
    places_from pages (before ++ e ∷ []) (still (before ++ e ∷ []) (place_deed pages e.deed held)) es

-- The resident modules with their pages, in a store of so many pages.
abbrev pub places : ℕ → Deeds → List Placed
places pages log = places_from pages [] [] log

-- The pages of the store less those that resident modules need.
abbrev pub free : ℕ → Deeds → ℕ
free pages log = pages - all_needs (places pages log)
