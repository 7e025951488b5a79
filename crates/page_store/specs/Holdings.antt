-- Tables in pages of side words. Page k is the side words 256 k to 256 k + 255.
use Rattle.std.specs.Prelude.{◌≡◌, ◌⊎◌, ℕ, ◌+◌, ◌*◌, ◌<◌, ◌≤◌, ◌^◌, Bool, true, if◌then◌else◌}
use Rattle.std.specs.Prelude.{List, [], ◌∷◌, length, slice_index, Option, Some}
use Rattle.std.specs.List.{AllByRecursion, list_any}
use Rattle.std.specs.Str.{bytes_eq}
use Rattle.code_pairs.specs.Tables.{Table, HasPoints, IsWellFormed}
use Rattle.code_table.specs.Images.{page_count, image_word}
use Rattle.code_table.specs.Layouts.{layout_of}
use Rattle.code_table.specs.declared.layout.Layout.{Layout}
use Rattle.history_core.specs.History.{History}
use Rattle.history_core.specs.Rule.{last_fill}
use Rattle.history_core.specs.Tokens.{setting_of, words_of, front, number, IsPassOf}
use Rattle.history_core.specs.declared.story.Story.{Ghosts}
use Rattle.history_core.specs.declared.tokens.Hall.{Hall}
use Rattle.history_core.specs.declared.tokens.Pass.{Pass}

-- A table, and the pages that it lies in.
pub record Holding : Type 0 where
  pub table : Table
  pub pages : List ℕ

-- The holding is one of the list.
abbrev pub Among : List Holding → Holding → Type 0
Among [] h = ⊥
Among (x ∷ xs) h = (x ≡ h) ⊎ Among xs h

-- The table is a well-formed one of points, with as many pages as its page image has.
pub record IsHolding (h : Holding) : Type 0 where
  pub count : length h.pages ≡ page_count h.table
  pub well_formed : IsWellFormed h.table
  pub numbers : HasPoints h.table
  pub few : page_count h.table < 2 ^ 32

-- The side word at a place of a page of a list.
abbrev pub side : List ℕ → ℕ → ℕ → ℕ
side pages page place = 256 * slice_index pages page + place

-- The page image of the table is pinned in its pages.
abbrev pub IsPinnedIn : (ℕ → Option ℕ) → Holding → Type 0
IsPinnedIn pinned h = (page place : ℕ) → page < page_count h.table → place < 256
    → pinned (side h.pages page place) ≡ Some (image_word h.table page place)

-- A table lies in these pages.
abbrev pub is_held : List Holding → List ℕ → Bool
is_held hs pages = list_any (λ (h : Holding). bytes_eq h.pages pages) hs

-- The table that lies in these pages; the empty one where there is none.
abbrev pub table_in : List Holding → List ℕ → Table
table_in [] pages = []
table_in (h ∷ hs) pages = if bytes_eq h.pages pages then h.table else table_in hs pages

-- The page lies within so many side words.
abbrev pub IsWithin : ℕ → ℕ → Type 0
IsWithin words page = 256 * page + 256 ≤ words

-- A table lies in these pages, which lie within so many side words, and has this layout.
pub record IsPin (hs : List Holding) (words : ℕ) (pages : List ℕ) (layout : Layout) : Type 0 where
  pub held : is_held hs pages ≡ true
  pub inside : AllByRecursion (IsWithin words) pages
  pub parts : layout ≡ layout_of (table_in hs pages)

-- No page stands twice.
abbrev pub AreApart : List ℕ → Type 0
AreApart pages = (i j : ℕ) → i < length pages → j < length pages
    → slice_index pages i ≡ slice_index pages j → i ≡ j

-- The first so many pages of the table's page image were written last in these pages.
abbrev pub AreFilled : Table → List ℕ → ℕ → List (ℕ × ℕ) → Type 0
AreFilled table pages count fills = (page place : ℕ) → page < count → place < 256
    → last_fill (side pages page place) fills ≡ Some (image_word table page place)

module _ {S V E T : Type 0} {g : Ghosts S V E T} (holds : T → History E → ℕ → List Holding) where
  -- The tables that a pass holds after its front.
  abbrev pub holdings_of : Hall S V E T → Pass S V E T g → List Holding
  holdings_of hall pass = holds (setting_of g.setting hall) (front pass) (number pass)

  -- The pass is the hall's, and holds a table in these pages, which the hall has.
  pub record CanRead (hall : Hall S V E T) (pass : Pass S V E T g) (pages : List ℕ) : Type 0 where
    pub own : IsPassOf hall pass
    pub held : is_held (holdings_of hall pass) pages ≡ true
    pub inside : AllByRecursion (IsWithin (words_of hall)) pages
