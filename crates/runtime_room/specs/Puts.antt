-- Tables of modules put into pages.
use Rattle.std.specs.Prelude.{◌≡◌, ℕ, ◌+◌, ◌*◌, ◌/◌, ◌<◌, false, List, [], ◌∷◌, ◌++◌, length}
use Rattle.std.specs.List.{AllByRecursion}
use Rattle.code_pairs.specs.Tables.{Tables}
use Rattle.code_table.specs.Images.{page_count}
use Rattle.history_core.specs.Rule.{last_fill}
use Rattle.history_core.specs.Tokens.{words_of, IsFree}
use Rattle.history_core.specs.declared.story.Story.{Ghosts}
use Rattle.history_core.specs.declared.tokens.Hall.{Hall}
use Rattle.history_core.specs.declared.tokens.Pass.{Pass}
use Rattle.module_counts.specs.Stocks.{Once}
use Rattle.page_store.specs.Holdings.{Holding, AreFilled, IsWithin}
use Rattle.runtime_histories.specs.Places.{among, pages_for}
use Rattle.runtime_room.specs.Rooms.{parts}

-- The page image of the table was written last in its pages.
abbrev pub IsPut : List (ℕ × ℕ) → Holding → Type 0
IsPut fills h = AreFilled h.table h.pages (page_count h.table) fills

-- The tables of several modules, each module with its pages.
abbrev pub all_parts : List Tables → List (List ℕ) → List Holding
all_parts [] ps = []
all_parts (t ∷ ts) [] = []
all_parts (t ∷ ts) (p ∷ ps) = parts t p ++ all_parts ts ps

-- Each module has as many pages as its tables need.
abbrev pub Fit : List Tables → List (List ℕ) → Type 0
Fit [] [] = Unit {0}
Fit [] (p ∷ ps) = ⊥
Fit (t ∷ ts) [] = ⊥
Fit (t ∷ ts) (p ∷ ps) = (length p ≡ pages_for t) × Fit ts ps

-- All numbers of some lists.
abbrev pub joined : List (List ℕ) → List ℕ
joined [] = []
joined (p ∷ ps) = p ++ joined ps

-- What lies in none of the pages is as it was.
abbrev pub KeepsElse : List ℕ → List (ℕ × ℕ) → List (ℕ × ℕ) → Type 0
KeepsElse pages old new = (place : ℕ) → among (place / 256) pages ≡ false → last_fill place new ≡ last_fill place old

module _ {S V E T : Type 0} {g : Ghosts S V E T} where
  -- The page lies in the hall, and nobody has any place of it pinned.
  pub record IsFreePage (hall : Hall S V E T) (pass : Pass S V E T g) (page : ℕ) : Type 0 where
    pub inside : IsWithin (words_of hall) page
    pub free : (place : ℕ) → place < 256 → IsFree hall pass (256 * page + place)

  -- So do all of these, none of which stands twice.
  pub record CanPut (hall : Hall S V E T) (pass : Pass S V E T g) (pages : List ℕ) : Type 0 where
    pub once : Once pages
    pub free : AllByRecursion (IsFreePage hall pass) pages
