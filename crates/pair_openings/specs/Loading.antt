-- What comes of loading modules: their tables, and pages for these.
use Rattle.std.specs.Prelude.{◌≡◌, ℕ, ◌<◌, ◌≤◌, ◌^◌, List, [], ◌∷◌, length}
use Rattle.code_pairs.specs.Tables.{Tables}
use Rattle.module_graph.specs.Graph.{Shape}
use Rattle.outside.specs.Moments.{Holdings}
use Rattle.runtime_histories.specs.declared.refusals.Refusal.{Refusal}
use Rattle.runtime_histories.specs.declared.refusals.Refusal.TheVariants as refusals
use Rattle.runtime_histories.specs.Charmaps.{wanted}
use Rattle.runtime_histories.specs.Deeds.{Deeds, Loaded}
use Rattle.runtime_histories.specs.Places.{free, lowest, all_pages, places}
use Rattle.charmap_library.specs.Fetching.{FetchesModules, Stops}
use Rattle.pair_openings.specs.Cuts.{needs, total}

-- Modules, each with its tables.
abbrev pub loaded_all : List ℕ → List Tables → List Loaded
loaded_all [] all = []
loaded_all (m ∷ ms) [] = []
loaded_all (m ∷ ms) (t ∷ ts) = record { «module» = m; tables = t } ∷ loaded_all ms ts

-- What loading is done with: the directory of charmaps, the graph, the pages of the store, and what was done before.
pub record Ground : Type 0 where
  pub directory : List ℕ
  pub graph : Shape
  pub pages : ℕ
  pub log : Deeds

-- The tables of modules were fetched, and need more pages than are free.
pub record IsOver (g : Ground) (old new : Holdings) (modules : List ℕ) (need left : ℕ) : Type 0 where
  pub tables : List Tables
  pub fetched : FetchesModules g.directory g.graph old new modules tables
  pub need_is : need ≡ total (needs tables)
  pub left_is : left ≡ free g.pages g.log
  pub over : left < need

-- Why modules weren't loaded: a charmap has no table, or the store has too few pages.
abbrev pub RefusesLoads : Ground → Holdings → Holdings → List ℕ → Refusal → Type 0
RefusesLoads g old new modules (refusals.StoreFull need left) = IsOver g old new modules need left
RefusesLoads g old new modules why = Stops g.directory old new (wanted g.graph modules) why

-- The tables of modules were fetched, there is room for them, and these are the lowest free pages, as many as they need.
pub record IsLoaded (g : Ground) (old new : Holdings) (modules : List ℕ) (tables : List Tables) (pages : List ℕ) : Type 0 where
  pub fetched : FetchesModules g.directory g.graph old new modules tables
  pub pages_are : pages ≡ lowest g.pages (all_pages (places g.pages g.log)) (total (needs tables))
  pub room : total (needs tables) ≤ free g.pages g.log
  pub enough : length pages ≡ total (needs tables)
  pub few : total (needs tables) < 2 ^ 32
