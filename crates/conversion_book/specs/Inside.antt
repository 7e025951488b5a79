-- What a runtime keeps. No public clause cites it.
use Rattle.std.specs.Prelude.{◌≡◌, ◌<◌, ℕ, true, List, map, length}
use Rattle.std.specs.List.{AllByRecursion}
use Rattle.module_graph.specs.Graph.{Shape, IsGraph}
use Rattle.runtime_histories.specs.Charmaps.{HasText}
use Rattle.runtime_histories.specs.Deeds.{Deeds, Loaded, live, marks}
use Rattle.runtime_histories.specs.Legal.{AreRead, Legal, loaded_modules}
use Rattle.runtime_histories.specs.Places.{among}
use Rattle.runtime_histories.specs.Residence.{resident}
use Rattle.conversion_book.specs.ChainTables.{kept}
use Rattle.conversion_book.specs.Descriptors.{AllRun}
use Rattle.conversion_book.specs.Runtime.{Runtime, log_of, setting_of}

-- Every resident module is among these.
abbrev pub IsComplete : Deeds → List Loaded → Type 0
IsComplete log keeps = (m : ℕ) → resident (marks log) m ≡ true → among m (loaded_modules keeps) ≡ true

-- The history is legal, the resident modules are kept, each with its charmaps' tables, and the descriptors are the
-- live ones, each with all tables of its recipe.
pub record IsBook (graph : Shape) (keeps : List Loaded) (r : Runtime) : Type 0 where
  pub graph_is : r.books.graph ≡ graph
  pub whole : IsGraph graph
  pub text : HasText graph
  pub known : AllByRecursion (λ m. m < length graph.kinds) (loaded_modules keeps)
  pub keeps_is : keeps ≡ kept r.books.pages (log_of r)
  pub complete : IsComplete (log_of r) keeps
  pub read : AreRead (setting_of r).source graph keeps
  pub legal : Legal (setting_of r) r.books.journal
  pub numbers : map (λ h. h.number) r.held ≡ map (λ d. d.number) (live (log_of r))
  pub runs : AllRun r.held
