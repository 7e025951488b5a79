-- What comes of fetching charmaps from a library.
use Rattle.std.specs.Prelude.{◌≡◌, ℕ, ◌≤◌, List, [], ◌∷◌, ◌++◌, None, IfSome}
use Rattle.std.specs.Option.{option_map}
use Rattle.code_pairs.specs.Tables.{Tables}
use Rattle.module_graph.specs.Graph.{Shape}
use Rattle.outside.specs.Faults.{Rose}
use Rattle.outside.specs.Moments.{Holdings}
use Rattle.runtime_histories.specs.declared.refusals.Refusal.{Refusal}
use Rattle.runtime_histories.specs.declared.refusals.Refusal.TheVariants as refusals
use Rattle.runtime_histories.specs.Settings.{Source}
use Rattle.runtime_histories.specs.Charmaps.{Wanted, wanted, words_of, text_of, IsFaulty, AreTablesOf, AreFetched, ComesTo}
use Rattle.runtime_histories.specs.Fetches.{paths_of}

-- Charmaps of a directory in a library at a moment.
abbrev pub source_of : List ℕ → Holdings → Source
source_of directory h = record { directory = directory; texts = h.told }

-- A library was asked for these charmaps more, in order. Its texts stay, and its count of faults doesn't fall.
pub record AskedFor (directory : List ℕ) (old new : Holdings) (ws : List Wanted) : Type 0 where
  pub told : new.told ≡ old.told
  pub paths : new.paths ≡ option_map (λ asked. asked ++ paths_of (source_of directory old) ws) old.paths
  pub count : old.faults ≤ new.faults

-- Fetching charmaps in order came to one of them, and stopped there.
pub record StopsAt (directory : List ℕ) (old new : Holdings) (all : List Wanted) (at : Wanted) : Type 0 where
  pub comes : ComesTo (source_of directory old) all at
  pub asked : AskedFor directory old new (comes.before ++ at ∷ [])

-- Fetching charmaps in order was given up for want of memory, after some of them.
pub record GivesUp (directory : List ℕ) (old new : Holdings) (all : List Wanted) : Type 0 where
  pub front : List Wanted
  pub behind : List Wanted
  pub whole : all ≡ front ++ behind
  pub asked : AskedFor directory old new front

-- Why fetching charmaps in order stopped: at the first that has no table, the library having failed in it only
-- where its count of faults rose.
abbrev pub Stops : List ℕ → Holdings → Holdings → List Wanted → Refusal → Type 0
Stops directory old new all (refusals.LibraryFault m w) =
    StopsAt directory old new all (record { «module» = m; charmap = w }) × Rose old.faults new.faults
Stops directory old new all (refusals.NoCharmap m w) =
    StopsAt directory old new all (record { «module» = m; charmap = w })
    × IfSome old.told (λ shelf. text_of (source_of directory old) shelf w ≡ None)
Stops directory old new all (refusals.BadCharmap m w fault) =
    StopsAt directory old new all (record { «module» = m; charmap = w })
    × IfSome old.told (λ shelf. IsFaulty (text_of (source_of directory old) shelf w) fault)
Stops directory old new all refusals.Memory = GivesUp directory old new all
Stops directory old new all _ = ⊥

-- Charmaps were fetched in order, and these are their tables.
pub record Fetches (directory : List ℕ) (old new : Holdings) (ws : List Wanted) (tables : Tables) : Type 0 where
  pub tables_are : AreTablesOf (source_of directory old) (words_of ws) tables
  pub asked : AskedFor directory old new ws

-- The charmaps of modules were fetched in order, and these are the modules' tables.
pub record FetchesModules (directory : List ℕ) (graph : Shape) (old new : Holdings) (modules : List ℕ)
    (tables : List Tables) : Type 0 where
  pub tables_are : AreFetched (source_of directory old) graph modules tables
  pub asked : AskedFor directory old new (wanted graph modules)
