-- The tables of modules and of chains.
use Rattle.std.specs.Prelude.{ℕ, ◌==◌, if◌then◌else◌, List, [], ◌∷◌, map}
use Rattle.std.specs.List.{flat_map}
use Rattle.code_pairs.specs.Tables.{Tables}
use Rattle.runtime_histories.specs.Deeds.{Deeds, Loaded}
use Rattle.runtime_histories.specs.Places.{Placed, places}

-- A resident module with its tables.
abbrev pub kept_of : Placed → Loaded
kept_of x = record { «module» = x.«module»; tables = x.tables }

-- The resident modules with their tables, in a store of so many pages.
abbrev pub kept : ℕ → Deeds → List Loaded
kept pages log = map kept_of (places pages log)

-- The tables of a module among some.
abbrev pub tables_of : ℕ → List Loaded → Tables
tables_of m [] = []
tables_of m (l ∷ ls) = if l.«module» == m then l.tables else tables_of m ls

-- The tables of the modules of a chain's steps, one after another.
abbrev pub chain_tables : List Loaded → List ℕ → Tables
chain_tables held modules = flat_map (λ m. tables_of m held) modules
