use Rattle.std.proofs.Common.{◌≡◌, ◌++◌, List, map, drop}
use Rattle.runtime_histories.specs.Deeds.{Loaded}
use Rattle.conversion_book.specs.ChainTables.{tables_of}
use Rattle.conversion_book.specs.Descriptors.{kept_as}
use Rattle.conversion_book.proofs.kept.find_tables.Given as goal

abbrev pub invariant-loop-item : goal.invariant-loop-item
invariant-loop-item l = (more : List Loaded) → tables_of l.«module» (map kept_as l.kept ++ more) ≡ tables_of l.«module» (map kept_as (drop l.item-index l.kept) ++ more)
