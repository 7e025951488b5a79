use Rattle.std.proofs.Common.{◌≡◌, ◌++◌, map, take}
use Rattle.conversion_book.specs.ChainTables.{chain_tables}
use Rattle.conversion_book.specs.Descriptors.{kept_as}
use Rattle.conversion_book.proofs.kept.chain_tables.Given as goal

abbrev pub invariant-loop-module : goal.invariant-loop-module
invariant-loop-module l = l.all ≡ chain_tables (map kept_as l.kept ++ map kept_as l.loaded) (take l.module-index l.modules)
