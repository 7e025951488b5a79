use Rattle.std.proofs.Common.{take}
use Rattle.charmap_library.specs.Fetching.{FetchesModules}
use Rattle.charmap_library.proofs.fetch.fetch_missing.Given as goal

abbrev pub invariant-loop-module : goal.invariant-loop-module
invariant-loop-module g l = record {
  fetched : FetchesModules l.dir l.graph (g.L.Library.holdings l.initial.library) (g.L.Library.holdings l.library) (take l.module-index l.missing) l.all.items;
}
