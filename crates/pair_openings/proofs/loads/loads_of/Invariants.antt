use Rattle.std.proofs.Common.{◌≡◌, map, take}
use Rattle.runtime_histories.specs.Entries.{loaded_of}
use Rattle.runtime_histories.specs.Legal.{AreCounted}
use Rattle.pair_openings.specs.Loading.{loaded_all}
use Rattle.pair_openings.proofs.loads.loads_of.Given as goal

abbrev pub invariant-loop-place : goal.invariant-loop-place
invariant-loop-place l = record {
  loads : map loaded_of l.loads.items ≡ loaded_all (take l.place l.modules) (take l.place l.all);
  counted : AreCounted l.loads.items;
}
