use Rattle.std.proofs.Common.{◌≡◌, ◌++◌, map, drop}
use Rattle.std.specs.List.{AllByRecursion}
use Rattle.module_counts.specs.Stocks.{lists}
use Rattle.runtime_room.specs.Desks.{layouts_at}
use Rattle.desk_openings.specs.Pinning.{shown, chosen_pages, pins_for, CanPin}
use Rattle.desk_openings.proofs.pins.chain_pins.Given as goal

abbrev pub invariant-loop-module : goal.invariant-loop-module
invariant-loop-module l = record {
  made : map shown l.pins.items ++ pins_for (layouts_at l.layouts) (chosen_pages l.counts l.loads (lists l.places)) (drop l.module-index l.modules)
      ≡ pins_for (layouts_at l.layouts) (chosen_pages l.counts l.loads (lists l.places)) l.modules;
  can : AllByRecursion (CanPin l.layouts l.counts l.loads (lists l.places)) (drop l.module-index l.modules);
}
