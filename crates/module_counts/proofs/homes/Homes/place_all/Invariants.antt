use Rattle.std.proofs.Common.{◌≡◌, ◌++◌, ◌+◌, ◌≤◌, length, take, drop, map, vec_capacity}
use Rattle.std.specs.Vec.Iter.{into_iter_items, into_iter_len}
use Rattle.runtime_histories.specs.declared.loads.Load.{Load}
use Rattle.module_counts.specs.Stocks.{lists, laid}
use Rattle.module_counts.proofs.homes.Homes.place_all.Given as goal

abbrev pub invariant-loop-load : goal.invariant-loop-load
invariant-loop-load l = record {
  rows : laid (lists l.self.rows.items) (map (λ (x : Load). x.«module») (drop l.load-index l.loads)) (lists (into_iter_items l.rest))
      ≡ laid (lists l.initial.self.rows.items) (map (λ (x : Load). x.«module») l.loads) (lists (into_iter_items l.initial.rest));
  count : length l.self.rows.items ≡ length l.initial.self.rows.items;
  order : l.self.order.items ≡ l.initial.self.order.items ++ map (λ (x : Load). x.«module») (take l.load-index l.loads);
  placed : length l.self.order.items ≡ length l.initial.self.order.items + l.load-index;
  rest : into_iter_len l.rest + l.load-index ≡ length l.loads;
  room : vec_capacity l.initial.self.order ≤ vec_capacity l.self.order;
}
