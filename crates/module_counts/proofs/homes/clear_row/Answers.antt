use Rattle.std.proofs.Common.{ℕ, ap, ◌∙◌}
use Rattle.std.proofs.Math.ListN.{set}
use Rattle.std.proofs.lemmas.List.{map-set}
use Rattle.std.specs.declared.vec.Vec.{Vec}
use Rattle.std.specs.declared.alloc.Global.{Global}
use Rattle.module_counts.specs.Stocks.{lists}
use Rattle.module_counts.proofs.homes.clear_row.Goals as goal

pub returns-then-module-rows : goal.returns-then-module-rows
returns-then-module-rows c = record {
  rows = map-set (λ (v : Vec ℕ Global). v.items) c.args.rows.now c.args.«module» c.clear.new.self ∙ ap (set (lists c.args.rows.now) c.args.«module») c.clear.ensures.items;
}
