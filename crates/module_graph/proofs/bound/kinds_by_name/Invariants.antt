use Rattle.std.proofs.Common.{◌≡◌, ℕ, List, take}
use Rattle.std.specs.HashMap.{get}
use Rattle.std.specs.Str.{bytes_eq}
use Rattle.module_graph.specs.Edges.{kind_bound}
use Rattle.module_graph.proofs.bound.kinds_by_name.Given as goal

abbrev pub invariant-loop-binding : goal.invariant-loop-binding
invariant-loop-binding l = (name : List ℕ) → get bytes_eq l.kinds name ≡ kind_bound (take l.binding-index l.bindings) name
