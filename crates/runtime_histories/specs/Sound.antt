-- What the deeds of a legal history meet. No public clause cites it.
use Rattle.std.specs.Prelude.{◌≡◌}
use Rattle.module_graph.specs.Graph.{Shape}
use Rattle.chain_search.specs.declared.chain.Chain.{Chain}
use Rattle.runtime_histories.specs.Deeds.{Deeds, Desc, openings, IsIn}
use Rattle.runtime_histories.specs.Fair.{IsBalanced}
use Rattle.runtime_histories.specs.Settings.{Leads, modules_of}

-- A descriptor has the modules of the least chain of its pair.
pub record IsRouted (graph : Shape) (d : Desc) : Type 0 where
  pub chain : Chain
  pub leads : Leads graph d.pair.from d.pair.to chain
  pub modules_is : d.modules ≡ modules_of graph.edges chain.ordinals

-- All descriptors do, and uses and releases are those of live pairs.
pub record IsSound (graph : Shape) (log : Deeds) : Type 0 where
  pub balanced : IsBalanced log
  pub routed : (d : Desc) → IsIn d (openings 0 log) → IsRouted graph d
