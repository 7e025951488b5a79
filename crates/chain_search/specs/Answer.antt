-- What an answer of the search tells.
use Rattle.std.specs.Prelude.{◌≡◌, ℕ, List}
use Rattle.module_graph.specs.declared.edge.Edge.{Edge}
use Rattle.chain_search.specs.declared.chain.Chain.{Chain}
use Rattle.chain_search.specs.Chains.{IsLeastChain, ordinals_of, cost_of}

-- The answer has the ordinals and the cost of the least chain from a to b.
pub record TellsLeast (g : List Edge) (a b : ℕ) (answer : Chain) : Type 0 where
  pub edges : List Edge
  pub least : IsLeastChain g a b edges
  pub ordinals : answer.ordinals ≡ ordinals_of edges
  pub cost : answer.cost ≡ cost_of edges
