-- What holds of every least chain.
use Rattle.std.specs.Prelude.{ℕ, ◌≤◌, length}
use Rattle.module_graph.specs.Graph.{Shape, IsGraph}
use Rattle.chain_search.specs.declared.chain.Chain.{Chain}
use Rattle.chain_search.specs.Answer.{TellsLeast}

-- A least chain has no more edges than there are nodes.
abbrev pub LeastChainsAreShort : Type 0
LeastChainsAreShort = (g : Shape) (a b : ℕ) (answer : Chain) → IsGraph g → TellsLeast g.edges a b answer
    → length answer.ordinals ≤ length g.nodes
