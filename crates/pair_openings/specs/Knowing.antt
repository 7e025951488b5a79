-- Chains that are known before an opening.
use Rattle.std.specs.Prelude.{◌≡◌, ◌+◌, ◌≤◌, ℕ, Option, IfSome, MatchOption}
use Rattle.std.specs.Borrow.{Bor}
use Rattle.chain_search.specs.declared.chain.Chain.{Chain}
use Rattle.module_graph.specs.Graph.{Shape}
use Rattle.runtime_histories.specs.declared.refusals.Asked.{Asked}
use Rattle.runtime_histories.specs.declared.refusals.Asked.TheVariants.{Good}
use Rattle.runtime_histories.specs.Settings.{Leads}

-- The chain is the least one between two good names.
abbrev pub IsLeastFor : Shape → Asked → Asked → Chain → Type 0
IsLeastFor graph (Good from) (Good to) chain = Leads graph from to chain
IsLeastFor graph _ _ chain = Unit {0}

-- A chain that is known is the least one between two names as asked.
abbrev pub IsKnown : Shape → Asked → Asked → Option (Bor Chain) → Type 0
IsKnown graph from to known = IfSome known (λ chain. IsLeastFor graph from to chain.now)

-- A search counts at most one step for each edge. None is counted where a chain is known.
abbrev pub CountsSteps : {T : Type 0} → ℕ → Option T → ℕ → ℕ → Type 0
CountsSteps edges known old new = MatchOption known (new ≤ old + edges) (λ _. new ≡ old)
