-- What holds of every configuration and of all bindings that were read.
use Rattle.std.specs.Prelude.{◌≡◌, ◌≢◌, ◌≤◌, true, List, length, map, All, AllPairs}
use Rattle.std.specs.List.Sorted.{IsStrictlyIncreasing}
use Rattle.modules_conf.specs.Charmaps.{names_charmaps}
use Rattle.text_lines.specs.Limits.{longest_text}
use Rattle.modules_conf.specs.Numbers.{most_cost, most_lines}
use Rattle.modules_conf.specs.declared.lines.EdgeLine.{EdgeLine}
use Rattle.modules_conf.specs.declared.bindings.Binding.{Binding}

-- Module lines are within the limits where their lines rise and their number and costs are in range.
pub record IsWithinLimits (edges : List EdgeLine) : Type 0 where
  pub rising : IsStrictlyIncreasing (map (λ e. e.line) edges)
  pub lines : All (λ e. e.line ≤ longest_text) edges
  pub count : length edges ≤ most_lines
  pub costs : All (λ e. (1 ≤ e.cost) × (e.cost ≤ most_cost)) edges

-- Bindings are sound where no name is bound twice and each word names a charmap.
pub record AreSound (bindings : List Binding) : Type 0 where
  pub distinct : AllPairs (λ a b. a.name ≢ b.name) bindings
  pub charmaps : All (λ b. names_charmaps b.kind ≡ true) bindings
