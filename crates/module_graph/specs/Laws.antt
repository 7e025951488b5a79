-- What holds of every graph of a configuration.
use Rattle.std.specs.Prelude.{◌≡◌, ℕ, ◌==◌, true, List, All, Contains, Some}
use Rattle.std.specs.List.{find}
use Rattle.modules_conf.specs.Charmaps.{names_charmaps}
use Rattle.modules_conf.specs.declared.lines.EdgeLine.{EdgeLine}
use Rattle.modules_conf.specs.declared.bindings.Binding.{Binding}
use Rattle.module_graph.specs.declared.edge.Edge.{Edge}
use Rattle.module_graph.specs.Graph.{Shape, IsGraph}
use Rattle.module_graph.specs.Numbers.{graph_of}

-- Each edge is the one that is found by its ordinal.
abbrev pub EdgesAreFound : Type 0
EdgesAreFound = (g : Shape) (e : Edge) → IsGraph g → Contains g.edges e
    → find (λ f. f.ordinal == e.ordinal) g.edges ≡ Some e

-- Where all bindings are of kinds whose words name charmaps, all modules are.
abbrev pub ModulesNameCharmaps : Type 0
ModulesNameCharmaps = (lines : List EdgeLine) (bindings : List Binding)
    → All (λ b. names_charmaps b.kind ≡ true) bindings
    → All (λ kind. names_charmaps kind ≡ true) (graph_of lines bindings).kinds
