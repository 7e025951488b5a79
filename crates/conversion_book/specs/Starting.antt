-- What a runtime begins with. No public clause cites it.
use Rattle.std.specs.Prelude.{◌≡◌, ℕ, List, [], string_bytes}
use Rattle.names_alias.specs.Aliases.{caller_name_of}
use Rattle.modules_conf.specs.Resolution.{alias_table_of}
use Rattle.modules_conf.specs.declared.conf.Conf.{Conf}
use Rattle.modules_conf.specs.declared.bindings.Binding.{Binding}
use Rattle.module_graph.specs.Graph.{IsGraph}
use Rattle.module_graph.specs.Numbers.{graph_of}
use Rattle.runtime_histories.specs.Charmaps.{HasText}
use Rattle.conversion_book.specs.declared.starting.Parts.{Parts}

-- The graph and the aliases of a configuration, a directory, books over the graph without an entry, and chains of
-- that graph.
pub record AreParts (conf : Conf) (bindings : List Binding) (directory : List ℕ) (pages limit : ℕ) (p : Parts) : Type 0 where
  pub graph_is : p.graph ≡ graph_of conf.edges bindings
  pub whole : IsGraph p.graph
  pub text : HasText p.graph
  pub names : (text : List ℕ) → caller_name_of p.aliases text ≡ caller_name_of (alias_table_of conf) text
  pub directory_is : string_bytes p.dir ≡ directory
  pub books : p.counts.graph ≡ p.graph
  pub pages_is : p.counts.pages ≡ pages
  pub limit_is : p.counts.limit ≡ limit
  pub journal : p.counts.journal ≡ []
  pub told : p.told.graph ≡ p.graph
