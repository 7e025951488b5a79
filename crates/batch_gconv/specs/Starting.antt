-- What a runtime begins with. No public clause cites it.
use Rattle.std.specs.Prelude.{◌≡◌, ℕ, List, length, string_bytes}
use Rattle.names_alias.specs.Aliases.{caller_name_of}
use Rattle.modules_conf.specs.Resolution.{alias_table_of}
use Rattle.modules_conf.specs.declared.conf.Conf.{Conf}
use Rattle.modules_conf.specs.declared.bindings.Binding.{Binding}
use Rattle.module_counts.specs.Counting.{IsKnown}
use Rattle.module_graph.specs.Numbers.{graph_of}
use Rattle.runtime_histories.specs.Charmaps.{HasText}
use Rattle.batch_gconv.specs.declared.starting.Parts.{Parts}

-- the graph and the aliases of a configuration, and a folder
pub record AreParts (conf : Conf) (bindings : List Binding) (folder : List ℕ) (p : Parts) : Type 0 where
  pub graph_is : p.graph ≡ graph_of conf.edges bindings
  pub known : IsKnown p.graph (length p.graph.kinds)
  pub text : HasText p.graph
  pub names : (text : List ℕ) → caller_name_of p.aliases text ≡ caller_name_of (alias_table_of conf) text
  pub folder_is : string_bytes p.folder ≡ folder
