-- What an opening does to a runtime.
use Rattle.std.specs.Prelude.{◌≡◌, ℕ, List, [], ◌∷◌, ◌++◌, length, map, Some}
use Rattle.std.specs.List.{flat_map}
use Rattle.code_pairs.specs.Tables.{Tables}
use Rattle.names_alias.specs.Aliases.{caller_name_of}
use Rattle.modules_conf.specs.Resolution.{alias_table_of}
use Rattle.modules_conf.specs.declared.conf.Conf.{Conf}
use Rattle.modules_conf.specs.declared.bindings.Binding.{Binding}
use Rattle.module_graph.specs.Numbers.{graph_of}
use Rattle.chain_search.specs.declared.chain.Chain.{Chain}
use Rattle.chain_steps.specs.declared.recipe.Recipe.{Recipe}
use Rattle.chain_steps.specs.Chains.{initial}
use Rattle.chain_recipes.specs.Recipes.{recipe_for}
use Rattle.outside.specs.Moments.{Holdings}
use Rattle.runtime_histories.specs.declared.loads.Load.{Load}
use Rattle.runtime_histories.specs.declared.entries.Reply.{Reply}
use Rattle.runtime_histories.specs.declared.entries.Reply.TheVariants.{Opened}
use Rattle.runtime_histories.specs.declared.refusals.Asked.{Asked}
use Rattle.runtime_histories.specs.declared.refusals.Refusal.{Refusal}
use Rattle.runtime_histories.specs.Charmaps.{AreTablesOf}
use Rattle.runtime_histories.specs.Entries.{loaded_of}
use Rattle.runtime_histories.specs.Settings.{charmaps_at}
use Rattle.module_counts.specs.Counting.{HasRoom}
use Rattle.pair_openings.specs.Answers.{snapshot}
use Rattle.pair_openings.specs.Entered.{Leaves, HasRefused, KeepsLimit}
use Rattle.conversion_book.specs.ChainTables.{kept, chain_tables}
use Rattle.conversion_book.specs.Runtime.{Runtime, log_of, setting_of}

-- A runtime that has no entry, for a configuration with its bindings.
pub record IsNew (conf : Conf) (bindings : List Binding) (directory : List ℕ) (pages limit : ℕ) (given : Holdings) (r : Runtime) : Type 0 where
  pub graph : r.books.graph ≡ graph_of conf.edges bindings
  pub names : (text : List ℕ) → caller_name_of r.aliases text ≡ caller_name_of (alias_table_of conf) text
  pub journal : r.books.journal ≡ []
  pub held : r.held ≡ []
  pub limits : (r.books.pages ≡ pages) × (r.books.limit ≡ limit)
  pub directory_is : r.directory ≡ directory
  pub library_is : r.library ≡ given

-- An opening that was answered by a chain.
pub record Answered : Type 0 where
  pub chain : Chain
  pub modules : List ℕ
  pub loads : List Load

-- Its reply.
abbrev pub reply_of : Answered → Reply
reply_of o = Opened o.chain.ordinals o.chain.cost o.loads (snapshot o.modules)

-- The tables that the modules of its chain have: those that were kept before, and those that it loaded.
abbrev pub tables_for : Runtime → Answered → Tables
tables_for r o = chain_tables (kept r.books.pages (log_of r) ++ map loaded_of o.loads) o.modules

-- The names and the directory stay.
abbrev pub IsSameSetting : Runtime → Runtime → Type 0
IsSameSetting a b = (b.aliases ≡ a.aliases) × (b.directory ≡ a.directory)

-- A pair was opened. The entry is the one that is legal next, and the library was asked for what it asks for. The
-- new descriptor's number is the entry's position, its recipe that of the chain, its states are initial, and its
-- tables are those of the charmaps of the chain's modules. The other descriptors stay.
pub record Opens (a b : Runtime) (caller : ℕ) (from to : Asked) (number : ℕ) : Type 0 where
  pub answer : Answered
  pub recipe : Recipe
  pub leaves : Leaves a.directory a.books b.books a.library b.library caller from to (reply_of answer)
  pub limit : HasRoom a.books
  pub number_is : number ≡ length a.books.journal
  pub recipe_is : recipe_for a.books.graph answer.chain.ordinals ≡ Some recipe
  pub held : b.held ≡ a.held ++ record { number = number; tables = tables_for a answer; machine = record { recipe = recipe; states = initial } } ∷ []
  pub read : AreTablesOf (setting_of a).source (flat_map (charmaps_at a.books.graph) answer.modules) (tables_for a answer)
  pub same : IsSameSetting a b

-- A pair wasn't opened. All descriptors stay.
pub record Refuses (a b : Runtime) (caller : ℕ) (from to : Asked) (why : Refusal) : Type 0 where
  pub refused : HasRefused a.directory a.books b.books a.library b.library caller from to why
  pub limit : KeepsLimit a.books why
  pub held : b.held ≡ a.held
  pub same : IsSameSetting a b
