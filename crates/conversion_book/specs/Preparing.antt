-- What an opening needs besides its entry. No public clause cites it.
use Rattle.std.specs.Prelude.{◌≡◌, ℕ, nat_lt, ◌&&◌, List, [], ◌∷◌, ◌++◌, length, map, Some}
use Rattle.std.specs.List.{filter}
use Rattle.module_graph.specs.Graph.{Shape}
use Rattle.chain_search.specs.declared.chain.Chain.{Chain}
use Rattle.chain_recipes.specs.Recipes.{recipe_for}
use Rattle.chain_steps.specs.declared.recipe.Recipe.{Recipe}
use Rattle.chain_steps.specs.Chains.{initial}
use Rattle.runtime_histories.specs.Deeds.{Deeds, Loaded, marks}
use Rattle.runtime_histories.specs.Entries.{deeds, loaded_of}
use Rattle.runtime_histories.specs.Residence.{resident}
use Rattle.runtime_histories.specs.Settings.{Leads}
use Rattle.module_counts.specs.Counting.{Booked}
use Rattle.module_counts.specs.Stocks.{lists}
use Rattle.pair_openings.specs.Entered.{Enters, entry_of}
use Rattle.pair_openings.specs.declared.begun.Begun.{Begun}
use Rattle.conversion_book.specs.Runtime.{Held}
use Rattle.pair_openings.specs.Answers.{reply_of}
use Rattle.pair_openings.specs.declared.planning.Opening.{Opening}
use Rattle.conversion_book.specs.ChainTables.{chain_tables}
use Rattle.conversion_book.specs.Descriptors.{kept_as}
use Rattle.conversion_book.specs.declared.preparing.Prepared.{Prepared}

-- The chain is the least one between two names.
pub record IsLed (graph : Shape) (chain : Chain) : Type 0 where
  pub from : List ℕ
  pub to : List ℕ
  pub leads : Leads graph from to chain

-- The same opening, what it loads, the tables of its chain, and its recipe.
pub record IsPrepared (graph : Shape) (held : List Loaded) (o : Opening) (p : Prepared) : Type 0 where
  pub reply : reply_of p.opening ≡ reply_of o
  pub modules : p.opening.modules ≡ o.modules
  pub loads : p.opening.loads.items ≡ o.loads.items
  pub chain : p.opening.chain ≡ o.chain
  pub places : lists p.opening.places.items ≡ lists o.places.items
  pub loaded : map kept_as p.loaded.items ≡ map loaded_of o.loads.items
  pub tables : p.tables ≡ chain_tables (held ++ map loaded_of o.loads.items) o.modules
  pub recipe : recipe_for graph o.chain.ordinals ≡ Some p.recipe

-- The modules of these that are known and resident.
abbrev pub still_kept : ℕ → Deeds → List Loaded → List Loaded
still_kept modules log keeps = filter (λ l. nat_lt l.«module» modules && resident (marks log) l.«module») keeps

-- An opening that was begun has been entered: these modules are kept now, and these are the descriptors.
pub record IsEntered (a b : Booked) (keeps later : List Loaded) (old new : List Held) (caller : ℕ) (o : Begun) (number : ℕ) : Type 0 where
  pub recipe : Recipe
  pub enters : Enters a b (entry_of caller o.from o.to (reply_of o.opening))
  pub number_is : number ≡ length a.journal
  pub recipe_is : recipe_for a.graph o.opening.chain.ordinals ≡ Some recipe
  pub later_is : later ≡ still_kept (length a.graph.kinds) (deeds b.journal) (keeps ++ map loaded_of o.opening.loads.items)
  pub held_is : new ≡ old ++ record {
    number = number;
    tables = chain_tables (keeps ++ map loaded_of o.opening.loads.items) o.opening.modules;
    machine = record { recipe = recipe; states = initial };
  } ∷ []
