-- What the answers of a runtime mean in a setting, without what it keeps and what fails.
use Rattle.std.specs.Prelude.{◌≡◌, ◌++◌, ℕ, zero, suc, Bool, true, false, List, [], length, Option, Some, None}
use Rattle.std.specs.List.{flat_map}
use Rattle.code_pairs.specs.Tables.{Tables}
use Rattle.names_alias.specs.Aliases.{caller_name_of}
use Rattle.modules_conf.specs.declared.conf.Conf.{Conf}
use Rattle.modules_conf.specs.declared.bindings.Binding.{Binding}
use Rattle.modules_conf.specs.Resolution.{alias_table_of}
use Rattle.module_graph.specs.Numbers.{graph_of}
use Rattle.chain_search.specs.declared.chain.Chain.{Chain}
use Rattle.chain_steps.specs.declared.recipe.Recipe.{Recipe}
use Rattle.chain_steps.specs.Chains.{chain, initial}
use Rattle.chain_steps.specs.Sets.{return_of}
use Rattle.chain_recipes.specs.Recipes.{recipe_for}
use Rattle.unit_relations.specs.Meaning.{MeansWhole}
use Rattle.step_buffers.specs.declared.answers.Finish.{Finish}
use Rattle.step_buffers.specs.Ends.{ending}
use Rattle.outside.specs.Shelves.{Shelf}
use Rattle.runtime_histories.specs.declared.entries.Entry.{Entry}
use Rattle.runtime_histories.specs.declared.entries.Reply.{Reply}
use Rattle.runtime_histories.specs.declared.entries.Reply.TheVariants.{Refused}
use Rattle.runtime_histories.specs.declared.entries.Event.TheVariants.{Opening, Closing}
use Rattle.runtime_histories.specs.declared.refusals.Asked.{Asked}
use Rattle.runtime_histories.specs.declared.refusals.Asked.TheVariants.{Good}
use Rattle.runtime_histories.specs.declared.refusals.Refusal.{Refusal}
use Rattle.runtime_histories.specs.declared.refusals.Refusal.TheVariants.{BadName, NoConversion, LibraryFault, NoCharmap, BadCharmap, StoreFull, JournalFull, Memory}
use Rattle.runtime_histories.specs.Settings.{Setting, Leads, modules_of, charmaps_at}
use Rattle.runtime_histories.specs.Charmaps.{AreTablesOf}
use Rattle.runtime_histories.specs.Legal.{IsAnswered}
use Rattle.runtime_histories.specs.Fetches.{Fetches, FetchesLoose}
use Rattle.pair_openings.specs.Asking.{asked_of}
use Rattle.batch_jobs.specs.Jobs.{Text}

-- the setting is that of a configuration under its bindings, with a folder of charmaps, a store of so
-- many pages, and the texts of a library, where told
pub record IsSettingOf (conf : Conf) (bindings : List Binding) (folder : Text) (pages : ℕ)
    (told : Option Shelf) (s : Setting) : Type 0 where
  pub graph : s.first.graph ≡ graph_of conf.edges bindings
  pub names : (text : Text)
      → caller_name_of s.first.aliases text ≡ caller_name_of (alias_table_of conf) text
  pub source : s.source ≡ record { directory = folder; texts = told }
  pub store : s.pages ≡ pages

-- what a conversion gives: its bytes, and how it ends
pub record Made : Type 0 where
  pub bytes : Text
  pub finish : Finish

-- what a text asks for
abbrev pub asked_in : Setting → Text → Asked
asked_in s text = asked_of s.first.aliases text

-- a refusal that leaves an entry
abbrev pub is_entered : Refusal → Bool
is_entered (BadName which fault) = true
is_entered NoConversion = true
is_entered (LibraryFault m charmap) = true
is_entered (NoCharmap m charmap) = true
is_entered (BadCharmap m charmap fault) = true
is_entered (StoreFull need free) = true
is_entered (JournalFull count) = false
is_entered Memory = false

-- a refusal that says nothing of the names and the texts: the library failed, or the store was full
abbrev pub is_passing : Refusal → Bool
is_passing (BadName which fault) = false
is_passing NoConversion = false
is_passing (LibraryFault m charmap) = true
is_passing (NoCharmap m charmap) = false
is_passing (BadCharmap m charmap fault) = false
is_passing (StoreFull need free) = true
is_passing (JournalFull count) = false
is_passing Memory = false

-- how many faults of the library a refusal tells
abbrev pub library_fault : Refusal → ℕ
library_fault (BadName which fault) = 0
library_fault NoConversion = 0
library_fault (LibraryFault m charmap) = 1
library_fault (NoCharmap m charmap) = 0
library_fault (BadCharmap m charmap fault) = 0
library_fault (StoreFull need free) = 0
library_fault (JournalFull count) = 0
library_fault Memory = 0

-- two names are refused so, whatever was opened before: as an opening is on which nothing is resident
pub record Refuses (s : Setting) (from to : Text) (why : Refusal) : Type 0 where
  pub lasting : is_passing why ≡ false
  pub answered : IsAnswered s s.first.graph [] (asked_in s from) (asked_in s to) (Refused why)

-- two names make this of an input: the least chain between them leads from the one to the other, and
-- by its recipe over the tables of the charmaps of its steps this is the meaning of the whole input
pub record Makes (s : Setting) (from to input : Text) (made : Made) : Type 0 where
  pub source : Text
  pub target : Text
  pub source_is : asked_in s from ≡ Good source
  pub target_is : asked_in s to ≡ Good target
  pub way : Chain
  pub leads : Leads s.first.graph source target way
  pub tables : Tables
  pub read : AreTablesOf s.source
      (flat_map (charmaps_at s.first.graph) (modules_of s.first.graph.edges way.ordinals)) tables
  pub recipe : Recipe
  pub recipe_is : recipe_for s.first.graph way.ordinals ≡ Some recipe
  pub means : MeansWhole (chain tables recipe) (return_of recipe.writer) initial input
      (ending made.bytes made.finish (length input))

-- what a history asked of the library: exactly what its openings ask for, or, where there are
-- workers, besides that what openings asked for that wanted memory
abbrev pub HasFetched : Setting → ℕ → List Entry → List Text → Type 0
HasFetched s zero history asked = Fetches s history asked
HasFetched s (suc more) history asked = FetchesLoose s history asked

-- the paths that a library was asked for since then, where told
abbrev pub AskedSince : (List Text → Type 0) → Option (List Text) → Option (List Text) → Type 0
AskedSince fetches before None = Unit {0}
AskedSince fetches None (Some now) = ⊥
AskedSince fetches (Some before) (Some now) =
    (asked : List Text) × (now ≡ before ++ asked) × fetches asked

-- the entry of an opening
abbrev pub opening : Setting → ℕ → Text → Text → Reply → Entry
opening s caller from to reply =
    record { caller = caller; event = Opening (asked_in s from) (asked_in s to) reply }

-- the entry of a closing
abbrev pub closing : ℕ → ℕ → Entry
closing caller number = record { caller = caller; event = Closing number }
