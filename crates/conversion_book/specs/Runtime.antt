-- The runtime of one thread as its callers see it.
use Rattle.std.specs.Prelude.{ℕ, ◌==◌, not, if◌then◌else◌, List, [], ◌∷◌, Option, IsSome}
use Rattle.std.specs.List.{filter, find}
use Rattle.code_pairs.specs.Tables.{Tables}
use Rattle.names_alias.specs.Aliases.{AliasTable}
use Rattle.chain_steps.specs.Machine.{Machine}
use Rattle.outside.specs.Moments.{Holdings}
use Rattle.runtime_histories.specs.Deeds.{Deeds}
use Rattle.runtime_histories.specs.Entries.{deeds}
use Rattle.runtime_histories.specs.Settings.{Setting}
use Rattle.module_counts.specs.Counting.{Booked}
use Rattle.charmap_library.specs.Fetching.{source_of}

-- A live descriptor: its number, the tables of its chain, and the chain's recipe with its two states.
pub record Held : Type 0 where
  pub number : ℕ
  pub tables : Tables
  pub machine : Machine

-- A runtime at a moment: the books with the whole history, what names stand for, the directory of charmaps, the
-- library, and the live descriptors, the oldest first.
pub record Runtime : Type 0 where
  pub books : Booked
  pub aliases : AliasTable
  pub directory : List ℕ
  pub library : Holdings
  pub held : List Held

-- What was done so far.
abbrev pub log_of : Runtime → Deeds
log_of r = deeds r.books.journal

-- The setting of a runtime. No call changes it.
abbrev pub setting_of : Runtime → Setting
setting_of r = record {
  first = record { graph = r.books.graph; aliases = r.aliases };
  source = source_of r.directory r.library;
  pages = r.books.pages;
}

-- The descriptor of a number.
abbrev pub held_at : ℕ → List Held → Option Held
held_at n hs = find (λ h. h.number == n) hs

-- The descriptors, where that of a number has come to another machine.
abbrev pub moved : ℕ → Machine → List Held → List Held
moved n m [] = []
moved n m (h ∷ hs) = if h.number == n then record h { machine = m } ∷ hs else h ∷ moved n m hs

-- The descriptors without that of a number.
abbrev pub without : ℕ → List Held → List Held
without n hs = filter (λ h. not (h.number == n)) hs

-- The number is that of a live descriptor.
abbrev pub IsHeld : Runtime → ℕ → Type 0
IsHeld r n = IsSome (held_at n r.held)
