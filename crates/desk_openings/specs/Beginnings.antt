-- How an opening begins over a desk.
use Rattle.std.specs.Prelude.{◌≡◌, ℕ, ◌≤◌, Bool, true, false, List, [], ◌∷◌, ◌++◌, string_bytes}
use Rattle.outside.specs.Moments.{Holdings}
use Rattle.module_counts.specs.Counting.{Booked, HasRoom, RefusesRoom}
use Rattle.pair_openings.specs.Answers.{Loses}
use Rattle.pair_openings.specs.Entered.{HasBegun, Leaves, Stays, entry_of, ground_of}
use Rattle.pair_openings.specs.Plans.{IsBlamed}
use Rattle.runtime_histories.specs.declared.entries.Entry.{Entry}
use Rattle.runtime_histories.specs.declared.entries.Reply.TheVariants as replies
use Rattle.runtime_histories.specs.declared.refusals.Asked.{Asked}
use Rattle.runtime_histories.specs.declared.refusals.Refusal.{Refusal}
use Rattle.runtime_histories.specs.declared.refusals.Refusal.TheVariants.{JournalFull, Memory}
use Rattle.runtime_room.specs.declared.desk.Desk.{Desk}
use Rattle.runtime_room.specs.declared.desk.Noted.{Noted}
use Rattle.desk_openings.specs.declared.beginning.Beginning.{Beginning}
use Rattle.desk_openings.specs.declared.beginning.Beginning.TheVariants.{Begun, Lost, Refused}

-- A refusal leaves an entry, but for that of a full journal and want of memory.
abbrev pub has_entry : Refusal → Bool
has_entry (JournalFull count) = false
has_entry Memory = false
has_entry _ = true

-- Books and library alone may change; the texts of the library stay, and its count of faults doesn't fall.
pub record KeepsDesk {L : Type 0} (holdings : L → Holdings) (a b : Desk L) : Type 0 where
  pub graph : b.graph ≡ a.graph
  pub aliases : b.aliases ≡ a.aliases
  pub directory : b.directory ≡ a.directory
  pub layouts : b.layouts ≡ a.layouts
  pub cache : b.cache ≡ a.cache
  pub first : b.first ≡ a.first
  pub told : (holdings b.library).told ≡ (holdings a.library).told
  pub count : (holdings a.library).faults ≤ (holdings b.library).faults

-- The refusal was entered, and this is its entry.
pub record IsRefusal {L : Type 0} (holdings : L → Holdings) (a b : Desk L) (caller : ℕ) (from to : Asked)
    (why : Refusal) (e : Noted) : Type 0 where
  pub known : has_entry why ≡ true
  pub leaves : Leaves (string_bytes a.directory) a.counts b.counts (holdings a.library) (holdings b.library)
      caller from to (replies.Refused why)
  pub blamed : IsBlamed why (holdings a.library) (holdings b.library)
  pub room : HasRoom a.counts
  pub entry : e.entry.value ≡ entry_of caller from to (replies.Refused why)

-- What the library was asked for by an opening that left no entry: nothing where the journal is full, and where
-- memory was wanting a front of what such an opening asks for.
abbrev pub IsLost : List ℕ → Booked → Holdings → Holdings → Asked → Asked → Refusal → Type 0
IsLost directory a old new from to Memory = Loses (ground_of directory a) old new from to
IsLost directory a old new from to why = new ≡ old

-- How an opening by two names as asked began.
abbrev pub HasCome : {L : Type 0} → (L → Holdings) → Desk L → Desk L → ℕ → Asked → Asked → Beginning → Type 0
HasCome holdings a b caller from to (Begun o) =
    HasBegun (string_bytes a.directory) a.counts b.counts (holdings a.library) (holdings b.library)
    from to o
HasCome holdings a b caller from to (Lost why) = Stays a.counts b.counts × RefusesRoom a.counts why
    × IsLost (string_bytes a.directory) a.counts (holdings a.library) (holdings b.library) from to why
HasCome holdings a b caller from to (Refused why e) = IsRefusal holdings a b caller from to why e

-- A refusal with the last entry, where it left one. No public clause cites it.
abbrev pub IsSorted : List Entry → Refusal → Beginning → Type 0
IsSorted journal why (Begun o) = ⊥
IsSorted journal why (Lost w) = (w ≡ why) × (has_entry why ≡ false)
IsSorted journal why (Refused w e) = (w ≡ why) × (has_entry why ≡ true)
    × ((es : List Entry) (x : Entry) → journal ≡ es ++ x ∷ [] → e.entry.value ≡ x)
