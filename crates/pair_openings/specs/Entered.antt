-- What an opening leaves in the books.
use Rattle.std.specs.Prelude.{◌≡◌, ◌+◌, ◌≤◌, ℕ, Bool, true, false, List, [], ◌∷◌, ◌++◌, length}
use Rattle.outside.specs.Moments.{Holdings}
use Rattle.runtime_histories.specs.declared.entries.Entry.{Entry}
use Rattle.runtime_histories.specs.declared.entries.Event.TheVariants as events
use Rattle.runtime_histories.specs.declared.entries.Reply.{Reply}
use Rattle.runtime_histories.specs.declared.entries.Reply.TheVariants.{Refused}
use Rattle.runtime_histories.specs.declared.refusals.Asked.{Asked}
use Rattle.runtime_histories.specs.declared.refusals.Refusal.{Refusal}
use Rattle.runtime_histories.specs.declared.refusals.Refusal.TheVariants as refusals
use Rattle.runtime_histories.specs.Deeds.{live}
use Rattle.runtime_histories.specs.Entries.{deeds}
use Rattle.runtime_histories.specs.Legal.{IsAnswered}
use Rattle.runtime_histories.specs.Settings.{Setting}
use Rattle.module_counts.specs.Counting.{Booked, HasRoom, IsSettingOf, RefusesRoom}
use Rattle.pair_openings.specs.Answers.{Answers, Replies, Loses}
use Rattle.pair_openings.specs.Loading.{Ground}
use Rattle.pair_openings.specs.Plans as plans
use Rattle.pair_openings.specs.declared.begun.Begun.{Begun}

-- The entry of an opening.
abbrev pub entry_of : ℕ → Asked → Asked → Reply → Entry
entry_of caller from to reply = record { caller = caller; event = events.Opening from to reply }

-- The journal has one entry more; graph, pages and limit stay.
pub record Enters (old new : Booked) (e : Entry) : Type 0 where
  pub journal : new.journal ≡ old.journal ++ e ∷ []
  pub graph : new.graph ≡ old.graph
  pub pages : new.pages ≡ old.pages
  pub limit : new.limit ≡ old.limit

-- The reply is legal next in some setting of this graph and these pages.
pub record IsNextIn (c : Booked) (from to : Asked) (reply : Reply) : Type 0 where
  pub setting : Setting
  pub of : IsSettingOf c setting
  pub answered : IsAnswered setting setting.first.graph (deeds c.journal) from to reply

-- What the books stand on, with a directory of charmaps.
abbrev pub ground_of : List ℕ → Booked → Ground
ground_of directory c = record { directory = directory; graph = c.graph; pages = c.pages; log = deeds c.journal }

-- A reply was entered, which is legal next, and the library was asked for exactly what such an opening asks for.
pub record Leaves (directory : List ℕ) (a b : Booked) (old new : Holdings) (caller : ℕ) (from to : Asked) (reply : Reply) : Type 0 where
  pub enters : Enters a b (entry_of caller from to reply)
  pub replies : Replies (ground_of directory a) old new from to reply

-- The journal stays, and so do graph, pages and limit.
pub record Stays (a b : Booked) : Type 0 where
  pub journal : b.journal ≡ a.journal
  pub graph : b.graph ≡ a.graph
  pub pages : b.pages ≡ a.pages
  pub limit : b.limit ≡ a.limit

-- An opening was begun: there is room for it, it can be made, and nothing was entered.
pub record HasBegun (directory : List ℕ) (a b : Booked) (old new : Holdings) (from to : Asked) (o : Begun) : Type 0 where
  pub stays : Stays a b
  pub limit : HasRoom a
  pub room : length (live (deeds b.journal)) + 2 ≤ b.spare
  pub names : (o.from ≡ from) × (o.to ≡ to)
  pub answers : Answers (ground_of directory a) old new from to o.opening

-- Memory was wanting.
abbrev pub is_want : Refusal → Bool
is_want refusals.Memory = true
is_want _ = false

-- Why a pair wasn't opened. A full journal and want of memory leave no entry; every other refusal leaves one, and
-- the library is blamed only where its count of faults rose.
abbrev pub HasRefused : List ℕ → Booked → Booked → Holdings → Holdings → ℕ → Asked → Asked → Refusal → Type 0
HasRefused directory a b old new caller from to (refusals.JournalFull count) =
    RefusesRoom a (refusals.JournalFull count) × Stays a b × (new ≡ old)
HasRefused directory a b old new caller from to refusals.Memory =
    Stays a b × Loses (ground_of directory a) old new from to
HasRefused directory a b old new caller from to why =
    Leaves directory a b old new caller from to (Refused why) × plans.IsBlamed why old new

-- The limit leaves room for an entry and all closings, unless the refusal says that it doesn't.
abbrev pub KeepsLimit : Booked → Refusal → Type 0
KeepsLimit a (refusals.JournalFull count) = Unit {0}
KeepsLimit a _ = HasRoom a
