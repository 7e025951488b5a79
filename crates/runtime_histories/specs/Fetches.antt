-- What openings ask of the library.
use Rattle.std.specs.Prelude.{◌≡◌, ℕ, List, [], ◌∷◌, ◌++◌, map}
use Rattle.module_graph.specs.Graph.{Shape}
use Rattle.runtime_histories.specs.declared.refusals.Asked.{Asked}
use Rattle.runtime_histories.specs.declared.refusals.Asked.TheVariants.{Good, Bad}
use Rattle.runtime_histories.specs.declared.refusals.Refusal.{Refusal}
use Rattle.runtime_histories.specs.declared.refusals.Refusal.TheVariants.{BadName, NoConversion, LibraryFault, NoCharmap, BadCharmap, StoreFull, JournalFull, Memory}
use Rattle.runtime_histories.specs.declared.entries.Reply.{Reply}
use Rattle.runtime_histories.specs.declared.entries.Reply.TheVariants.{Opened, Refused}
use Rattle.runtime_histories.specs.declared.entries.Event.{Event}
use Rattle.runtime_histories.specs.declared.entries.Event.TheVariants.{Opening, Closing}
use Rattle.runtime_histories.specs.declared.entries.Entry.{Entry}
use Rattle.runtime_histories.specs.Deeds.{Deeds}
use Rattle.runtime_histories.specs.Entries.{deeds}
use Rattle.runtime_histories.specs.Settings.{Source, Setting, path_of}
use Rattle.runtime_histories.specs.Charmaps.{Wanted, wanted, words_of}
use Rattle.runtime_histories.specs.Legal.{Route, generation_at}

-- The paths of charmaps.
abbrev pub paths_of : Source → List Wanted → List (List ℕ)
paths_of s ws = map (path_of s.directory) (words_of ws)

-- All charmaps of what is absent were asked for.
pub record AsksForAll (s : Setting) (graph : Shape) (log : Deeds) (from to : List ℕ)
    (asked : List (List ℕ)) : Type 0 where
  pub route : Route graph log from to
  pub all : asked ≡ paths_of s.source (wanted graph route.absent)

-- The charmaps of what is absent were asked for, up to one and with it.
pub record AsksUpTo (s : Setting) (graph : Shape) (log : Deeds) (from to : List ℕ) (at : Wanted)
    (asked : List (List ℕ)) : Type 0 where
  pub route : Route graph log from to
  pub before : List Wanted
  pub behind : List Wanted
  pub whole : wanted graph route.absent ≡ before ++ at ∷ behind
  pub some : asked ≡ paths_of s.source (before ++ at ∷ [])

-- What an opening asked for that was refused.
abbrev pub AsksRefused : Setting → Shape → Deeds → List ℕ → List ℕ → Refusal → List (List ℕ) → Type 0
AsksRefused s graph log from to (BadName which fault) asked = asked ≡ []
AsksRefused s graph log from to NoConversion asked = asked ≡ []
AsksRefused s graph log from to (LibraryFault m word) asked =
    AsksUpTo s graph log from to (record { «module» = m; charmap = word }) asked
AsksRefused s graph log from to (NoCharmap m word) asked =
    AsksUpTo s graph log from to (record { «module» = m; charmap = word }) asked
AsksRefused s graph log from to (BadCharmap m word fault) asked =
    AsksUpTo s graph log from to (record { «module» = m; charmap = word }) asked
AsksRefused s graph log from to (StoreFull need left) asked = AsksForAll s graph log from to asked
AsksRefused s graph log from to (JournalFull count) asked = asked ≡ []
AsksRefused s graph log from to Memory asked = asked ≡ []

-- What an opening asked for by its reply.
abbrev pub AsksFor : Setting → Shape → Deeds → Asked → Asked → Reply → List (List ℕ) → Type 0
AsksFor s graph log (Bad fault) to reply asked = asked ≡ []
AsksFor s graph log (Good from) (Bad fault) reply asked = asked ≡ []
AsksFor s graph log (Good from) (Good to) (Opened chain cost loads modules) asked =
    AsksForAll s graph log from to asked
AsksFor s graph log (Good from) (Good to) (Refused why) asked = AsksRefused s graph log from to why asked

-- What an event asked for.
abbrev pub Asks : Setting → List Entry → Event → List (List ℕ) → Type 0
Asks s before (Opening from to reply) asked =
    AsksFor s (generation_at s before 0).graph (deeds before) from to reply asked
Asks s before (Closing number) asked = asked ≡ []

-- What entries that follow others asked for, one after another.
abbrev pub FetchesFrom : Setting → List Entry → List Entry → List (List ℕ) → Type 0
FetchesFrom s before [] asked = asked ≡ []
FetchesFrom s before (e ∷ es) asked = (now later : List (List ℕ)) × (asked ≡ now ++ later)
    × Asks s before e.event now × FetchesFrom s (before ++ e ∷ []) es later

-- What the entries of a history asked for.
abbrev pub Fetches : Setting → List Entry → List (List ℕ) → Type 0
Fetches s entries asked = FetchesFrom s [] entries asked

-- An opening at this point could have asked for this before it gave up: some of the charmaps of
-- what is absent, from the first on.
pub record CouldAsk (s : Setting) (before : List Entry) (asked : List (List ℕ)) : Type 0 where
  pub from : List ℕ
  pub to : List ℕ
  pub route : Route (generation_at s before 0).graph (deeds before) from to
  pub front : List Wanted
  pub behind : List Wanted
  pub whole : wanted (generation_at s before 0).graph route.absent ≡ front ++ behind
  pub some : asked ≡ paths_of s.source front

-- Several openings at this point gave up.
abbrev pub GaveUp : Setting → List Entry → List (List (List ℕ)) → Type 0
GaveUp s before [] = Unit {0}
GaveUp s before (a ∷ more) = CouldAsk s before a × GaveUp s before more

abbrev pub joined : List (List (List ℕ)) → List (List ℕ)
joined [] = []
joined (a ∷ more) = a ++ joined more

-- The same with openings between the entries and at the end that gave up for want of memory.
abbrev pub LooseFrom : Setting → List Entry → List Entry → List (List ℕ) → Type 0
LooseFrom s before [] asked = (lost : List (List (List ℕ))) × GaveUp s before lost × (asked ≡ joined lost)
LooseFrom s before (e ∷ es) asked = (lost : List (List (List ℕ))) × GaveUp s before lost
    × (now later : List (List ℕ)) × (asked ≡ joined lost ++ now ++ later)
    × Asks s before e.event now × LooseFrom s (before ++ e ∷ []) es later

abbrev pub FetchesLoose : Setting → List Entry → List (List ℕ) → Type 0
FetchesLoose s entries asked = LooseFrom s [] entries asked
