-- Which histories are legal in a setting.
use Rattle.std.specs.Prelude.{◌≡◌, ◌≢◌, ℕ, ◌+◌, ◌<◌, ◌≤◌, ◌==◌, not, List, [], ◌∷◌, ◌++◌, map, filter, None, IfSome}
use Rattle.names_alias.specs.Builtin.{internal_name}
use Rattle.names_alias.specs.declared.fault.NameFault.{NameFault}
use Rattle.names_alias.specs.declared.fault.NameFault.TheVariants.{Suffix, Empty, LongName, Reserved}
use Rattle.module_graph.specs.Graph.{Shape}
use Rattle.module_graph.specs.Numbers.{with_new}
use Rattle.chain_search.specs.declared.chain.Chain.{Chain}
use Rattle.runtime_histories.specs.declared.refusals.Asked.{Asked}
use Rattle.runtime_histories.specs.declared.refusals.Asked.TheVariants.{Good, Bad}
use Rattle.runtime_histories.specs.declared.refusals.End.TheVariants.{From, To}
use Rattle.runtime_histories.specs.declared.refusals.Refusal.{Refusal}
use Rattle.runtime_histories.specs.declared.refusals.Refusal.TheVariants.{BadName, NoConversion, LibraryFault, NoCharmap, BadCharmap, StoreFull, JournalFull, Memory}
use Rattle.runtime_histories.specs.declared.loads.Load.{Load}
use Rattle.runtime_histories.specs.declared.entries.Reply.{Reply}
use Rattle.runtime_histories.specs.declared.entries.Reply.TheVariants.{Opened, Refused}
use Rattle.runtime_histories.specs.declared.entries.Event.{Event}
use Rattle.runtime_histories.specs.declared.entries.Event.TheVariants.{Opening, Closing}
use Rattle.runtime_histories.specs.declared.entries.Entry.{Entry}
use Rattle.runtime_histories.specs.Deeds.{Deeds, Loaded, marks, IsLive}
use Rattle.runtime_histories.specs.Residence.{resident}
use Rattle.runtime_histories.specs.Places.{pages_for, free}
use Rattle.runtime_histories.specs.Entries.{loaded_of, deeds}
use Rattle.runtime_histories.specs.Settings.{Generation, Source, Setting, Leads, LeadsNowhere, modules_of, charmaps_at}
use Rattle.runtime_histories.specs.Charmaps.{wanted, text_of, IsFaulty, AreTablesOf, ComesTo}

-- The generation of that number after some entries: all are the first one.
abbrev pub generation_at : Setting → List Entry → ℕ → Generation
generation_at s before g = s.first

-- The distinct modules among these that aren't resident, in the order of their first appearance.
abbrev pub absent_among : Deeds → List ℕ → List ℕ
absent_among log modules = with_new (λ m k. m == k) [] (filter (λ m. not (resident (marks log) m)) modules)

-- The numbers of the modules of loads.
abbrev pub loaded_modules : List Loaded → List ℕ
loaded_modules loads = map (λ l. l.«module») loads

-- The pages that loads need.
abbrev pub load_pages : List Loaded → ℕ
load_pages [] = 0
load_pages (l ∷ ls) = pages_for l.tables + load_pages ls

-- Each load says how many pages its tables need.
abbrev pub AreCounted : List Load → Type 0
AreCounted [] = Unit {0}
AreCounted (l ∷ ls) = (l.pages ≡ pages_for l.tables.value) × AreCounted ls

-- The tables of each load are those of its module's charmaps.
abbrev pub AreRead : Source → Shape → List Loaded → Type 0
AreRead s graph [] = Unit {0}
AreRead s graph (l ∷ ls) = AreTablesOf s (charmaps_at graph l.«module») l.tables × AreRead s graph ls

-- What the names of an opening lead to after some deeds: a least chain, the modules of its steps, and
-- those of them that are absent.
pub record Route (graph : Shape) (log : Deeds) (from to : List ℕ) : Type 0 where
  pub chain : Chain
  pub leads : Leads graph from to chain
  pub modules : List ℕ
  pub steps : modules ≡ modules_of graph.edges chain.ordinals
  pub absent : List ℕ
  pub missing : absent ≡ absent_among log modules

-- The opening was answered by the chain, and by loading what was absent, for which there was room.
pub record IsOpened (s : Setting) (graph : Shape) (log : Deeds) (from to ordinals : List ℕ) (cost : ℕ)
    (loads : List Load) (modules : List ℕ) : Type 0 where
  pub route : Route graph log from to
  pub chain_is : record { ordinals = ordinals; cost = cost } ≡ route.chain
  pub modules_is : modules ≡ route.modules
  pub absent_is : loaded_modules (map loaded_of loads) ≡ route.absent
  pub counted : AreCounted loads
  pub read : AreRead s.source graph (map loaded_of loads)
  pub room : load_pages (map loaded_of loads) ≤ free s.pages log

-- A charmap of an absent module was come to.
pub record IsStopped (s : Setting) (graph : Shape) (log : Deeds) (from to : List ℕ) (m : ℕ)
    (word : List ℕ) : Type 0 where
  pub route : Route graph log from to
  pub comes : ComesTo s.source (wanted graph route.absent) (record { «module» = m; charmap = word })

-- The store has too few pages for what is absent.
pub record IsFull (s : Setting) (graph : Shape) (log : Deeds) (from to : List ℕ) (need left : ℕ) : Type 0 where
  pub route : Route graph log from to
  pub some : route.absent ≢ []
  pub left_is : left ≡ free s.pages log
  pub over : left < need
  pub told : IfSome s.source.texts (λ _. (loads : List Loaded) × (loaded_modules loads ≡ route.absent)
      × AreRead s.source graph loads × (need ≡ load_pages loads))

-- When each refusal of an opening by two good names is legal. A bad name and want of room or of memory
-- are none.
abbrev pub IsRefused : Setting → Shape → Deeds → List ℕ → List ℕ → Refusal → Type 0
IsRefused s graph log from to (BadName which fault) = ⊥
IsRefused s graph log from to NoConversion = LeadsNowhere graph from to
IsRefused s graph log from to (LibraryFault m word) = IsStopped s graph log from to m word
IsRefused s graph log from to (NoCharmap m word) = IsStopped s graph log from to m word
    × IfSome s.source.texts (λ shelf. text_of s.source shelf word ≡ None)
IsRefused s graph log from to (BadCharmap m word fault) = IsStopped s graph log from to m word
    × IfSome s.source.texts (λ shelf. IsFaulty (text_of s.source shelf word) fault)
IsRefused s graph log from to (StoreFull need left) = IsFull s graph log from to need left
IsRefused s graph log from to (JournalFull count) = ⊥
IsRefused s graph log from to Memory = ⊥

-- When each reply to two good names is legal.
abbrev pub IsReplied : Setting → Shape → Deeds → List ℕ → List ℕ → Reply → Type 0
IsReplied s graph log from to (Opened chain cost loads modules) =
    IsOpened s graph log from to chain cost loads modules.value
IsReplied s graph log from to (Refused why) = IsRefused s graph log from to why

-- A good name isn't that of the set between all others.
abbrev pub IsGood : List ℕ → Type 0
IsGood name = name ≢ internal_name

-- A name that is too long has more than 64 bytes.
abbrev pub IsFault : NameFault → Type 0
IsFault (Suffix at) = Unit {0}
IsFault Empty = Unit {0}
IsFault (LongName len) = 64 < len
IsFault Reserved = Unit {0}

-- When a reply to two names as asked is legal: a bad name is told, From before To.
abbrev pub IsAnswered : Setting → Shape → Deeds → Asked → Asked → Reply → Type 0
IsAnswered s graph log (Bad fault) (Bad other) reply =
    IsFault fault × IsFault other × (reply ≡ Refused (BadName From fault))
IsAnswered s graph log (Bad fault) (Good to) reply =
    IsFault fault × IsGood to × (reply ≡ Refused (BadName From fault))
IsAnswered s graph log (Good from) (Bad fault) reply =
    IsGood from × IsFault fault × (reply ≡ Refused (BadName To fault))
IsAnswered s graph log (Good from) (Good to) reply =
    IsGood from × IsGood to × IsReplied s graph log from to reply

-- When an event of a caller is legal next.
abbrev pub IsNext : Setting → List Entry → ℕ → Event → Type 0
IsNext s before caller (Opening from to reply) =
    IsAnswered s (generation_at s before 0).graph (deeds before) from to reply
IsNext s before caller (Closing number) = IsLive (deeds before) caller number

-- The entry is legal next.
abbrev pub Next : Setting → List Entry → Entry → Type 0
Next s before e = IsNext s before e.caller e.event

-- Each entry is legal next after those before it, where others stand before them all.
abbrev pub LegalFrom : Setting → List Entry → List Entry → Type 0
LegalFrom s before [] = Unit {0}
LegalFrom s before (e ∷ es) = Next s before e × LegalFrom s (before ++ e ∷ []) es

-- Each entry is legal next after those before it.
abbrev pub Legal : Setting → List Entry → Type 0
Legal s entries = LegalFrom s [] entries
