-- What an opening that was answered by a chain says. No public clause cites it.
use Rattle.std.specs.Prelude.{◌≡◌, ℕ, ◌≤◌, List, [], ◌∷◌, map, Option, Some, None}
use Rattle.module_graph.specs.Graph.{Shape}
use Rattle.runtime_histories.specs.declared.refusals.Asked.{Asked}
use Rattle.runtime_histories.specs.declared.refusals.Asked.TheVariants.{Good, Bad}
use Rattle.runtime_histories.specs.declared.loads.Load.{Load}
use Rattle.runtime_histories.specs.declared.entries.Reply.{Reply}
use Rattle.runtime_histories.specs.declared.entries.Reply.TheVariants.{Opened, Refused}
use Rattle.runtime_histories.specs.declared.entries.Event.{Event}
use Rattle.runtime_histories.specs.declared.entries.Event.TheVariants.{Opening, Closing}
use Rattle.runtime_histories.specs.declared.entries.Entry.{Entry}
use Rattle.runtime_histories.specs.Deeds.{Pair, Deed, opens, rests, Deeds}
use Rattle.runtime_histories.specs.Places.{free, places}
use Rattle.module_counts.specs.Stocks.{places_for}
use Rattle.runtime_histories.specs.Entries.{loaded_of}
use Rattle.runtime_histories.specs.Settings.{Leads, modules_of}
use Rattle.runtime_histories.specs.Legal.{absent_among, loaded_modules, load_pages}

-- The pair, the chain, the loads and the modules of an opening that was answered by a chain.
pub record Success : Type 0 where
  pub pair : Pair
  pub ordinals : List ℕ
  pub cost : ℕ
  pub loads : List Load
  pub modules : List ℕ

abbrev pub success_by : ℕ → Asked → Asked → Reply → Option Success
success_by g (Good from) (Good to) (Opened chain cost loads modules) = Some (record {
  pair = record { generation = g; from = from; to = to };
  ordinals = chain;
  cost = cost;
  loads = loads;
  modules = modules.value;
})
success_by g (Good from) (Good to) (Refused why) = None
success_by g (Good from) (Bad fault) reply = None
success_by g (Bad fault) to reply = None

-- What an event says, if it is such an opening.
abbrev pub success_of : Event → Option Success
success_of (Opening from to reply) = success_by 0 from to reply
success_of (Closing number) = None

-- The deed of such an opening.
abbrev pub deed_by : Option Success → Deed
deed_by None = rests
deed_by (Some s) = opens s.pair s.modules (map loaded_of s.loads)

-- The event opens a pair, or was refused.
abbrev pub IsOpening : Event → Type 0
IsOpening (Opening from to reply) = Unit {0}
IsOpening (Closing number) = ⊥

-- Such an opening can be taken into books over these deeds: its chain is least, it loads what is absent,
-- there is room, and these are the places.
pub record CanOpen (graph : Shape) (pages : ℕ) (log : Deeds) (s : Success) (ps : List (List ℕ)) : Type 0 where
  pub leads : Leads graph s.pair.from s.pair.to (record { ordinals = s.ordinals; cost = s.cost })
  pub steps : s.modules ≡ modules_of graph.edges s.ordinals
  pub absent : loaded_modules (map loaded_of s.loads) ≡ absent_among log s.modules
  pub room : load_pages (map loaded_of s.loads) ≤ free pages log
  pub places : ps ≡ places_for pages (map loaded_of s.loads) (places pages log)

abbrev pub CanTake : Shape → ℕ → Deeds → Option Success → List (List ℕ) → Type 0
CanTake graph pages log None ps = Unit {0}
CanTake graph pages log (Some s) ps = CanOpen graph pages log s ps

-- The modules of an opening are those of its chain's edges.
abbrev pub IsStepped : Shape → Option Success → Type 0
IsStepped graph None = Unit {0}
IsStepped graph (Some s) = s.modules ≡ modules_of graph.edges s.ordinals

-- The same of all entries.
abbrev pub AreStepped : Shape → List Entry → Type 0
AreStepped graph [] = Unit {0}
AreStepped graph (e ∷ es) = IsStepped graph (success_of e.event) × AreStepped graph es

-- The places of what an opening loads: for each module the lowest free pages.
abbrev pub places_of : ℕ → Deeds → Option Success → List (List ℕ)
places_of pages log None = []
places_of pages log (Some s) = places_for pages (map loaded_of s.loads) (places pages log)
