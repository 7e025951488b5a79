-- What the bookkeeping keeps. No public clause cites it but for `Booked` and `Follows`.
use Rattle.std.specs.Prelude.{◌≡◌, ℕ, ◌+◌, ◌*◌, ◌^◌, ◌<◌, ◌≤◌, List, map, length, vec_capacity, Some}
use Rattle.module_graph.specs.Graph.{Shape}
use Rattle.runtime_histories.specs.declared.entries.Entry.{Entry}
use Rattle.module_counts.specs.declared.lives.Live.{Live}
use Rattle.module_counts.specs.declared.stock.Stock.{Stock}
use Rattle.std.specs.List.{AllByRecursion}
use Rattle.std.specs.Prelude.{true}
use Rattle.runtime_histories.specs.Residence.{resident}
use Rattle.runtime_histories.specs.Deeds.{Deeds, Desc, live, marks}
use Rattle.module_counts.specs.Tracking.{IsTracking, IsWithin}
use Rattle.runtime_histories.specs.Places.{places, free}
use Rattle.runtime_histories.specs.declared.refusals.Refusal.{Refusal}
use Rattle.runtime_histories.specs.declared.refusals.Refusal.TheVariants.{JournalFull, StoreFull, Memory}
use Rattle.module_counts.specs.Stocks.{seat_of, kept_seats, IsHomes, placed_modules, IsTidy}
use Rattle.runtime_histories.specs.Settings.{Setting, module_at}
use Rattle.runtime_histories.specs.Sound.{IsSound}
use Rattle.runtime_histories.specs.Entries.{deeds}
use Rattle.runtime_histories.specs.Legal.{Next}
use Rattle.module_counts.specs.Admitting.{IsOpening, success_of, places_of, AreStepped}

-- A live descriptor as it is kept.
abbrev pub shown : Desc → Live
shown d = record {
  number = d.number;
  caller = d.caller;
  generation = d.pair.generation;
  from = d.pair.from;
  to = d.pair.to;
}

-- Each edge's module has a counter.
abbrev pub IsKnown : Shape → ℕ → Type 0
IsKnown graph modules = (o m : ℕ) → module_at graph.edges o ≡ Some m → m < modules

-- The stock stands for deeds.
pub record IsStock (graph : Shape) (s : Stock) (log : Deeds) : Type 0 where
  pub tracking : IsTracking s.ages (marks log)
  pub within : IsWithin s.ages (length log * 2 ^ 64)
  pub live_is : s.live.items ≡ map shown (live log)
  pub slots_is : s.live.slots ≡ length log
  pub placed_is : kept_seats s.ages s.homes ≡ map seat_of (places s.pages log)
  pub homes : IsHomes (length s.ages.held.items) s.homes
  pub sound : IsSound graph log
  pub tidy : IsTidy (length s.ages.held.items) s.pages (places s.pages log)
  pub known : IsKnown graph (length s.ages.held.items)
  pub fresh : AllByRecursion (λ m. resident (marks log) m ≡ true) (placed_modules (places s.pages log))
  pub room : length s.ages.held.items ≤ vec_capacity s.homes.order

-- The bookkeeping as callers see it: the graph, the pages of the store, the journal and its limit, and for how
-- many entries more there is room.
pub record Booked : Type 0 where
  pub graph : Shape
  pub pages : ℕ
  pub limit : ℕ
  pub journal : List Entry
  pub spare : ℕ

-- The setting is of this graph and of these pages.
pub record IsSettingOf (c : Booked) (s : Setting) : Type 0 where
  pub graph_is : s.first.graph ≡ c.graph
  pub pages_is : s.pages ≡ c.pages

-- An opening is legal next in some such setting, with these places for what it loads.
pub record Follows (c : Booked) (e : Entry) (ps : List (List ℕ)) : Type 0 where
  pub opening : IsOpening e.event
  pub setting : Setting
  pub of : IsSettingOf c setting
  pub next : Next setting c.journal e
  pub placed : ps ≡ places_of c.pages (deeds c.journal) (success_of e.event)

-- The limit leaves room for an entry and all closings, its own too.
abbrev pub HasRoom : Booked → Type 0
HasRoom c = length c.journal + length (live (deeds c.journal)) + 2 ≤ c.limit

-- Room was refused: the journal and all closings would go past the limit, or memory was wanting.
abbrev pub RefusesRoom : Booked → Refusal → Type 0
RefusesRoom c (JournalFull count) = (count ≡ length c.journal)
    × (c.limit < length c.journal + length (live (deeds c.journal)) + 2)
RefusesRoom c Memory = HasRoom c
RefusesRoom c _ = ⊥

-- Pages were refused: fewer are free, or memory was wanting.
abbrev pub RefusesPages : Booked → ℕ → Refusal → Type 0
RefusesPages c need (StoreFull n left) = (n ≡ need) × (left ≡ free c.pages (deeds c.journal)) × (left < need)
RefusesPages c need Memory = need ≤ free c.pages (deeds c.journal)
RefusesPages c need _ = ⊥

-- What stands for a journal: the stock, room for all closings, and the limit.
pub record IsCounting (graph : Shape) (s : Stock) (limit : ℕ) (journal : List Entry) (spare : ℕ) : Type 0 where
  pub stock : IsStock graph s (deeds journal)
  pub steps : AreStepped graph journal
  pub few : length journal + spare ≤ limit
  pub closable : length s.live.items ≤ spare
  pub modules : length s.ages.held.items ≡ length graph.kinds
