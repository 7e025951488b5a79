-- What an opening by two good names is answered, and what it asks of the library.
use Rattle.std.specs.Prelude.{◌≡◌, ◌⊎◌, ℕ, ◌≤◌, List, [], ◌++◌, map}
use Rattle.std.specs.Option.{option_map}
use Rattle.code_pairs.specs.Tables.{Tables}
use Rattle.chain_search.specs.declared.chain.Chain.{Chain}
use Rattle.module_graph.specs.Graph.{Shape}
use Rattle.outside.specs.Faults.{Rose}
use Rattle.outside.specs.Moments.{Holdings}
use Rattle.runtime_histories.specs.declared.refusals.Refusal.{Refusal}
use Rattle.runtime_histories.specs.declared.refusals.Refusal.TheVariants as refusals
use Rattle.runtime_histories.specs.Charmaps.{Wanted, wanted}
use Rattle.runtime_histories.specs.Entries.{loaded_of}
use Rattle.runtime_histories.specs.Fetches.{AsksForAll, AsksRefused, paths_of}
use Rattle.runtime_histories.specs.Legal.{AreCounted, Route, IsOpened, IsRefused}
use Rattle.runtime_histories.specs.Places.{places}
use Rattle.runtime_histories.specs.Settings.{Setting, modules_of}
use Rattle.module_counts.specs.Stocks.{lists, places_for}
use Rattle.charmap_library.specs.Fetching.{source_of}
use Rattle.pair_openings.specs.Cuts.{needs, cut_by}
use Rattle.pair_openings.specs.Loading.{Ground, loaded_all}
use Rattle.pair_openings.specs.declared.planning.Opening.{Opening}

-- The setting has the pages of this ground, and its charmaps are those of the library.
pub record IsSettled (s : Setting) (g : Ground) (old : Holdings) : Type 0 where
  pub pages_is : s.pages ≡ g.pages
  pub source_is : s.source ≡ source_of g.directory old

-- A library was asked for some paths more. Its texts stay, and its count of faults doesn't fall.
pub record Asked (old new : Holdings) (more : List (List ℕ)) : Type 0 where
  pub told : new.told ≡ old.told
  pub paths : new.paths ≡ option_map (λ asked. asked ++ more) old.paths
  pub count : old.faults ≤ new.faults

-- The opening is legal next in each such setting, these are the places of what it loads, and the library was
-- asked for exactly what such an opening asks for.
pub record IsPlanned (g : Ground) (old new : Holdings) (from to : List ℕ) (o : Opening) : Type 0 where
  pub more : List (List ℕ)
  pub asked : Asked old new more
  pub legal : (s : Setting) → IsSettled s g old
      → IsOpened s g.graph g.log from to o.chain.ordinals o.chain.cost o.loads.items o.modules × AsksForAll s g.graph g.log from to more
  pub placed : lists o.places.items ≡ places_for g.pages (map loaded_of o.loads.items) (places g.pages g.log)
  pub tables : map (λ l. l.tables) (map loaded_of o.loads.items) ≡ o.tables.items

-- An opening by a chain says these modules and tables, and has these pages, cut by what each module needs. No
-- public clause cites it.
pub record IsArranged (graph : Shape) (chain : Chain) (missing : List ℕ) (tables : List Tables) (pages : List ℕ) (o : Opening) : Type 0 where
  pub chain_is : o.chain ≡ chain
  pub modules : o.modules ≡ modules_of graph.edges chain.ordinals
  pub loads : map loaded_of o.loads.items ≡ loaded_all missing tables
  pub counted : AreCounted o.loads.items
  pub tables_are : o.tables.items ≡ tables
  pub places : lists o.places.items ≡ cut_by pages (needs tables)

-- The library failed in this opening.
abbrev pub IsBlamed : Refusal → Holdings → Holdings → Type 0
IsBlamed (refusals.LibraryFault m w) old new = Rose old.faults new.faults
IsBlamed _ old new = Unit {0}

-- The refusal is legal next in each such setting, the library was asked for exactly what such an opening asks
-- for, and it is blamed only where its count of faults rose.
pub record IsDenied (g : Ground) (old new : Holdings) (from to : List ℕ) (why : Refusal) : Type 0 where
  pub more : List (List ℕ)
  pub asked : Asked old new more
  pub legal : (s : Setting) → IsSettled s g old
      → IsRefused s g.graph g.log from to why × AsksRefused s g.graph g.log from to why more
  pub blamed : IsBlamed why old new

-- Nothing was asked for, or some of the charmaps of what is absent, from the first on.
abbrev pub IsFront : Setting → Ground → List ℕ → List ℕ → List (List ℕ) → Type 0
IsFront s g from to more = (more ≡ []) ⊎ ((route : Route g.graph g.log from to) × (front behind : List Wanted)
    × (wanted g.graph route.absent ≡ front ++ behind) × (more ≡ paths_of s.source front))

-- Memory was wanting: the library was asked for a front of what such an opening asks for.
pub record IsLost (g : Ground) (old new : Holdings) (from to : List ℕ) : Type 0 where
  pub more : List (List ℕ)
  pub asked : Asked old new more
  pub front : (s : Setting) → IsSettled s g old → IsFront s g from to more

-- Why an opening by two good names is refused.
abbrev pub Denies : Ground → Holdings → Holdings → List ℕ → List ℕ → Refusal → Type 0
Denies g old new from to refusals.Memory = IsLost g old new from to
Denies g old new from to why = IsDenied g old new from to why
