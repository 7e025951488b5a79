-- What an opening that was begun needs besides its entry.
use Rattle.std.specs.Prelude.{◌≡◌, ℕ, true, false, List, map, Some, length}
use Rattle.std.specs.List.{AllByRecursion}
use Rattle.std.specs.declared.vec.Vec.{Vec}
use Rattle.std.specs.declared.alloc.Global.{Global}
use Rattle.code_table.specs.declared.layout.Layout.{Layout}
use Rattle.module_graph.specs.Graph.{Shape}
use Rattle.code_pairs.specs.Tables.{HasPoints}
use Rattle.chain_recipes.specs.Recipes.{recipe_for}
use Rattle.conversion_book.specs.Preparing.{IsLed}
use Rattle.module_counts.specs.Stocks.{Once, lists, places_for}
use Rattle.pair_openings.specs.Answers.{reply_of}
use Rattle.pair_openings.specs.declared.begun.Begun.{Begun}
use Rattle.pair_openings.specs.declared.planning.Opening.{Opening}
use Rattle.runtime_histories.specs.declared.entries.Entry.{Entry}
use Rattle.runtime_histories.specs.Deeds.{Loaded, marks}
use Rattle.runtime_histories.specs.Entries.{deeds, loaded_of}
use Rattle.runtime_histories.specs.Legal.{loaded_modules}
use Rattle.runtime_histories.specs.Places.{Placed, among, pages_for, place_loads, places}
use Rattle.runtime_histories.specs.Residence.{resident}
use Rattle.runtime_room.specs.Desks.{IsLaidOut}
use Rattle.runtime_room.specs.Published.{pair_opened, with_pair}
use Rattle.runtime_room.specs.declared.desk.Desk.{Desk}
use Rattle.desk_openings.specs.Layouts.{KeepsLayouts, AreKept}
use Rattle.desk_openings.specs.Parts.{AreThere, parts_for, ArePinsOf}
use Rattle.desk_openings.specs.declared.preparing.Ready.{Ready}

-- What an opening loads.
abbrev pub loads_of : Opening → List Loaded
loads_of o = map loaded_of o.loads.items

-- The resident modules, and those that an opening loads, with their pages in a store of so many.
abbrev pub all_places : ℕ → List Entry → Opening → List Placed
all_places pages journal o = place_loads pages (loads_of o) (places pages (deeds journal))

-- An opening can be prepared: its chain is a least one, each module of it is resident or is loaded, none of
-- both, each has as many pages as its tables need, and the parts of resident images are kept.
pub record CanPrepare (graph : Shape) (pages : ℕ) (journal : List Entry)
    (layouts : List (Vec Layout Global)) (o : Opening) : Type 0 where
  pub led : IsLed graph o.chain
  pub tables : map (λ l. l.tables) (loads_of o) ≡ o.tables.items
  pub placed : lists o.places.items ≡ places_for pages (loads_of o) (places pages (deeds journal))
  pub once : Once (loaded_modules (loads_of o))
  pub absent : AllByRecursion (λ (x : Placed). among x.«module» (loaded_modules (loads_of o)) ≡ false)
      (places pages (deeds journal))
  pub there : AreThere (all_places pages journal o) o.modules
  pub resident : AllByRecursion (λ m. among m (loaded_modules (loads_of o)) ≡ false
      → resident (marks (deeds journal)) m ≡ true) o.modules
  pub fits : AllByRecursion (λ (x : Placed). length x.pages ≡ pages_for x.tables) (all_places pages journal o)
  pub laid : AllByRecursion (IsLaidOut layouts) (places pages (deeds journal))

module _ {L : Type 0} where
  -- The parts of the images of what isn't loaded stay, and so does all else, but for what is published.
  pub record LaysOut (a b : Desk L) (modules : List ℕ) : Type 0 where
    pub counts : b.counts ≡ a.counts
    pub graph : b.graph ≡ a.graph
    pub aliases : b.aliases ≡ a.aliases
    pub library : b.library ≡ a.library
    pub directory : b.directory ≡ a.directory
    pub first : b.first ≡ a.first
    pub layouts : KeepsLayouts a.layouts.items b.layouts.items modules

  -- The opening has its pins and its recipe, its tables are of points, the parts of their images are kept, and its
  -- pair is published.
  pub record IsReady (a b : Desk L) (begun : Begun) (r : Ready) : Type 0 where
    pub from : r.from ≡ begun.from
    pub to : r.to ≡ begun.to
    pub opening : r.opening ≡ begun.opening
    pub pins : ArePinsOf
        (parts_for (all_places a.counts.pages a.counts.journal begun.opening) begun.opening.modules)
        r.pins.items
    pub recipe : recipe_for a.graph begun.opening.chain.ordinals ≡ Some r.recipe
    pub kept : AreKept b.layouts.items (loads_of begun.opening)
    pub points : AllByRecursion (AllByRecursion HasPoints) begun.opening.tables.items
    pub published : b.cache ≡ with_pair a.cache
        (pair_opened begun.from begun.to (reply_of begun.opening))
