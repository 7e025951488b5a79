-- An opening that was begun can be prepared.
use Rattle.std.proofs.Common.{◌≡◌, ℕ, ◌+◌, ◌-◌, ◌≤◌, eqb, eqb-true, Bool, true, false, ◌||◌, List, [], ◌∷◌, ◌++◌, length, map, sym, refl, ap, ◌∙◌, subst, arith, inl, inr, ⊎_elim, true≢false, string_bytes}
use Rattle.std.specs.List.{AllByRecursion}
use Rattle.std.specs.declared.vec.Vec.{Vec}
use Rattle.std.specs.declared.alloc.Global.{Global}
use Rattle.code_pairs.specs.Tables.{HasPoints}
use Rattle.code_table.specs.declared.layout.Layout.{Layout}
use Rattle.chain_search.specs.declared.chain.Chain.{Chain}
use Rattle.derivation_cache.specs.Known.{Known}
use Rattle.module_graph.specs.Graph.{Shape}
use Rattle.history_core.specs.History.{History}
use Rattle.outside.specs.Moments.{Holdings}
use Rattle.runtime_histories.specs.declared.entries.Entry.{Entry}
use Rattle.runtime_histories.specs.declared.refusals.Asked.{Asked}
use Rattle.runtime_histories.specs.declared.refusals.Asked.TheVariants.{Good}
use Rattle.runtime_histories.specs.Deeds.{Deeds, Loaded, marks, IsIn}
use Rattle.runtime_histories.specs.Entries.{deeds}
use Rattle.runtime_histories.specs.Legal.{IsAnswered, absent_among, loaded_modules, load_pages}
use Rattle.runtime_histories.specs.Places.{Placed, among, pages_for, all_needs, placed_at, place_loads, places}
use Rattle.runtime_histories.specs.Residence.{resident}
use Rattle.runtime_histories.specs.Settings.{Setting, Leads}
use Rattle.runtime_histories.proofs.Pinning.{absent_not_resident}
use Rattle.module_counts.specs.Stocks.{Once, lists, places_for}
use Rattle.module_counts.proofs.Stocking.{once_absent}
use Rattle.module_counts.proofs.Tidying.{length-lowest}
use Rattle.pair_openings.specs.Answers.{reply_of}
use Rattle.pair_openings.specs.Entered.{HasBegun}
use Rattle.pair_openings.specs.Knowing.{IsLeastFor}
use Rattle.pair_openings.specs.declared.begun.Begun.{Begun}
use Rattle.conversion_book.proofs.Booking.{IsOpeningOf, opening_of_names, opening_led}
use Rattle.runtime_room.specs.Apart.{IsOrdered, AreGood, all_join, good_loads}
use Rattle.runtime_room.specs.Desks.{IsDeskOf, ground_of}
use Rattle.runtime_room.specs.Grounds.{Ground}
use Rattle.runtime_room.specs.Held.{ordered}
use Rattle.runtime_room.specs.Rooms.{IsHistory, IsOfPoints, entries_of, deeds_of}
use Rattle.runtime_room.specs.declared.desk.Desk.{Desk}
use Rattle.runtime_room.specs.declared.desk.Noted.{Noted}
use Rattle.runtime_room.proofs.Publishing.{published_graph}
use Rattle.desk_openings.specs.Beginnings.{KeepsDesk}
use Rattle.desk_openings.specs.Parts.{place_of, IsThere, AreThere}
use Rattle.desk_openings.specs.Preparing.{loads_of, CanPrepare}
use Rattle.desk_openings.proofs.Lists.{cases, absent_there, all_resident, AllResident}
use Rattle.desk_openings.proofs.LiveOnes.{module_among, all_from}
use Rattle.desk_openings.proofs.Residents.{opens_there, legal_places}

-- What the histories of a desk stand on.
abbrev pub ground_at : {L : Type 0} → (L → Holdings) → Desk L → Ground
ground_at holdings desk = ground_of holdings desk

-- A desk stands for a legal history, and an opening was begun over it.
pub record IsBegun {L : Type 0} (holdings : L → Holdings) (a b : Desk L) (log : History Noted) (from to : Asked) (o : Begun) : Type 0 where
  pub legal : IsHistory (ground_at holdings a) log
  pub stands : IsDeskOf holdings a log
  pub keeps : KeepsDesk holdings a b
  pub begun : HasBegun (string_bytes a.directory) a.counts b.counts (holdings a.library) (holdings b.library) from to o

among_in : (m : ℕ) (xs : List ℕ) → among m xs ≡ true → IsIn m xs
among_in m [] e = absurd (true≢false (sym e))
among_in m (x ∷ xs) e = go (eqb x m) refl e (among_in m xs)
  where
    go : (b : Bool) → eqb x m ≡ b → (b || among m xs) ≡ true → (among m xs ≡ true → IsIn m xs) → IsIn m (x ∷ xs)
    go true f e rec = inl (eqb-true x m f)
    go false f e rec = inr (rec e)

-- What is resident isn't absent.
none_absent : (log : Deeds) (ms out : List ℕ) (xs : List Placed) → out ≡ absent_among log ms → AllResident log xs → AllByRecursion (λ (x : Placed). among x.«module» out ≡ false) xs
none_absent log ms out [] is all = tt
none_absent log ms out (x ∷ xs) is all =
    (⊎_elim (λ e. absurd (true≢false (sym all.0 ∙ absent_not_resident log ms x.«module» (among_in x.«module» (absent_among log ms) (ap (among x.«module») (sym is) ∙ e))))) (λ e. e) (cases (among x.«module» out)), none_absent log ms out xs is all.1)

needs-append : (xs : List Placed) (y : Placed) → all_needs (xs ++ y ∷ []) ≡ all_needs xs + pages_for y.tables
needs-append [] y = omega arith
needs-append (x ∷ xs) y = let h = needs-append xs y in omega arith

-- Loads for which there is room get as many pages as their tables need.
fits_loads : (pages : ℕ) (ls : List Loaded) (held : List Placed) → AllByRecursion (λ (x : Placed). length x.pages ≡ pages_for x.tables) held → all_needs held + load_pages ls ≤ pages
    → AllByRecursion (λ (x : Placed). length x.pages ≡ pages_for x.tables) (place_loads pages ls held)
fits_loads pages [] held fits room = fits
fits_loads pages (l ∷ ls) held fits room =
    let y : Placed = placed_at pages held l in let e = needs-append held y in
    fits_loads pages ls (held ++ y ∷ []) (all_join (λ (x : Placed). length x.pages ≡ pages_for x.tables) held (y ∷ []) fits (length-lowest pages (pages_for l.tables) held fits (omega arith), tt)) (omega arith)

room_is : (pages used need : ℕ) → used ≤ pages → need ≤ pages - used → used + need ≤ pages
room_is pages used need a b = omega arith

points_of : (ls : List Loaded) → AllByRecursion (AllByRecursion HasPoints) (map (λ (l : Loaded). l.tables) ls) → AllByRecursion IsOfPoints ls
points_of [] h = tt
points_of (l ∷ ls) h = (h.0, points_of ls h.1)

module _ {L : Type 0} (holdings : L → Holdings) (a b : Desk L) (log : History Noted) (from to : Asked) (o : Begun) (is : IsBegun holdings a b log from to o) where
  abbrev s : Setting
  s = (ground_at holdings a).setting

  abbrev loads : List Loaded
  loads = loads_of o.opening

  abbrev pub held : List Placed
  held = places a.counts.pages (deeds_of log)

  deeds_is : deeds a.counts.journal ≡ deeds_of log
  deeds_is = ap deeds is.stands.journal

  -- Its reply is legal next.
  pub answered : IsAnswered s s.first.graph (deeds_of log) from to (reply_of o.opening)
  answered = subst (λ (z : Deeds). IsAnswered s a.graph z from to (reply_of o.opening)) deeds_is
      (subst (λ (g : Shape). IsAnswered s g (deeds a.counts.journal) from to (reply_of o.opening)) is.stands.graph
      ((is.begun.answers.reply.legal s (record { pages_is = refl; source_is = refl })).0))

  -- It is one by two good names.
  pub by_names : IsOpeningOf s s.first.graph (deeds_of log) from to o.opening
  by_names = opening_of_names s s.first.graph (deeds_of log) from to o.opening answered

  absent_is : loaded_modules loads ≡ absent_among (deeds_of log) o.opening.modules
  absent_is = let h = by_names.opened in h.absent_is ∙ (h.route.missing ∙ ap (absent_among (deeds_of log)) (sym h.modules_is))

  pub in_order : IsOrdered a.counts.pages held
  in_order = ordered (ground_at holdings a) log is.legal

  pub some_room : all_needs held + load_pages loads ≤ a.counts.pages
  some_room = room_is a.counts.pages (all_needs held) (load_pages loads) in_order.within by_names.opened.room

  pub are_placed : lists o.opening.places.items ≡ places_for a.counts.pages loads held
  are_placed = is.begun.answers.placed ∙ ap (λ (z : Deeds). places_for a.counts.pages loads (places a.counts.pages z)) deeds_is

  pub are_absent : AllByRecursion (λ (x : Placed). among x.«module» (loaded_modules loads) ≡ false) held
  are_absent = none_absent (deeds_of log) o.opening.modules (loaded_modules loads) held absent_is (all_resident a.counts.pages (deeds_of log))

  pub are_there : AreThere (place_loads a.counts.pages loads held) o.opening.modules
  are_there = all_from (λ m. among m o.opening.modules ≡ true) (λ m. IsThere (place_of (place_loads a.counts.pages loads held) m)) o.opening.modules
      (λ m e. opens_there a.counts.pages (deeds_of log) o.opening.modules loads (legal_places s (entries_of log) is.legal.legal) absent_is m (inl e)) (module_among o.opening.modules)

  are_resident : AllByRecursion (λ (m : ℕ). among m (loaded_modules loads) ≡ false → resident (marks (deeds_of log)) m ≡ true) o.opening.modules
  are_resident = all_from (λ m. among m o.opening.modules ≡ true) (λ m. among m (loaded_modules loads) ≡ false → resident (marks (deeds_of log)) m ≡ true) o.opening.modules
      (λ m e out. ⊎_elim (λ z. z) (λ z. absurd (true≢false (sym (ap (among m) absent_is ∙ absent_there (deeds_of log) m o.opening.modules e z) ∙ out))) (cases (resident (marks (deeds_of log)) m)))
      (module_among o.opening.modules)

  -- It can be prepared.
  pub can_prepare : CanPrepare b.graph b.counts.pages b.counts.journal b.layouts.items o.opening
  can_prepare =
      let here : CanPrepare a.graph a.counts.pages (entries_of log) a.layouts.items o.opening = record {
        led = opening_led s s.first.graph (deeds_of log) from to o.opening by_names;
        tables = is.begun.answers.tables;
        placed = are_placed;
        once = subst Once (sym absent_is) (once_absent (deeds_of log) o.opening.modules);
        absent = are_absent;
        there = are_there;
        resident = are_resident;
        fits = fits_loads a.counts.pages loads held in_order.fits some_room;
        laid = is.stands.layouts;
      } in
      subst (λ (g : Shape). CanPrepare g b.counts.pages b.counts.journal b.layouts.items o.opening) (sym is.keeps.graph)
      (subst (λ (p : ℕ). CanPrepare a.graph p b.counts.journal b.layouts.items o.opening) (sym is.begun.stays.pages)
      (subst (λ (j : List Entry). CanPrepare a.graph a.counts.pages j b.layouts.items o.opening) (sym (is.begun.stays.journal ∙ is.stands.journal))
      (subst (λ (v : Vec (Vec Layout Global) Global). CanPrepare a.graph a.counts.pages (entries_of log) v.items o.opening) (sym is.keeps.layouts) here)))

  -- Its chain can be published.
  pub can_publish : IsLeastFor b.cache.graph o.from o.to o.opening.chain
  can_publish =
      let graph_is : b.cache.graph ≡ a.graph = ap (λ (k : Known). k.graph) (is.keeps.cache ∙ is.stands.cache) ∙ published_graph a.graph log in
      let h = by_names in
      let least : Leads a.graph h.source h.target o.opening.chain = subst (λ (c : Chain). Leads a.graph h.source h.target c) (sym h.opened.chain_is) h.opened.route.leads in
      subst (λ (g : Shape). IsLeastFor g o.from o.to o.opening.chain) (sym graph_is)
      (subst (λ (x : Asked). IsLeastFor a.graph x o.to o.opening.chain) (sym (is.begun.names.0 ∙ h.from_is))
      (subst (λ (y : Asked). IsLeastFor a.graph (Good h.source) y o.opening.chain) (sym (is.begun.names.1 ∙ h.to_is)) least))

  -- Its tables are good where they are of points.
  pub are_of_points : AllByRecursion (AllByRecursion HasPoints) o.opening.tables.items → AllByRecursion IsOfPoints loads
  are_of_points points = points_of loads (subst (AllByRecursion (AllByRecursion HasPoints)) (sym is.begun.answers.tables) points)

  pub are_good : AllByRecursion (AllByRecursion HasPoints) o.opening.tables.items → AreGood loads
  are_good points = good_loads s.source s.first.graph loads by_names.opened.read (are_of_points points)
