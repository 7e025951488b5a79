-- An opening that was prepared is entered.
use Rattle.std.proofs.Common.{◌≡◌, ◌⊎◌, ℕ, ◌+◌, ◌<◌, ◌≤◌, true, false, List, [], ◌∷◌, ◌++◌, length, Some, sym, refl, ap, ◌∙◌, subst, arith, string_bytes, suc}
use Rattle.std.specs.List.{flat_map, AllByRecursion}
use Rattle.std.specs.declared.vec.Vec.{Vec}
use Rattle.std.specs.declared.alloc.Global.{Global}
use Rattle.code_pairs.specs.Tables.{Tables}
use Rattle.code_table.specs.declared.layout.Layout.{Layout}
use Rattle.chain_recipes.specs.Recipes.{recipe_for}
use Rattle.chain_steps.specs.Chains.{CanRun}
use Rattle.chain_steps.specs.declared.recipe.Recipe.{Recipe}
use Rattle.module_graph.specs.Graph.{Shape}
use Rattle.history_core.specs.History.{History}
use Rattle.history_core.specs.Rule.{last_fill}
use Rattle.outside.specs.Faults.{RoseBy}
use Rattle.outside.specs.Moments.{Holdings}
use Rattle.page_store.specs.declared.pin.Pin.{Pin}
use Rattle.runtime_histories.specs.declared.entries.Entry.{Entry}
use Rattle.runtime_histories.specs.declared.refusals.Asked.{Asked}
use Rattle.runtime_histories.specs.Charmaps.{AreTablesOf}
use Rattle.runtime_histories.specs.Deeds.{act, opens, Deeds, Desc, Pair, Loaded, marks, openings, desc_at, closed, IsIn}
use Rattle.runtime_histories.specs.Entries.{deeds, deed_of}
use Rattle.runtime_histories.specs.Fair.{IsBalanced}
use Rattle.runtime_histories.specs.Fetches.{Asks}
use Rattle.runtime_histories.specs.Legal.{Next, loaded_modules}
use Rattle.runtime_histories.specs.Pins.{live_of}
use Rattle.runtime_histories.specs.Places.{Placed, among, place_loads, places}
use Rattle.runtime_histories.specs.Residence.{resident}
use Rattle.runtime_histories.specs.Settings.{Setting, modules_of, charmaps_at}
use Rattle.runtime_histories.proofs.Legality.{sound_legal, length-deeds}
use Rattle.runtime_histories.proofs.Pinning.{places-snoc}
use Rattle.module_counts.specs.Stocks.{lists}
use Rattle.pair_openings.specs.Answers.{reply_of}
use Rattle.pair_openings.specs.Entered.{entry_of}
use Rattle.pair_openings.specs.declared.begun.Begun.{Begun}
use Rattle.conversion_book.proofs.Booking.{IsOpeningOf, deed_opens}
use Rattle.conversion_book.proofs.Charting.{chain_runs}
use Rattle.runtime_room.specs.Apart.{AreGood, all_join, all_filter}
use Rattle.runtime_room.specs.Desks.{IsDeskOf, IsLaidOut, blame, blamed_in}
use Rattle.runtime_room.specs.Grounds.{Ground}
use Rattle.runtime_room.specs.Published.{pair_opened, pair_in, with_pair, published}
use Rattle.runtime_room.specs.Puts.{IsPut, all_parts, Fit, joined}
use Rattle.runtime_room.specs.Rooms.{IsHistory, LoadsPoints, entries_of, deeds_of, pinned}
use Rattle.runtime_room.specs.declared.desk.Desk.{Desk}
use Rattle.runtime_room.specs.declared.desk.Noted.{Noted}
use Rattle.runtime_room.proofs.Acts.{entries-snoc, deeds_of-snoc, history_next, covered_entry, blame-snoc}
use Rattle.runtime_room.proofs.Asking.{asked_as, asked_next}
use Rattle.runtime_room.proofs.Covering.{DeedPut, AreNew, new_fit, new_pages, tables_in}
use Rattle.runtime_room.proofs.Publishing.{published-snoc}
use Rattle.desk_openings.specs.Entering.{EntersOn}
use Rattle.desk_openings.specs.Layouts.{KeepsLayouts, AreKept}
use Rattle.desk_openings.specs.Parts.{parts_for, tables_for, AreThere, ArePinsOf}
use Rattle.desk_openings.specs.Preparing.{loads_of, all_places, LaysOut, IsReady}
use Rattle.desk_openings.specs.declared.preparing.Ready.{Ready}
use Rattle.desk_openings.proofs.Answered.{ground_at, IsBegun, held, answered, by_names, in_order, some_room, are_placed, are_absent, are_there, are_of_points, are_good}
use Rattle.desk_openings.proofs.Asked.{begun_asks}
use Rattle.desk_openings.proofs.LiveOnes.{new_desc, new_live, new_count, new_found, closed_same, module_among, all_from, live_resident, HaveSame, places_same, parts_same, there_same}
use Rattle.desk_openings.proofs.Texts.{legal_read, chain_read}

-- An opening that was begun over a desk has been prepared.
pub record IsPrepared {L : Type 0} (holdings : L → Holdings) (a b c : Desk L) (log : History Noted) (from to : Asked) (o : Begun) (r : Ready) : Type 0 where
  pub first : IsBegun holdings a b log from to o
  pub laid : LaysOut b c (loaded_modules (loads_of o.opening))
  pub ready : IsReady b c o r

-- It has been entered.
pub record IsEntered {L : Type 0} (holdings : L → Holdings) (a b c d : Desk L) (log : History Noted) (from to : Asked) (o : Begun) (r : Ready) (n : ℕ) (e : Noted) : Type 0 where
  pub prepared : IsPrepared holdings a b c log from to o r
  pub enters : EntersOn c d e
  pub entry : e.entry.value ≡ entry_of n from to (reply_of o.opening)

-- A number of faults that doesn't fall.
pub rose_more : (n old a b : ℕ) → a ≤ b → RoseBy n old a → RoseBy n old b
rose_more n old a b le h = omega (arith, le, h)

pub laid_kept : (old new : List (Vec Layout Global)) (ms : List ℕ) (xs : List Placed) → KeepsLayouts old new ms → AllByRecursion (λ (x : Placed). among x.«module» ms ≡ false) xs → AllByRecursion (IsLaidOut old) xs → AllByRecursion (IsLaidOut new) xs
laid_kept old new ms [] k out all = tt
laid_kept old new ms (x ∷ xs) k out all = (k x.«module» out.0 ∙ all.0, laid_kept old new ms xs k out.1 all.1)

laid_loads : (pages : ℕ) (layouts : List (Vec Layout Global)) (ls : List Loaded) (xs : List Placed) → AreKept layouts ls → AllByRecursion (IsLaidOut layouts) xs → AllByRecursion (IsLaidOut layouts) (place_loads pages ls xs)
laid_loads pages layouts [] xs kept all = all
laid_loads pages layouts (l ∷ ls) xs kept all = laid_loads pages layouts ls _ kept.1 (all_join (IsLaidOut layouts) xs _ all (kept.0, tt))

module _ {L : Type 0} (holdings : L → Holdings) (a b c : Desk L) (log : History Noted) (from to : Asked) (o : Begun) (r : Ready) (is : IsPrepared holdings a b c log from to o r) where
  abbrev loads : List Loaded
  loads = loads_of o.opening

  good : AreGood loads
  good = are_good holdings a b log from to o is.first is.ready.points

  -- The pages of what is loaded are free ones.
  pub put_new : AreNew a.counts.pages (held holdings a b log from to o is.first) (joined (lists o.opening.places.items))
  put_new = subst (λ (z : List (List ℕ)). AreNew a.counts.pages (held holdings a b log from to o is.first) (joined z)) (sym (are_placed holdings a b log from to o is.first))
      (new_pages a.counts.pages loads (held holdings a b log from to o is.first) (in_order holdings a b log from to o is.first) (some_room holdings a b log from to o is.first) good)

  -- They are as many as the tables need.
  pub put_fit : Fit o.opening.tables.items (lists o.opening.places.items)
  put_fit = subst (λ (z : List Tables). Fit z (lists o.opening.places.items)) is.first.begun.answers.tables
      (subst (Fit (tables_in loads)) (sym (are_placed holdings a b log from to o is.first))
      (new_fit a.counts.pages loads (held holdings a b log from to o is.first) (in_order holdings a b log from to o is.first) (some_room holdings a b log from to o is.first) good))

-- A history has as many entries.
pub length-entries : (log : History Noted) → length (entries_of log) ≡ length log
length-entries [] = refl
length-entries (x ∷ xs) = ap suc (length-entries xs)

-- What a descriptor that was opened has.
pub record HasOpened (gr : Ground) (log : History Noted) (n number : ℕ) (modules : List ℕ) (ps : List Pin) (recipe : Recipe) : Type 0 where
  pub desc : Desc
  pub live : IsIn desc (live_of n (deeds_of log))
  pub found : desc_at number (openings 0 (deeds_of log)) ≡ Some desc
  pub modules_is : desc.modules ≡ modules
  pub there : AreThere (places gr.setting.pages (deeds_of log)) modules
  pub pins : ArePinsOf (parts_for (places gr.setting.pages (deeds_of log)) modules) ps
  pub read : AreTablesOf gr.setting.source (flat_map (charmaps_at gr.setting.first.graph) modules) (tables_for (places gr.setting.pages (deeds_of log)) modules)
  pub range : CanRun (tables_for (places gr.setting.pages (deeds_of log)) modules) recipe

none_more : (x : ℕ) → x + 0 ≡ x
none_more x = omega arith

module _ {L : Type 0} (holdings : L → Holdings) (a b c d : Desk L) (log : History Noted) (from to : Asked) (o : Begun) (r : Ready) (n : ℕ) (e : Noted)
    (is : IsEntered holdings a b c d log from to o r n e) where
  abbrev s : Setting
  s = (ground_at holdings a).setting

  abbrev all : List Loaded
  all = loads_of o.opening

  abbrev ms : List ℕ
  ms = o.opening.modules

  abbrev after : History Noted
  after = log ++ (n, e) ∷ []

  first : IsBegun holdings a b log from to o
  first = is.prepared.first

  named : IsOpeningOf s s.first.graph (deeds_of log) from to o.opening
  named = by_names holdings a b log from to o first

  abbrev pair : Pair
  pair = record { generation = 0; from = named.source; to = named.target }

  abbrev here : List Placed
  here = places a.counts.pages (deeds_of log)

  deed : deed_of e.entry.value.event ≡ opens pair ms all
  deed = ap (λ (v : Entry). deed_of v.event) is.entry ∙ deed_opens from to named.source named.target (reply_of o.opening) o.opening n named.from_is named.to_is

  caller_is : e.entry.value.caller ≡ n
  caller_is = ap (λ (v : Entry). v.caller) is.entry

  deeds_after : deeds_of after ≡ deeds_of log ++ act n (opens pair ms all) ∷ []
  deeds_after = deeds_of-snoc log n e ∙ (λ i. deeds_of log ++ act (caller_is i) (deed i) ∷ [])

  next_is : Next s (entries_of log) e.entry.value
  next_is = subst (Next s (entries_of log)) (sym is.entry) (answered holdings a b log from to o first)

  points_is : LoadsPoints (deed_of e.entry.value.event)
  points_is = subst LoadsPoints (sym deed) (are_of_points holdings a b log from to o first is.prepared.ready.points)

  -- The history with its entry is one.
  pub opening_legal : IsHistory (ground_at holdings a) after
  opening_legal = history_next (ground_at holdings a) log n e first.legal next_is caller_is points_is

  -- What is pinned after it was pinned before, or was put into its place.
  pub opening_covered : (fills : List (ℕ × ℕ)) → AllByRecursion (IsPut fills) (all_parts o.opening.tables.items (lists o.opening.places.items))
      → (m p w : ℕ) → pinned (ground_at holdings a) after m p ≡ Some w → ((k : ℕ) × (pinned (ground_at holdings a) log k p ≡ Some w)) ⊎ (last_fill p fills ≡ Some w)
  opening_covered fills put = covered_entry (ground_at holdings a) log n e fills first.legal next_is points_is
      (subst (DeedPut a.counts.pages here fills) (sym deed)
      (subst (λ (z : List (List ℕ)). AllByRecursion (IsPut fills) (all_parts (tables_in all) z)) (are_placed holdings a b log from to o first)
      (subst (λ (z : List Tables). AllByRecursion (IsPut fills) (all_parts z (lists o.opening.places.items))) (sym first.begun.answers.tables) put)))

  pages_is : d.counts.pages ≡ a.counts.pages
  pages_is = is.enters.books.1 ∙ (ap (λ k. k.pages) is.prepared.laid.counts ∙ first.begun.stays.pages)

  laid_all : AllByRecursion (IsLaidOut d.layouts.items) (place_loads a.counts.pages all here)
  laid_all = subst (λ (v : Vec (Vec Layout Global) Global). AllByRecursion (IsLaidOut v.items) (place_loads a.counts.pages all here)) (sym is.enters.layouts)
      (laid_loads a.counts.pages c.layouts.items all here is.prepared.ready.kept
      (laid_kept b.layouts.items c.layouts.items (loaded_modules all) here is.prepared.laid.layouts (are_absent holdings a b log from to o first)
      (subst (λ (v : Vec (Vec Layout Global) Global). AllByRecursion (IsLaidOut v.items) here) (sym first.keeps.layouts) first.stands.layouts)))

  laid_after : AllByRecursion (IsLaidOut d.layouts.items) (places a.counts.pages (deeds_of after))
  laid_after = subst (AllByRecursion (IsLaidOut d.layouts.items)) (sym (ap (places a.counts.pages) deeds_after ∙ places-snoc a.counts.pages (deeds_of log) (act n (opens pair ms all))))
      (all_filter (IsLaidOut d.layouts.items) (λ (x : Placed). resident (marks (deeds_of log ++ act n (opens pair ms all) ∷ [])) x.«module») (place_loads a.counts.pages all here) laid_all)

  blame_is : blame (entries_of after) ≡ blame (entries_of log)
  blame_is = ap blame (entries-snoc log n e) ∙ (blame-snoc (entries_of log) e.entry.value
      ∙ (ap (λ (v : Entry). blame (entries_of log) + blamed_in v.event) is.entry ∙ none_more (blame (entries_of log))))

  -- It stands on what it stood on.
  pub opening_ground : ground_at holdings d ≡ ground_at holdings a
  opening_ground = λ i. record {
    setting = record {
      first = record { graph = (is.enters.graph ∙ (is.prepared.laid.graph ∙ first.keeps.graph)) i; aliases = ap (λ f. f.value) (is.enters.aliases ∙ (is.prepared.laid.aliases ∙ first.keeps.aliases)) i };
      source = record {
        directory = ap string_bytes (is.enters.directory ∙ (is.prepared.laid.directory ∙ first.keeps.directory)) i;
        texts = (ap (λ l. (holdings l).told) (is.enters.library ∙ is.prepared.laid.library) ∙ first.keeps.told) i;
      };
      pages = pages_is i;
    };
    limit = (is.enters.books.2 ∙ (ap (λ k. k.limit) is.prepared.laid.counts ∙ first.begun.stays.limit)) i;
    handed = ap (λ f. holdings f.value) (is.enters.first ∙ (is.prepared.laid.first ∙ first.keeps.first)) i;
  }

  -- The library was asked for what the opening asks for.
  asks_is : Asks s (entries_of log) e.entry.value.event first.begun.answers.reply.more
  asks_is = subst (λ (v : Entry). Asks s (entries_of log) v.event first.begun.answers.reply.more) (sym is.entry) (begun_asks holdings a b log from to o first)

  -- Its pair is published.
  cache_is : d.cache ≡ published d.graph after
  cache_is =
      let graph_is : d.graph ≡ a.graph = is.enters.graph ∙ (is.prepared.laid.graph ∙ first.keeps.graph) in
      let before : b.cache ≡ published d.graph log = first.keeps.cache ∙ (first.stands.cache ∙ ap (λ (g : Shape). published g log) (sym graph_is)) in
      is.enters.cache ∙ (is.prepared.ready.published
      ∙ ((λ i. with_pair (before i) (pair_opened (first.begun.names.0 i) (first.begun.names.1 i) (reply_of o.opening)))
      ∙ (ap (λ (v : Entry). with_pair (published d.graph log) (pair_in v.event)) (sym is.entry) ∙ sym (published-snoc d.graph log n e))))

  -- The desk stands for the history with its entry.
  pub opening_stands : IsDeskOf holdings d after
  opening_stands = record {
    journal = is.enters.journal ∙ (ap (λ (j : List Entry). j ++ e.entry.value ∷ []) (ap (λ k. k.journal) is.prepared.laid.counts ∙ (first.begun.stays.journal ∙ first.stands.journal)) ∙ sym (entries-snoc log n e));
    graph = is.enters.books.0 ∙ (ap (λ k. k.graph) is.prepared.laid.counts ∙ (first.begun.stays.graph ∙ (first.stands.graph ∙ (sym first.keeps.graph ∙ (sym is.prepared.laid.graph ∙ sym is.enters.graph)))));
    layouts = subst (λ (p : ℕ). AllByRecursion (IsLaidOut d.layouts.items) (places p (deeds_of after))) (sym pages_is) laid_after;
    cache = cache_is;
    asked = asked_as s (ground_at holdings d).setting (entries_of log ++ e.entry.value ∷ []) (entries_of after) (holdings a.first.value) (holdings b.library) (holdings d.first.value) (holdings d.library)
        (ap (λ (g : Ground). g.setting) (sym opening_ground)) (sym (entries-snoc log n e)) (ap (λ f. holdings f.value) (sym (is.enters.first ∙ (is.prepared.laid.first ∙ first.keeps.first))))
        (ap holdings (sym (is.enters.library ∙ is.prepared.laid.library)))
        (asked_next s (entries_of log) e.entry.value (holdings a.first.value) (holdings a.library) (holdings b.library) first.begun.answers.reply.more first.stands.asked first.begun.answers.reply.asked asks_is);
    blamed = subst (λ (k : ℕ). RoseBy k (holdings d.first.value).faults (holdings d.library).faults) (sym blame_is)
        (subst (λ v. RoseBy (blame (entries_of log)) (holdings v.value).faults (holdings d.library).faults) (sym (is.enters.first ∙ (is.prepared.laid.first ∙ first.keeps.first)))
        (subst (λ l. RoseBy (blame (entries_of log)) (holdings a.first.value).faults (holdings l).faults) (sym (is.enters.library ∙ is.prepared.laid.library))
        (rose_more (blame (entries_of log)) (holdings a.first.value).faults (holdings a.library).faults (holdings b.library).faults first.keeps.count first.stands.blamed)));
  }

  -- It closes nothing.
  pub opening_closes : (k : ℕ) → closed k (deeds_of after) ≡ closed k (deeds_of log)
  opening_closes k = ap (closed k) deeds_after ∙ closed_same (deeds_of log) (act n (opens pair ms all)) k refl

  balanced : IsBalanced (deeds_of log)
  balanced = (sound_legal s (entries_of log) first.legal.legal).balanced

  -- Its caller has one live descriptor more.
  pub opening_count : length (live_of n (deeds_of after)) ≡ length (live_of n (deeds_of log)) + 1
  opening_count = ap (λ (z : Deeds). length (live_of n z)) deeds_after ∙ new_count (deeds_of log) balanced n pair ms all

  abbrev desc : Desc
  desc = new_desc (deeds_of log) balanced n pair ms all

  live_after : IsIn desc (live_of n (deeds_of after))
  live_after = subst (λ (z : Deeds). IsIn desc (live_of n z)) (sym deeds_after) (new_live (deeds_of log) balanced n pair ms all)

  same_places : 0 < n → HaveSame (place_loads a.counts.pages all here) (places a.counts.pages (deeds_of after)) ms
  same_places some = subst (λ (z : Deeds). HaveSame (place_loads a.counts.pages all here) (places a.counts.pages z) ms) (sym deeds_after)
      (places_same a.counts.pages (deeds_of log) (act n (opens pair ms all)) ms
      (all_from (λ m. among m ms ≡ true) (λ m. resident (marks (deeds_of log ++ act n (opens pair ms all) ∷ [])) m ≡ true) ms
      (λ m k. ap (λ (z : Deeds). resident (marks z) m) (sym deeds_after) ∙ live_resident (deeds_of after) (sound_legal s (entries_of after) opening_legal.legal).balanced n desc some live_after m k) (module_among ms)))

  all_same : all_places b.counts.pages b.counts.journal o.opening ≡ place_loads a.counts.pages all here
  all_same = λ i. place_loads (first.begun.stays.pages i) all (places (first.begun.stays.pages i) (deeds ((first.begun.stays.journal ∙ first.stands.journal) i)))

  steps_are : ms ≡ modules_of s.first.graph.edges o.opening.chain.ordinals
  steps_are = let h = named.opened in h.modules_is ∙ (h.route.steps ∙ ap (λ z. modules_of s.first.graph.edges z.ordinals) (sym h.chain_is))

  -- What its descriptor has.
  pub has_opened : 0 < n → (number : ℕ) → number ≡ length log → HasOpened (ground_at holdings a) after n number ms r.pins.items r.recipe
  has_opened some number at =
      let same = same_places some in
      let now : List Placed = places a.counts.pages (deeds_of after) in
      let parts = parts_same (place_loads a.counts.pages all here) now ms same in
      let there = there_same (place_loads a.counts.pages all here) now ms same (are_there holdings a b log from to o first) in
      let read = chain_read s.source s.first.graph now ms (legal_read s (entries_of after) opening_legal.legal) there in
      record {
        desc = desc;
        live = live_after;
        found = ap (λ (z : Deeds). desc_at number (openings 0 z)) deeds_after ∙ new_found (deeds_of log) balanced n pair ms all number (at ∙ length_is);
        modules_is = refl;
        there = there;
        pins = subst (λ hs. ArePinsOf hs r.pins.items) (ap (λ (z : List Placed). parts_for z ms) all_same ∙ sym parts) is.prepared.ready.pins;
        read = read;
        range = (chain_runs s.source s.first.graph o.opening.chain.ordinals (tables_for now ms) r.recipe
            (subst (λ (z : List ℕ). AreTablesOf s.source (flat_map (charmaps_at s.first.graph) z) (tables_for now ms)) steps_are read)
            (ap (λ (g : Shape). recipe_for g o.opening.chain.ordinals) (sym first.keeps.graph) ∙ is.prepared.ready.recipe)).0;
      }
    where
      length_is : length log ≡ length (deeds_of log)
      length_is = sym (length-deeds (entries_of log) ∙ length-entries log)
