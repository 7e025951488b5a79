-- What an opening by two good names is answered, by what was found, loaded and arranged.
use Rattle.std.proofs.Common.{◌≡◌, inl, inr, ℕ, suc, ◌<◌, ◌≤◌, Bool, true, false, not, eqb, List, [], ◌∷◌, ◌++◌, length, map, if◌then◌else◌, Option, Some, None, IfSome, refl, sym, ap, ◌∙◌, subst, arith, append-nil}
use Rattle.std.specs.List.{All, filter, cons_option, list_any, find}
use Rattle.std.specs.Option.{option_and_then}
use Rattle.std.proofs.lemmas.List.Elements.{All-nil, All-cons, All-append}
use Rattle.code_pairs.specs.Tables.{Tables}
use Rattle.module_graph.specs.declared.edge.Edge.{Edge}
use Rattle.module_graph.specs.Graph.{Shape, IsGraph}
use Rattle.module_graph.specs.Numbers.{with_new}
use Rattle.module_graph.proofs.GraphLaws.{known_found}
use Rattle.chain_search.specs.declared.chain.Chain.{Chain}
use Rattle.outside.specs.Moments.{Holdings}
use Rattle.runtime_histories.specs.declared.refusals.Refusal.{Refusal}
use Rattle.runtime_histories.specs.declared.refusals.Refusal.TheVariants.{BadName, NoConversion, LibraryFault, NoCharmap, BadCharmap, StoreFull, JournalFull, Memory}
use Rattle.runtime_histories.specs.Charmaps.{Wanted, wanted, text_of, IsFaulty, ComesTo, AreFetched}
use Rattle.runtime_histories.specs.Deeds.{Deeds, Loaded, marks}
use Rattle.runtime_histories.specs.Entries.{loaded_of}
use Rattle.runtime_histories.specs.Fetches.{paths_of, AsksUpTo}
use Rattle.runtime_histories.specs.Legal.{Route, IsStopped, IsFull, loaded_modules, load_pages, AreRead, absent_among}
use Rattle.runtime_histories.specs.Places.{free, places}
use Rattle.runtime_histories.specs.Residence.{resident}
use Rattle.runtime_histories.specs.Settings.{Source, Setting, Leads, LeadsNowhere, module_at, modules_of}
use Rattle.charmap_library.specs.Fetching.{source_of, AskedFor, FetchesModules, StopsAt}
use Rattle.charmap_library.proofs.Fetching.{more_none}
use Rattle.module_counts.specs.Stocks.{places_for}
use Rattle.pair_openings.specs.Cuts.{needs, total, cut_by}
use Rattle.pair_openings.specs.Loading.{Ground, IsOver, IsLoaded, RefusesLoads, loaded_all}
use Rattle.pair_openings.specs.Plans.{IsSettled, Asked, IsArranged, IsPlanned, Denies}
use Rattle.pair_openings.specs.declared.planning.Opening.{Opening}
use Rattle.pair_openings.proofs.Cutting.{load_pages-all, cut_places}

fetched_length : (s : Source) (g : Shape) (ms : List ℕ) (ts : List Tables) → AreFetched s g ms ts → length ms ≡ length ts
fetched_length s g [] [] h = refl
fetched_length s g [] (t ∷ ts) h = absurd h
fetched_length s g (m ∷ ms) [] h = absurd h
fetched_length s g (m ∷ ms) (t ∷ ts) h = let ih = fetched_length s g ms ts h.1 in omega (arith, ih)

-- As many modules were fetched as were asked for.
pub length_fetched : (d : List ℕ) (g : Shape) (old new : Holdings) (ms : List ℕ) (ts : List Tables) → FetchesModules d g old new ms ts → length ms ≡ length ts
length_fetched d g old new ms ts h = fetched_length (source_of d old) g ms ts h.tables_are

read_all : (s : Source) (g : Shape) (ms : List ℕ) (ts : List Tables) → AreFetched s g ms ts → AreRead s g (loaded_all ms ts)
read_all s g [] [] h = tt
read_all s g [] (t ∷ ts) h = absurd h
read_all s g (m ∷ ms) [] h = absurd h
read_all s g (m ∷ ms) (t ∷ ts) h = (h.0, read_all s g ms ts h.1)

modules_all : (ms : List ℕ) (ts : List Tables) → length ms ≡ length ts → loaded_modules (loaded_all ms ts) ≡ ms
modules_all [] ts e = refl
modules_all (m ∷ ms) [] e = absurd (omega (arith, e))
modules_all (m ∷ ms) (t ∷ ts) e = ap (λ (z : List ℕ). m ∷ z) (modules_all ms ts (omega (arith, e)))

tables_all : (ms : List ℕ) (ts : List Tables) → length ms ≡ length ts → map (λ (l : Loaded). l.tables) (loaded_all ms ts) ≡ ts
tables_all [] [] e = refl
tables_all [] (t ∷ ts) e = absurd (omega (arith, e))
tables_all (m ∷ ms) [] e = absurd (omega (arith, e))
tables_all (m ∷ ms) (t ∷ ts) e = ap (λ (z : List Tables). t ∷ z) (tables_all ms ts (omega (arith, e)))

-- The modules of a chain, and those of them that are absent, are the graph's.
module _ (g : Shape) (ok : IsGraph g) where
  abbrev Known : ℕ → Type 0
  Known m = m < length g.kinds

  known_at : (o : ℕ) (e : Option Edge) → find (λ (x : Edge). eqb x.ordinal o) g.edges ≡ e → IfSome (option_and_then (λ (x : Edge). x.«module») e) Known
  known_at o None is = tt
  known_at o (Some e) is = known_found g o e ok is

  cons_known : (o : Option ℕ) (ms : List ℕ) → IfSome o Known → All Known ms → All Known (cons_option o ms)
  cons_known None ms h a = a
  cons_known (Some m) ms h a = All-cons Known m ms h a

  modules_known : (os : List ℕ) → All Known (modules_of g.edges os)
  modules_known [] = All-nil Known
  modules_known (o ∷ os) = cons_known (module_at g.edges o) (modules_of g.edges os) (known_at o (find (λ (x : Edge). eqb x.ordinal o) g.edges) refl) (modules_known os)

  filter_known : (p : ℕ → Bool) (ms : List ℕ) → All Known ms → All Known (filter p ms)
  filter_known p [] h = h
  filter_known p (m ∷ ms) h = go (p m) (filter_known p ms (λ k d fit. h (suc k) d (omega (arith, fit))))
    where
      go : (b : Bool) → All Known (filter p ms) → All Known (if b then m ∷ filter p ms else filter p ms)
      go true rest = All-cons Known m (filter p ms) (h 0 m (omega arith)) rest
      go false rest = rest

  insert_known : (seen : List ℕ) (m : ℕ) → All Known seen → m < length g.kinds → (b : Bool) → All Known (if b then seen else seen ++ m ∷ [])
  insert_known seen m h k true = h
  insert_known seen m h k false = All-append Known seen (m ∷ []) h (All-cons Known m [] k (All-nil Known))

  new_known : (seen ms : List ℕ) → All Known seen → All Known ms → All Known (with_new (λ m k. eqb m k) seen ms)
  new_known seen [] h a = h
  new_known seen (m ∷ ms) h a =
      new_known (if list_any (λ k. eqb m k) seen then seen else seen ++ m ∷ []) ms (insert_known seen m h (a 0 m (omega arith)) (list_any (λ k. eqb m k) seen)) (λ k d fit. a (suc k) d (omega (arith, fit)))

  pub absent_known : (log : Deeds) (os : List ℕ) → All Known (absent_among log (modules_of g.edges os))
  absent_known log os = new_known [] (filter (λ m. not (resident (marks log) m)) (modules_of g.edges os)) (All-nil Known) (filter_known (λ m. not (resident (marks log) m)) (modules_of g.edges os) (modules_known os))

pub asked_none : (h : Holdings) → Asked h h []
asked_none h = record { told = refl; paths = more_none h.paths; count = omega arith }

-- No chain leads from the one name to the other.
pub denied_nowhere : (g : Ground) (h : Holdings) (from to : List ℕ) → LeadsNowhere g.graph from to → Denies g h h from to NoConversion
denied_nowhere g h from to n = record { more = []; asked = asked_none h; legal = (λ s settled. (n, refl)); blamed = tt }

-- Memory was wanting before anything was asked for.
pub lost_first : (g : Ground) (h : Holdings) (from to : List ℕ) → Denies g h h from to Memory
lost_first g h from to = record { more = []; asked = asked_none h; front = (λ s settled. inl refl) }

if_any : {T : Type 0} (X : Type 0) (o : Option T) → X → IfSome o (λ _. X)
if_any X None x = tt
if_any X (Some t) x = x

nothing_needed : (ts : List Tables) → length ts ≡ 0 → total (needs ts) ≡ 0
nothing_needed [] e = refl
nothing_needed (t ∷ ts) e = absurd (omega (arith, e))

module _ (g : Ground) (old new : Holdings) (from to : List ℕ) (chain : Chain) (leads : Leads g.graph from to chain) where
  abbrev absent : List ℕ
  absent = absent_among g.log (modules_of g.graph.edges chain.ordinals)

  abbrev source : Source
  source = source_of g.directory old

  abbrev route : Route g.graph g.log from to
  route = record { chain = chain; leads = leads; modules = modules_of g.graph.edges chain.ordinals; steps = refl; absent = absent; missing = refl }

  asked_all : (ws : List Wanted) → AskedFor g.directory old new ws → Asked old new (paths_of source ws)
  asked_all ws h = record { told = h.told; paths = h.paths; count = h.count }

  settle : (s : Setting) → IsSettled s g old → (P : Source → Type 0) → P source → P s.source
  settle s settled P p = subst P (sym settled.source_is) p

  module _ (m : ℕ) (w : List ℕ) (h : StopsAt g.directory old new (wanted g.graph absent) (record { «module» = m; charmap = w })) where
    stopped : (s : Setting) → IsSettled s g old → IsStopped s g.graph g.log from to m w
    stopped s settled = record { route = route; comes = settle s settled (λ z. ComesTo z (wanted g.graph absent) (record { «module» = m; charmap = w })) h.comes }

    up_to : (s : Setting) → IsSettled s g old → AsksUpTo s g.graph g.log from to (record { «module» = m; charmap = w }) (paths_of source (h.comes.before ++ record { «module» = m; charmap = w } ∷ []))
    up_to s settled = record {
      route = route;
      before = h.comes.before;
      behind = h.comes.behind;
      whole = h.comes.whole;
      some = ap (λ (z : Source). paths_of z (h.comes.before ++ record { «module» = m; charmap = w } ∷ [])) (sym settled.source_is);
    }

  full : (need left : ℕ) → IsOver g old new absent need left → (s : Setting) → IsSettled s g old → IsFull s g.graph g.log from to need left
  full need left h s settled =
      let same = length_fetched g.directory g.graph old new absent h.tables h.fetched in
      record {
        route = route;
        some = λ none. empty_fits h none;
        left_is = h.left_is ∙ ap (λ (n : ℕ). free n g.log) (sym settled.pages_is);
        over = h.over;
        told = if_any _ s.source.texts (
          loaded_all absent h.tables,
          modules_all absent h.tables same,
          settle s settled (λ z. AreRead z g.graph (loaded_all absent h.tables)) (read_all source g.graph absent h.tables h.fetched.tables_are),
          h.need_is ∙ sym (load_pages-all absent h.tables same),
        );
      }
    where
      empty_fits : IsOver g old new absent need left → absent ≡ [] → ⊥
      empty_fits h none =
          let same = length_fetched g.directory g.graph old new absent h.tables h.fetched in
          let long : length absent ≡ 0 = ap length none in
          let zero : total (needs h.tables) ≡ 0 = nothing_needed h.tables (omega (arith, same, long)) in
          let over = h.over in let need_is = h.need_is in omega (arith, zero, over, need_is)

  -- Loading was refused.
  pub denied_loads : (why : Refusal) → RefusesLoads g old new absent why → Denies g old new from to why
  denied_loads (BadName which fault) h = absurd h
  denied_loads NoConversion h = absurd h
  denied_loads (LibraryFault m w) h = record {
    more = paths_of source (h.0.comes.before ++ record { «module» = m; charmap = w } ∷ []);
    asked = asked_all (h.0.comes.before ++ record { «module» = m; charmap = w } ∷ []) h.0.asked;
    legal = λ s settled. (stopped m w h.0 s settled, up_to m w h.0 s settled);
    blamed = h.1;
  }
  denied_loads (NoCharmap m w) h = record {
    more = paths_of source (h.0.comes.before ++ record { «module» = m; charmap = w } ∷ []);
    asked = asked_all (h.0.comes.before ++ record { «module» = m; charmap = w } ∷ []) h.0.asked;
    legal = λ s settled. ((stopped m w h.0 s settled, settle s settled (λ z. IfSome z.texts (λ shelf. text_of z shelf w ≡ None)) h.1), up_to m w h.0 s settled);
    blamed = tt;
  }
  denied_loads (BadCharmap m w f) h = record {
    more = paths_of source (h.0.comes.before ++ record { «module» = m; charmap = w } ∷ []);
    asked = asked_all (h.0.comes.before ++ record { «module» = m; charmap = w } ∷ []) h.0.asked;
    legal = λ s settled. ((stopped m w h.0 s settled, settle s settled (λ z. IfSome z.texts (λ shelf. IsFaulty (text_of z shelf w) f)) h.1), up_to m w h.0 s settled);
    blamed = tt;
  }
  denied_loads (StoreFull need left) h = record {
    more = paths_of source (wanted g.graph absent);
    asked = asked_all (wanted g.graph absent) h.fetched.asked;
    legal = λ s settled. (full need left h s settled, record { route = route; all = ap (λ (z : Source). paths_of z (wanted g.graph absent)) (sym settled.source_is) });
    blamed = tt;
  }
  denied_loads (JournalFull n) h = absurd h
  denied_loads Memory h = record {
    more = paths_of source h.front;
    asked = asked_all h.front h.asked;
    front = λ s settled. inr (route, h.front, h.behind, h.whole, ap (λ (z : Source). paths_of z h.front) (sym settled.source_is));
  }

  module _ (tables : List Tables) (pages : List ℕ) (h : IsLoaded g old new absent tables pages) where
    -- Memory was wanting when all was loaded.
    pub lost_loaded : Denies g old new from to Memory
    lost_loaded = record {
      more = paths_of source (wanted g.graph absent);
      asked = asked_all (wanted g.graph absent) h.fetched.asked;
      front = λ s settled. inr (route, wanted g.graph absent, [], sym (append-nil (wanted g.graph absent)), ap (λ (z : Source). paths_of z (wanted g.graph absent)) (sym settled.source_is));
    }

    -- The opening can be made.
    pub planned : (o : Opening) → IsArranged g.graph chain absent tables pages o → IsPlanned g old new from to o
    planned o a =
        let same = length_fetched g.directory g.graph old new absent tables h.fetched in
        record {
          more = paths_of source (wanted g.graph absent);
          asked = asked_all (wanted g.graph absent) h.fetched.asked;
          legal = λ s settled. (
            record {
              route = route;
              chain_is = a.chain_is;
              modules_is = a.modules;
              absent_is = ap loaded_modules a.loads ∙ modules_all absent tables same;
              counted = a.counted;
              read = subst (AreRead s.source g.graph) (sym a.loads) (settle s settled (λ z. AreRead z g.graph (loaded_all absent tables)) (read_all source g.graph absent tables h.fetched.tables_are));
              room = room_for o a s settled same;
            },
            record { route = route; all = ap (λ (z : Source). paths_of z (wanted g.graph absent)) (sym settled.source_is) },
          );
          placed = a.places ∙ (ap (λ (z : List ℕ). cut_by z (needs tables)) h.pages_are ∙ (cut_places g.pages (places g.pages g.log) absent tables same ∙ ap (λ (z : List Loaded). places_for g.pages z (places g.pages g.log)) (sym a.loads)));
          tables = ap (map (λ (l : Loaded). l.tables)) a.loads ∙ (tables_all absent tables same ∙ sym a.tables_are);
        }
      where
        room_for : (o : Opening) → IsArranged g.graph chain absent tables pages o → (s : Setting) → IsSettled s g old → length absent ≡ length tables → load_pages (map loaded_of o.loads.items) ≤ free s.pages g.log
        room_for o a s settled same =
            let n : load_pages (map loaded_of o.loads.items) ≡ total (needs tables) = ap load_pages a.loads ∙ load_pages-all absent tables same in
            let f : free s.pages g.log ≡ free g.pages g.log = ap (λ (z : ℕ). free z g.log) settled.pages_is in
            let r = h.room in omega (arith, n, f, r)
