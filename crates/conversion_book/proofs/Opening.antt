-- A pair is opened.
use Rattle.std.proofs.Common.{◌≡◌, ℕ, List, [], ◌∷◌, ◌++◌, length, map, sym, refl, ap, ◌∙◌, subst, Some}
use Rattle.std.specs.List.{flat_map}
use Rattle.code_pairs.specs.Tables.{Tables}
use Rattle.names_alias.specs.Aliases.{AliasTable}
use Rattle.chain_search.specs.declared.chain.Chain.{Chain}
use Rattle.charmap_library.specs.Fetching.{source_of}
use Rattle.module_graph.specs.Graph.{Shape}
use Rattle.chain_steps.specs.Chains.{initial}
use Rattle.chain_recipes.specs.Recipes.{recipe_for}
use Rattle.outside.specs.Moments.{Holdings}
use Rattle.runtime_histories.specs.declared.entries.Entry.{Entry}
use Rattle.runtime_histories.specs.declared.entries.Reply.TheVariants.{Refused}
use Rattle.runtime_histories.specs.declared.refusals.Asked.{Asked}
use Rattle.runtime_histories.specs.declared.refusals.Asked.TheVariants.{Good, Bad}
use Rattle.runtime_histories.specs.declared.refusals.Refusal.{Refusal}
use Rattle.runtime_histories.specs.declared.refusals.Refusal.TheVariants.{BadName, NoConversion, LibraryFault, NoCharmap, BadCharmap, StoreFull, JournalFull, Memory}
use Rattle.runtime_histories.specs.Charmaps.{AreTablesOf}
use Rattle.runtime_histories.specs.Deeds.{Loaded}
use Rattle.runtime_histories.specs.Entries.{deeds, loaded_of}
use Rattle.runtime_histories.specs.Legal.{IsAnswered, Next}
use Rattle.runtime_histories.specs.Places.{places}
use Rattle.runtime_histories.specs.Settings.{Leads, Setting, charmaps_at}
use Rattle.module_counts.specs.Counting.{Booked}
use Rattle.module_counts.specs.Stocks.{lists, places_for}
use Rattle.pair_openings.specs.Answers.{Answers, Loses, reply_of}
use Rattle.pair_openings.specs.Entered.{Leaves, HasBegun, HasRefused, IsNextIn, KeepsLimit, ground_of, entry_of}
use Rattle.pair_openings.specs.Knowing.{IsLeastFor}
use Rattle.pair_openings.specs.Loading.{Ground}
use Rattle.pair_openings.specs.declared.begun.Begun.{Begun}
use Rattle.runtime_histories.proofs.Legality.{length-deeds}
use Rattle.pair_openings.proofs.Answering.{lost_late}
use Rattle.pair_openings.proofs.RoomMade.{next_in, ground_same}
use Rattle.conversion_book.specs.ChainTables.{kept, chain_tables}
use Rattle.conversion_book.specs.Inside.{IsBook}
use Rattle.conversion_book.specs.Openings.{Opens, Refuses}
use Rattle.conversion_book.specs.Preparing.{IsEntered, IsLed, still_kept}
use Rattle.conversion_book.specs.Runtime.{Held, Runtime, log_of, setting_of, held_at}
use Rattle.conversion_book.proofs.Fresh.{found_new}
use Rattle.conversion_book.proofs.Booking.{IsOpeningOf, opening_of_names, opening_led, deed_opens, deed_rests, book_stays, book_rests, book_opens, tables_are}

-- The chain of an opening that was begun is the least one between its names.
pub begun_least : (aliases : AliasTable) (directory : List ℕ) (a m : Booked) (old new : Holdings) (from to : Asked) (o : Begun)
    → HasBegun directory a m old new from to o → IsLeastFor a.graph o.from o.to o.opening.chain
begun_least aliases directory a m old new from to o begun =
    let s : Setting = record { first = record { graph = a.graph; aliases = aliases }; source = source_of directory old; pages = a.pages } in
    let asked : Answers (ground_of directory a) old new o.from o.to o.opening =
    subst (λ (z : Asked). Answers (ground_of directory a) old new z o.to o.opening) (sym begun.names.0)
    (subst (λ (z : Asked). Answers (ground_of directory a) old new from z o.opening) (sym begun.names.1) begun.answers) in
    let h = opening_of_names s a.graph (deeds a.journal) o.from o.to o.opening (asked.reply.legal s (record { pages_is = refl; source_is = refl })).0 in
    let least : Leads a.graph h.source h.target o.opening.chain =
    subst (λ (c : Chain). Leads a.graph h.source h.target c) (sym h.opened.chain_is) h.opened.route.leads in
    subst (λ (x : Asked). IsLeastFor a.graph x o.to o.opening.chain) (sym h.from_is)
    (subst (λ (y : Asked). IsLeastFor a.graph (Good h.source) y o.opening.chain) (sym h.to_is) least)

module _ (graph : Shape) (keeps : List Loaded) (r : Runtime) (book : IsBook graph keeps r) where
  abbrev s : Setting
  s = setting_of r

  module _ (m : Booked) (new : Holdings) (from to : Asked) (o : Begun) (begun : HasBegun r.directory r.books m r.library new from to o) where
    -- The opening is by the names that were begun with.
    asked : Answers (ground_of r.directory r.books) r.library new o.from o.to o.opening
    asked = subst (λ (z : Asked). Answers (ground_of r.directory r.books) r.library new z o.to o.opening) (sym begun.names.0)
        (subst (λ (z : Asked). Answers (ground_of r.directory r.books) r.library new from z o.opening) (sym begun.names.1) begun.answers)

    there : Answers (ground_of r.directory m) r.library new o.from o.to o.opening
    there = subst (λ (z : Ground). Answers z r.library new o.from o.to o.opening) (sym (ground_same r.books m m begun.stays r.directory)) asked

    answered : IsAnswered s r.books.graph (log_of r) o.from o.to (reply_of o.opening)
    answered = (asked.reply.legal s (record { pages_is = refl; source_is = refl })).0

    by_names : IsOpeningOf s r.books.graph (log_of r) o.from o.to o.opening
    by_names = opening_of_names s r.books.graph (log_of r) o.from o.to o.opening answered

    -- It is legal next in these books.
    pub begun_next : IsNextIn m o.from o.to (reply_of o.opening)
    begun_next = next_in r.aliases r.directory m r.library new o.from o.to (reply_of o.opening) there.reply

    -- The places are those of what it loads.
    pub begun_placed : lists o.opening.places.items ≡ places_for m.pages (map loaded_of o.opening.loads.items) (places m.pages (deeds m.journal))
    begun_placed = there.placed

    -- Its chain is a least one.
    pub begun_led : IsLed graph o.opening.chain
    begun_led = subst (λ (z : Shape). IsLed z o.opening.chain) book.graph_is (opening_led s r.books.graph (log_of r) o.from o.to o.opening by_names)

    -- The graph is that of the books.
    pub begun_graph : graph ≡ m.graph
    begun_graph = sym book.graph_is ∙ sym begun.stays.graph

    told : new.told ≡ r.library.told
    told = asked.reply.asked.told

    module _ (caller number : ℕ) (b : Booked) (later : List Loaded) (held : List Held) (is : IsEntered m b keeps later r.held held caller o number) where
      abbrev entry : Entry
      entry = entry_of caller o.from o.to (reply_of o.opening)

      abbrev loads : List Loaded
      loads = map loaded_of o.opening.loads.items

      abbrev descriptor : Held
      descriptor = record { number = number; tables = chain_tables (keeps ++ loads) o.opening.modules; machine = record { recipe = is.recipe; states = initial } }

      graph_is : b.graph ≡ r.books.graph
      graph_is = is.enters.graph ∙ begun.stays.graph

      pages_is : b.pages ≡ r.books.pages
      pages_is = is.enters.pages ∙ begun.stays.pages

      journal_is : b.journal ≡ r.books.journal ++ entry ∷ []
      journal_is = is.enters.journal ∙ ap (λ (z : List Entry). z ++ entry ∷ []) begun.stays.journal

      next : Next s r.books.journal entry
      next = answered

      number_is : number ≡ length r.books.journal
      number_is = is.number_is ∙ ap (λ (z : List Entry). length z) begun.stays.journal

      recipe_is : recipe_for r.books.graph o.opening.chain.ordinals ≡ Some is.recipe
      recipe_is = ap (λ (z : Shape). recipe_for z o.opening.chain.ordinals) (sym begun.stays.graph) ∙ is.recipe_is

      later_is : later ≡ still_kept (length graph.kinds) (deeds b.journal) (keeps ++ loads)
      later_is = is.later_is ∙ ap (λ (z : Shape). still_kept (length z.kinds) (deeds b.journal) (keeps ++ loads)) (begun.stays.graph ∙ book.graph_is)

      -- What is kept after the opening.
      pub entered_book : IsBook graph later (record { books = b; aliases = r.aliases; directory = r.directory; library = new; held = held })
      entered_book = subst (λ (z : List Held). IsBook graph later (record { books = b; aliases = r.aliases; directory = r.directory; library = new; held = z })) (sym is.held_is)
          (book_opens graph keeps r book b new entry graph_is pages_is told journal_is next by_names.source by_names.target o.opening by_names.opened
          (deed_opens o.from o.to by_names.source by_names.target (reply_of o.opening) o.opening caller by_names.from_is by_names.to_is)
          is.recipe recipe_is number number_is later later_is)

      -- The new descriptor is found by its number.
      pub entered_found : held_at number held ≡ Some descriptor
      entered_found = ap (held_at number) is.held_is ∙ found_new (log_of r) number r.held descriptor book.numbers (number_is ∙ sym (length-deeds r.books.journal)) refl

      keeps_are : chain_tables (keeps ++ loads) o.opening.modules ≡ chain_tables (kept r.books.pages (log_of r) ++ loads) o.opening.modules
      keeps_are = ap (λ (z : List Loaded). chain_tables (z ++ loads) o.opening.modules) book.keeps_is

      -- What the opening did.
      pub entered_opens : Opens r (record { books = b; aliases = r.aliases; directory = r.directory; library = new; held = held }) caller from to number
      entered_opens = record {
        answer = record { chain = o.opening.chain; modules = o.opening.modules; loads = o.opening.loads.items };
        recipe = is.recipe;
        leaves = subst (λ (z : Asked). Leaves r.directory r.books b r.library new caller z to (reply_of o.opening)) begun.names.0
            (subst (λ (z : Asked). Leaves r.directory r.books b r.library new caller o.from z (reply_of o.opening)) begun.names.1
            (record {
              enters = record { journal = journal_is; graph = graph_is; pages = pages_is; limit = is.enters.limit ∙ begun.stays.limit };
              replies = asked.reply;
            }));
        limit = begun.limit;
        number_is = number_is;
        recipe_is = recipe_is;
        held = is.held_is ∙ ap (λ (z : Tables). r.held ++ record { number = number; tables = z; machine = record { recipe = is.recipe; states = initial } } ∷ []) keeps_are;
        read = subst (λ (z : Tables). AreTablesOf s.source (flat_map (charmaps_at r.books.graph) o.opening.modules) z) keeps_are
            (tables_are graph keeps r book b new entry graph_is pages_is told journal_is next by_names.source by_names.target o.opening by_names.opened);
        same = (refl, refl);
      }

    -- Memory was wanting for what the descriptor needs.
    pub lost_book : IsBook graph keeps (record { books = m; aliases = r.aliases; directory = r.directory; library = new; held = r.held })
    lost_book = book_stays graph keeps r book m new begun.stays told

    pub lost_refuses : (caller : ℕ) → Refuses r (record { books = m; aliases = r.aliases; directory = r.directory; library = new; held = r.held }) caller from to Memory
    lost_refuses caller = record {
      refused = (begun.stays, lost_late (ground_of r.directory r.books) r.library new from to o.opening begun.answers);
      limit = begun.limit;
      held = refl;
      same = (refl, refl);
    }

  module _ (m : Booked) (new : Holdings) (caller : ℕ) (from to : Asked) (why : Refusal) where
    lost_told : (g : Ground) (f t : Asked) → Loses g r.library new f t → new.told ≡ r.library.told
    lost_told g (Good f) (Good t) l = l.asked.told
    lost_told g (Good f) (Bad x) l = l.told
    lost_told g (Bad x) t l = l.told

    left_book : (w : Refusal) → Leaves r.directory r.books m r.library new caller from to (Refused w) → IsBook graph keeps (record { books = m; aliases = r.aliases; directory = r.directory; library = new; held = r.held })
    left_book w l = book_rests graph keeps r book m new (entry_of caller from to (Refused w)) l.enters.graph l.enters.pages l.replies.asked.told l.enters.journal
        (l.replies.legal s (record { pages_is = refl; source_is = refl })).0 (deed_rests from to w)

    refused_by : (w : Refusal) → HasRefused r.directory r.books m r.library new caller from to w → IsBook graph keeps (record { books = m; aliases = r.aliases; directory = r.directory; library = new; held = r.held })
    refused_by (BadName which f) h = left_book (BadName which f) h.0
    refused_by NoConversion h = left_book NoConversion h.0
    refused_by (LibraryFault n w) h = left_book (LibraryFault n w) h.0
    refused_by (NoCharmap n w) h = left_book (NoCharmap n w) h.0
    refused_by (BadCharmap n w f) h = left_book (BadCharmap n w f) h.0
    refused_by (StoreFull n l) h = left_book (StoreFull n l) h.0
    refused_by (JournalFull n) h = book_stays graph keeps r book m new h.1 (ap (λ (z : Holdings). z.told) h.2)
    refused_by Memory h = book_stays graph keeps r book m new h.0 (lost_told (ground_of r.directory r.books) from to h.1)

    -- What is kept after a refusal.
    pub refused_book : HasRefused r.directory r.books m r.library new caller from to why → IsBook graph keeps (record { books = m; aliases = r.aliases; directory = r.directory; library = new; held = r.held })
    refused_book h = refused_by why h

-- A refusal that was begun, as the runtime tells it.
pub refused_refuses : (r : Runtime) (m : Booked) (new : Holdings) (caller : ℕ) (from to : Asked) (why : Refusal) → HasRefused r.directory r.books m r.library new caller from to why → KeepsLimit r.books why
    → Refuses r (record { books = m; aliases = r.aliases; directory = r.directory; library = new; held = r.held }) caller from to why
refused_refuses r m new caller from to why h k = record { refused = h; limit = k; held = refl; same = (refl, refl) }
