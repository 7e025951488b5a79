-- What a runtime keeps, from one call to the next.
use Rattle.std.proofs.Common.{◌≡◌, ℕ, suc, ◌<◌, List, [], ◌∷◌, ◌++◌, length, map, sym, refl, ap, ◌∙◌, subst, true≢false, Some, Option, arith}
use Rattle.std.specs.List.{All, AllByRecursion, flat_map, cons_option}
use Rattle.pair_openings.proofs.Deciding.{absent_known}
use Rattle.module_graph.specs.Graph.{Shape, IsGraph}
use Rattle.chain_search.specs.declared.chain.Chain.{Chain}
use Rattle.chain_steps.specs.declared.recipe.Recipe.{Recipe}
use Rattle.chain_steps.specs.Chains.{initial}
use Rattle.chain_steps.specs.Machine.{Machine}
use Rattle.chain_recipes.specs.Recipes.{recipe_for}
use Rattle.outside.specs.Moments.{Holdings}
use Rattle.runtime_histories.specs.declared.entries.Entry.{Entry}
use Rattle.runtime_histories.specs.declared.entries.Event.TheVariants as events
use Rattle.runtime_histories.specs.declared.entries.Reply.{Reply}
use Rattle.runtime_histories.specs.declared.entries.Reply.TheVariants.{Opened, Refused}
use Rattle.runtime_histories.specs.declared.refusals.Asked.{Asked}
use Rattle.runtime_histories.specs.declared.refusals.Asked.TheVariants.{Good, Bad}
use Rattle.runtime_histories.specs.declared.refusals.Refusal.{Refusal}
use Rattle.runtime_histories.specs.Charmaps.{HasText, AreTablesOf}
use Rattle.runtime_histories.specs.Deeds.{Deeds, Act, act, opens, closes, rests, Pair, Loaded, marks, IsLive}
use Rattle.runtime_histories.specs.Entries.{deeds, deed_of, loaded_of}
use Rattle.runtime_histories.specs.Fair.{IsBalanced}
use Rattle.runtime_histories.specs.Legal.{AreRead, IsAnswered, IsOpened, Legal, Next, absent_among, loaded_modules}
use Rattle.runtime_histories.specs.Residence.{resident}
use Rattle.module_counts.proofs.Living.{live_rests}
use Rattle.runtime_histories.specs.Settings.{Setting, Source, Leads, modules_of, charmaps_at}
use Rattle.runtime_histories.proofs.Legality.{deeds-snoc, Legal-snoc, sound_legal, length-deeds}
use Rattle.module_counts.specs.Counting.{Booked, IsKnown}
use Rattle.pair_openings.specs.Answers.{reply_of}
use Rattle.pair_openings.specs.Entered.{Stays, entry_of}
use Rattle.pair_openings.specs.declared.planning.Opening.{Opening}
use Rattle.conversion_book.specs.ChainTables.{kept, chain_tables}
use Rattle.conversion_book.specs.Descriptors.{IsRunnable, AllRun}
use Rattle.conversion_book.specs.Inside.{IsComplete, IsBook}
use Rattle.conversion_book.specs.Preparing.{still_kept, IsLed}
use Rattle.conversion_book.specs.Runtime.{Held, Runtime, log_of, setting_of, held_at, moved, without}
use Rattle.conversion_book.proofs.Keeping.{AllKnown, kept_opens, kept_closes, known_still, known_both, read-append, read_still, chain_there, complete_opens, complete_closes, complete_rests, keep_rests}
use Rattle.conversion_book.proofs.Holding.{live_numbers, numbers_opens, numbers_closes, numbers_moved, run_more, run_without, run_moved}
use Rattle.conversion_book.proofs.Charting.{chain_read, chain_runs}

-- What an opening by two good names said.
pub record IsOpeningOf (s : Setting) (g : Shape) (log : Deeds) (from to : Asked) (o : Opening) : Type 0 where
  pub source : List ℕ
  pub target : List ℕ
  pub from_is : from ≡ Good source
  pub to_is : to ≡ Good target
  pub opened : IsOpened s g log source target o.chain.ordinals o.chain.cost o.loads.items o.modules

abbrev IsChain : Reply → Type 0
IsChain (Opened chain cost loads modules) = Unit {0}
IsChain (Refused why) = ⊥

-- An opening that can be made is one by two good names.
pub opening_of_names : (s : Setting) (g : Shape) (log : Deeds) (from to : Asked) (o : Opening) → IsAnswered s g log from to (reply_of o) → IsOpeningOf s g log from to o
opening_of_names s g log (Good from) (Good to) o h = record { source = from; target = to; from_is = refl; to_is = refl; opened = h.2 }
opening_of_names s g log (Good from) (Bad f) o h = absurd (subst IsChain h.2 tt)
opening_of_names s g log (Bad f) (Good to) o h = absurd (subst IsChain h.2 tt)
opening_of_names s g log (Bad f) (Bad e) o h = absurd (subst IsChain h.2 tt)

-- Its chain is the least one between them.
pub opening_led : (s : Setting) (g : Shape) (log : Deeds) (from to : Asked) (o : Opening) → IsOpeningOf s g log from to o → IsLed g o.chain
opening_led s g log from to o h = record {
  from = h.source;
  to = h.target;
  leads = subst (λ (c : Chain). Leads g h.source h.target c) (sym h.opened.chain_is) h.opened.route.leads;
}

-- An opening opens its pair.
pub deed_opens : (from to : Asked) (f t : List ℕ) (reply : Reply) (o : Opening) (c : ℕ) → from ≡ Good f → to ≡ Good t
    → deed_of (entry_of c from to (reply_of o)).event ≡ opens (record { generation = 0; from = f; to = t }) o.modules (map loaded_of o.loads.items)
deed_opens from to f t reply o c e h = λ i. deed_of (events.Opening (e i) (h i) (reply_of o))

-- A refused opening does nothing.
pub deed_rests : (from to : Asked) (why : Refusal) → deed_of (events.Opening from to (Refused why)) ≡ rests
deed_rests (Good from) (Good to) why = refl
deed_rests (Good from) (Bad f) why = refl
deed_rests (Bad f) to why = refl

all_each : (P : ℕ → Type 0) (xs : List ℕ) → All P xs → AllByRecursion P xs
all_each P [] h = tt
all_each P (x ∷ xs) h = (h 0 x (omega arith), all_each P xs (λ k d fit. h (suc k) d (omega (arith, fit))))

module _ (graph : Shape) (keeps : List Loaded) (r : Runtime) (book : IsBook graph keeps r) where
  abbrev log : Deeds
  log = log_of r

  abbrev s : Setting
  s = setting_of r

  abbrev n : ℕ
  n = length graph.kinds

  pub balanced : IsBalanced log
  balanced = (sound_legal s r.books.journal book.legal).balanced

  -- A runtime with other books and another library.
  abbrev pub with_books : Booked → Holdings → List Held → Runtime
  with_books b new held = record { books = b; aliases = r.aliases; directory = r.directory; library = new; held = held }

  setting_same : (b : Booked) (new : Holdings) (held : List Held) → b.graph ≡ r.books.graph → b.pages ≡ r.books.pages → new.told ≡ r.library.told
      → setting_of (with_books b new held) ≡ s
  setting_same b new held g p t = λ i. record {
    first = record { graph = g i; aliases = r.aliases };
    source = record { directory = r.directory; texts = t i };
    pages = p i;
  }

  source_same : (b : Booked) (new : Holdings) (held : List Held) → new.told ≡ r.library.told → (setting_of (with_books b new held)).source ≡ s.source
  source_same b new held t = λ i. record { directory = r.directory; texts = t i }

  -- Nothing was entered.
  pub book_stays : (b : Booked) (new : Holdings) → Stays r.books b → new.told ≡ r.library.told → IsBook graph keeps (with_books b new r.held)
  book_stays b new st told =
      let same = setting_same b new r.held st.graph st.pages told in
      let deeds_is : deeds b.journal ≡ log = ap deeds st.journal in
      record {
        graph_is = st.graph ∙ book.graph_is;
        whole = book.whole;
        text = book.text;
        known = book.known;
        keeps_is = book.keeps_is ∙ (λ i. kept (sym st.pages i) (sym deeds_is i));
        complete = subst (λ (z : Deeds). IsComplete z keeps) (sym deeds_is) book.complete;
        read = subst (λ (z : Source). AreRead z graph keeps) (sym (source_same b new r.held told)) book.read;
        legal = subst (λ (z : Setting). Legal z b.journal) (sym same) (subst (Legal s) (sym st.journal) book.legal);
        numbers = book.numbers ∙ ap live_numbers (sym deeds_is);
        runs = book.runs;
      }

  module _ (b : Booked) (new : Holdings) (e : Entry) (graph_is : b.graph ≡ r.books.graph) (pages_is : b.pages ≡ r.books.pages) (told : new.told ≡ r.library.told)
      (journal_is : b.journal ≡ r.books.journal ++ e ∷ []) (next : Next s r.books.journal e) where
    deeds_more : deeds b.journal ≡ log ++ act e.caller (deed_of e.event) ∷ []
    deeds_more = ap deeds journal_is ∙ deeds-snoc r.books.journal e

    legal_more : (held : List Held) → Legal (setting_of (with_books b new held)) b.journal
    legal_more held = subst (λ (z : Setting). Legal z b.journal) (sym (setting_same b new held graph_is pages_is told))
        (subst (Legal s) (sym journal_is) (Legal-snoc s r.books.journal e book.legal next))

    -- A refusal was entered.
    pub book_rests : deed_of e.event ≡ rests → IsBook graph keeps (with_books b new r.held)
    book_rests deed =
        let is : deeds b.journal ≡ log ++ act e.caller rests ∷ [] = deeds_more ∙ ap (λ z. log ++ act e.caller z ∷ []) deed in
        record {
          graph_is = graph_is ∙ book.graph_is;
          whole = book.whole;
          text = book.text;
          known = book.known;
          keeps_is = book.keeps_is ∙ (keep_rests r.books.pages log e.caller ∙ (λ i. kept (sym pages_is i) (sym is i)));
          complete = subst (λ (z : Deeds). IsComplete z keeps) (sym is) (complete_rests log keeps book.complete e.caller);
          read = subst (λ (z : Source). AreRead z graph keeps) (sym (source_same b new r.held told)) book.read;
          legal = legal_more r.held;
          numbers = book.numbers ∙ (sym (ap (map (λ d. d.number)) (live_rests log balanced e.caller)) ∙ ap live_numbers (sym is));
          runs = book.runs;
        }

    -- A closing was entered.
    pub book_closes : (number : ℕ) → IsLive log e.caller number → deed_of e.event ≡ closes number → (later : List Loaded)
        → later ≡ still_kept n (deeds b.journal) keeps → IsBook graph later (with_books b new (without number r.held))
    book_closes number lives deed later later_is =
        let is : deeds b.journal ≡ log ++ act e.caller (closes number) ∷ [] = deeds_more ∙ ap (λ z. log ++ act e.caller z ∷ []) deed in
        let there : later ≡ still_kept n (log ++ act e.caller (closes number) ∷ []) keeps = later_is ∙ ap (λ (z : Deeds). still_kept n z keeps) is in
        record {
          graph_is = graph_is ∙ book.graph_is;
          whole = book.whole;
          text = book.text;
          known = subst (AllKnown n) (sym there) (known_still n n (log ++ act e.caller (closes number) ∷ []) keeps book.known);
          keeps_is = there ∙ (kept_closes r.books.pages n log keeps book.keeps_is book.known e.caller number ∙ (λ i. kept (sym pages_is i) (sym is i)));
          complete = subst (λ (z : List Loaded). IsComplete (deeds b.journal) z) (sym there)
              (subst (λ (z : Deeds). IsComplete z (still_kept n (log ++ act e.caller (closes number) ∷ []) keeps)) (sym is)
              (complete_closes log keeps book.complete n book.known balanced e.caller number lives));
          read = subst (λ (z : Source). AreRead z graph later) (sym (source_same b new (without number r.held) told))
              (subst (AreRead s.source graph) (sym there) (read_still s.source graph n (log ++ act e.caller (closes number) ∷ []) keeps book.read));
          legal = legal_more (without number r.held);
          numbers = numbers_closes log e.caller number r.held book.numbers ∙ ap live_numbers (sym is);
          runs = run_without number r.held book.runs;
        }

    module _ (f t : List ℕ) (o : Opening) (opened : IsOpened s r.books.graph log f t o.chain.ordinals o.chain.cost o.loads.items o.modules) where
      abbrev loads : List Loaded
      loads = map loaded_of o.loads.items

      absent_is : loaded_modules loads ≡ absent_among log o.modules
      absent_is = opened.absent_is ∙ (opened.route.missing ∙ ap (absent_among log) (sym opened.modules_is))

      read_all : AreRead s.source graph (keeps ++ loads)
      read_all = read-append s.source graph keeps loads book.read (subst (λ (z : Shape). AreRead s.source z loads) book.graph_is opened.read)

      steps_are : o.modules ≡ modules_of r.books.graph.edges o.chain.ordinals
      steps_are = opened.modules_is ∙ (opened.route.steps ∙ ap (λ (c : Chain). modules_of r.books.graph.edges c.ordinals) (sym opened.chain_is))

      -- The tables of its chain are those of the charmaps.
      pub tables_are : AreTablesOf s.source (flat_map (charmaps_at r.books.graph) o.modules) (chain_tables (keeps ++ loads) o.modules)
      tables_are = subst (λ (z : Shape). AreTablesOf s.source (flat_map (charmaps_at z) o.modules) (chain_tables (keeps ++ loads) o.modules)) (sym book.graph_is)
          (chain_read s.source graph (keeps ++ loads) o.modules read_all (chain_there log keeps book.complete o.modules loads absent_is))

      runs_so : (recipe : Recipe) → recipe_for r.books.graph o.chain.ordinals ≡ Some recipe → (number : ℕ)
          → IsRunnable (record { number = number; tables = chain_tables (keeps ++ loads) o.modules; machine = record { recipe = recipe; states = initial } })
      runs_so recipe e number =
          let both = chain_runs s.source r.books.graph o.chain.ordinals (chain_tables (keeps ++ loads) o.modules) recipe
          (subst (λ (z : List ℕ). AreTablesOf s.source (flat_map (charmaps_at r.books.graph) z) (chain_tables (keeps ++ loads) o.modules)) steps_are tables_are) e in
          record { can_run = both.0; well_formed = both.1 }

      loads_known : AllKnown n loads
      loads_known =
          let os : List ℕ = o.chain.ordinals in
          let is : loaded_modules loads ≡ absent_among log (modules_of graph.edges os) = absent_is ∙ (ap (absent_among log) steps_are ∙ ap (λ (z : Shape). absent_among log (modules_of z.edges os)) book.graph_is) in
          subst (AllByRecursion (λ (m : ℕ). m < n)) (sym is) (all_each (λ m. m < n) (absent_among log (modules_of graph.edges os)) (absent_known graph book.whole log os))

      -- An opening was entered.
      pub book_opens : deed_of e.event ≡ opens (record { generation = 0; from = f; to = t }) o.modules loads → (recipe : Recipe) → recipe_for r.books.graph o.chain.ordinals ≡ Some recipe
          → (number : ℕ) → number ≡ length r.books.journal → (later : List Loaded) → later ≡ still_kept n (deeds b.journal) (keeps ++ loads)
          → IsBook graph later (with_books b new (r.held ++ record { number = number; tables = chain_tables (keeps ++ loads) o.modules; machine = record { recipe = recipe; states = initial } } ∷ []))
      book_opens deed recipe recipe_is number number_is later later_is =
          let p : Pair = record { generation = 0; from = f; to = t } in
          let deed_now : Act = act e.caller (opens p o.modules loads) in
          let h : Held = record { number = number; tables = chain_tables (keeps ++ loads) o.modules; machine = record { recipe = recipe; states = initial } } in
          let is : deeds b.journal ≡ log ++ deed_now ∷ [] = deeds_more ∙ ap (λ z. log ++ act e.caller z ∷ []) deed in
          let there : later ≡ still_kept n (log ++ deed_now ∷ []) (keeps ++ loads) = later_is ∙ ap (λ (z : Deeds). still_kept n z (keeps ++ loads)) is in
          record {
            graph_is = graph_is ∙ book.graph_is;
            whole = book.whole;
            text = book.text;
            known = subst (AllKnown n) (sym there) (known_both n n (log ++ deed_now ∷ []) keeps loads book.known loads_known);
            keeps_is = there ∙ (kept_opens r.books.pages n log keeps book.keeps_is book.known e.caller p o.modules loads loads_known ∙ (λ i. kept (sym pages_is i) (sym is i)));
            complete = subst (λ (z : List Loaded). IsComplete (deeds b.journal) z) (sym there)
                (subst (λ (z : Deeds). IsComplete z (still_kept n (log ++ deed_now ∷ []) (keeps ++ loads))) (sym is)
                (complete_opens log keeps book.complete n book.known e.caller p o.modules loads absent_is loads_known));
            read = subst (λ (z : Source). AreRead z graph later) (sym (source_same b new (r.held ++ h ∷ []) told))
                (subst (AreRead s.source graph) (sym there) (read_still s.source graph n (log ++ deed_now ∷ []) (keeps ++ loads) read_all));
            legal = legal_more (r.held ++ h ∷ []);
            numbers = numbers_opens log balanced e.caller p number o.modules loads (number_is ∙ sym (length-deeds r.books.journal)) r.held h refl book.numbers ∙ ap live_numbers (sym is);
            runs = run_more r.held h book.runs (runs_so recipe recipe_is number);
          }

  -- A descriptor has come to another machine of its recipe.
  pub book_moves : (number : ℕ) (m : Machine) (held : List Held) → held ≡ moved number m r.held → ((h : Held) → held_at number r.held ≡ Some h → m.recipe ≡ h.machine.recipe)
      → IsBook graph keeps (record r { held = held })
  book_moves number m held is same = record {
    graph_is = book.graph_is;
    whole = book.whole;
    text = book.text;
    known = book.known;
    keeps_is = book.keeps_is;
    complete = book.complete;
    read = book.read;
    legal = book.legal;
    numbers = ap (map (λ (h : Held). h.number)) is ∙ (numbers_moved number m r.held ∙ book.numbers);
    runs = subst AllRun (sym is) (run_moved number m r.held same book.runs);
  }

-- A runtime without an entry.
pub book_first : (graph : Shape) (r : Runtime) → r.books.graph ≡ graph → IsGraph graph → HasText graph → r.books.journal ≡ [] → r.held ≡ [] → IsBook graph [] r
book_first graph r graph_is whole text none empty = record {
  graph_is = graph_is;
  whole = whole;
  text = text;
  known = tt;
  keeps_is = ap (λ (z : List Entry). kept r.books.pages (deeds z)) (sym none);
  complete = λ m e. absurd (true≢false (sym e ∙ ap (λ (z : List Entry). resident (marks (deeds z)) m) none));
  read = tt;
  legal = subst (Legal (setting_of r)) (sym none) tt;
  numbers = ap (map (λ (h : Held). h.number)) empty ∙ ap (λ (z : List Entry). live_numbers (deeds z)) (sym none);
  runs = subst AllRun (sym empty) tt;
}

-- Each edge's module is one of the graph's.
pub modules_known : (g : Shape) → IsGraph g → IsKnown g (length g.kinds)
modules_known g whole o m e =
    let is : absent_among [] (modules_of g.edges (o ∷ [])) ≡ m ∷ [] = ap (λ (z : Option ℕ). absent_among [] (cons_option z [])) e in
    let all : All (λ k. k < length g.kinds) (m ∷ []) = subst (All (λ k. k < length g.kinds)) is (absent_known g whole [] (o ∷ [])) in
    all 0 m (omega arith)
