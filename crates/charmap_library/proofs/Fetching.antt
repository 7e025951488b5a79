-- Fetches of one charmap after another.
use Rattle.std.proofs.Common.{◌≡◌, ◌≢◌, ◌⊎◌, inl, inr, ⊎_elim, ℕ, ◌≤◌, List, [], ◌∷◌, ◌++◌, refl, sym, ap, ◌∙◌, subst, Option, Some, None, IfSome, Result, Ok, Err, IfOk, IfErr, append_assoc, append-nil, ◌+◌, ◌<◌, length, map, take, drop, get_or, arith}
use Rattle.std.specs.Prelude.{slice_get}
use Rattle.std.specs.Option.{option_map}
use Rattle.std.proofs.lemmas.Grind.{flat_map-append}
use Rattle.std.proofs.lemmas.List.{map-append, take_more, take-append-drop}
use Rattle.code_pairs.specs.Tables.{Table, Tables}
use Rattle.modules_conf.specs.declared.kind.Kind.{Kind}
use Rattle.module_graph.specs.Graph.{Shape}
use Rattle.outside.specs.Faults.{Rose}
use Rattle.outside.specs.Fetches.{paths_after, asked_after}
use Rattle.outside.specs.Moments.{Holdings}
use Rattle.outside.specs.declared.file_sets.Taken.{Taken}
use Rattle.outside.specs.declared.file_sets.Taken.TheVariants as takes
use Rattle.runtime_histories.specs.declared.refusals.Refusal.{Refusal}
use Rattle.runtime_histories.specs.declared.refusals.Refusal.TheVariants.{BadName, NoConversion, LibraryFault, NoCharmap, BadCharmap, StoreFull, JournalFull, Memory}
use Rattle.runtime_histories.specs.Settings.{Source, charmaps_of, charmaps_in, charmaps_at, path_of}
use Rattle.runtime_histories.specs.Charmaps.{Wanted, each, IsTableOf, AreTablesOf, AreFetched, ComesTo, wanted, wanted_by, words_of, text_of, IsFaulty}
use Rattle.runtime_histories.specs.Fetches.{paths_of}
use Rattle.charmap_library.specs.Fetching.{source_of, AskedFor, StopsAt, GivesUp, Stops, Fetches, FetchesModules}
use Rattle.charmap_library.specs.Refusals.{RefusesOne, IsFailure}

abbrev Paths : Type 0
Paths = List (List ℕ)

pub more_none : (o : Option Paths) → o ≡ option_map (λ asked. asked ++ []) o
more_none None = refl
more_none (Some asked) = ap Some (sym (append-nil asked))

more_twice : (p q : Paths) (o : Option Paths) → option_map (λ asked. asked ++ q) (option_map (λ asked. asked ++ p) o) ≡ option_map (λ asked. asked ++ (p ++ q)) o
more_twice p q None = refl
more_twice p q (Some asked) = ap Some (append_assoc asked p q)

-- One path more is noted, unless memory was wanting.
noted : (f : Taken) (path : List ℕ) (o : Option Paths) → f ≢ takes.Memory → paths_after f path o ≡ option_map (λ asked. asked ++ path ∷ []) o
noted f path None h = refl
noted (takes.Bytes v) path (Some asked) h = refl
noted takes.Absent path (Some asked) h = refl
noted takes.TooLarge path (Some asked) h = refl
noted takes.Failed path (Some asked) h = refl
noted takes.Memory path (Some asked) h = absurd (h refl)

unnoted : (f : Taken) (path : List ℕ) (o : Option Paths) → f ≡ takes.Memory → paths_after f path o ≡ o
unnoted f path o e = ap (λ (z : Taken). paths_after z path o) e ∙ none o
  where
    none : (o : Option Paths) → paths_after takes.Memory path o ≡ o
    none None = refl
    none (Some asked) = refl

-- what is no want of memory
IsAnswered : Taken → Type 0
IsAnswered (takes.Bytes v) = Unit {0}
IsAnswered takes.Absent = Unit {0}
IsAnswered takes.TooLarge = Unit {0}
IsAnswered takes.Failed = Unit {0}
IsAnswered takes.Memory = ⊥

answered_not : (f : Taken) → IsAnswered f → f ≢ takes.Memory
unfolding IsAnswered
answered_not f h e = subst IsAnswered e h

memory_or_not : (f : Taken) → (f ≡ takes.Memory) ⊎ (f ≢ takes.Memory)
unfolding IsAnswered
memory_or_not (takes.Bytes v) = inr (answered_not (takes.Bytes v) tt)
memory_or_not takes.Absent = inr (answered_not takes.Absent tt)
memory_or_not takes.TooLarge = inr (answered_not takes.TooLarge tt)
memory_or_not takes.Failed = inr (answered_not takes.Failed tt)
memory_or_not takes.Memory = inl refl

abbrev why_of : Result Table Refusal → Refusal
why_of (Ok t) = Memory
why_of (Err why) = why

-- what blames a charmap
abbrev Blames : Refusal → Type 0
Blames (LibraryFault m w) = Unit {0}
Blames (NoCharmap m w) = Unit {0}
Blames (BadCharmap m w t) = Unit {0}
Blames _ = ⊥

pub tables-append : (s : Source) (ws vs : List (List ℕ)) (ts us : List Table) → AreTablesOf s ws ts → AreTablesOf s vs us → AreTablesOf s (ws ++ vs) (ts ++ us)
tables-append s [] vs [] us h k = k
tables-append s [] vs (t ∷ ts) us h k = absurd h
tables-append s (w ∷ ws) vs [] us h k = absurd h
tables-append s (w ∷ ws) vs (t ∷ ts) us h k = (h.0, tables-append s ws vs ts us h.1 k)

words-append : (ws vs : List Wanted) → words_of (ws ++ vs) ≡ words_of ws ++ words_of vs
words-append ws vs = map-append (λ (w : Wanted). w.charmap) ws vs

module _ (d : List ℕ) where
  paths-append : (h : Holdings) (ws vs : List Wanted) → paths_of (source_of d h) (ws ++ vs) ≡ paths_of (source_of d h) ws ++ paths_of (source_of d h) vs
  paths-append h ws vs = ap (map (path_of d)) (words-append ws vs) ∙ map-append (path_of d) (words_of ws) (words_of vs)

  pub asked_none : (h : Holdings) → AskedFor d h h []
  asked_none h = record { told = refl; paths = more_none h.paths; count = omega arith }

  pub asked_more : (a b c : Holdings) (ws vs : List Wanted) → AskedFor d a b ws → AskedFor d b c vs → AskedFor d a c (ws ++ vs)
  asked_more a b c ws vs h k =
      let p : Paths = paths_of (source_of d a) ws in
      let q : Paths = paths_of (source_of d a) vs in
      record {
        told = k.told ∙ h.told;
        paths = k.paths ∙ (ap (λ (o : Option Paths). option_map (λ asked. asked ++ q) o) h.paths ∙ (more_twice p q a.paths ∙ ap (λ (z : Paths). option_map (λ asked. asked ++ z) a.paths) (sym (paths-append a ws vs))));
        count = (let x = h.count in let y = k.count in omega (arith, x, y));
      }

  source_same : (a b : Holdings) (ws : List Wanted) → AskedFor d a b ws → source_of d b ≡ source_of d a
  source_same a b ws h = λ i. record { directory = d; texts = h.told i }

  -- Charmaps were fetched, and then others.
  pub fetches_more : (a b c : Holdings) (ws vs : List Wanted) (ts us : Tables) → Fetches d a b ws ts → Fetches d b c vs us → Fetches d a c (ws ++ vs) (ts ++ us)
  fetches_more a b c ws vs ts us h k = record {
    tables_are = subst (λ (z : List (List ℕ)). AreTablesOf (source_of d a) z (ts ++ us)) (sym (words-append ws vs))
        (tables-append (source_of d a) (words_of ws) (words_of vs) ts us h.tables_are (subst (λ (s : Source). AreTablesOf s (words_of vs) us) (source_same a b ws h.asked) k.tables_are));
    asked = asked_more a b c ws vs h.asked k.asked;
  }

  stops_at_behind : (a b c : Holdings) (ws vs : List Wanted) (ts : Tables) (at : Wanted) → Fetches d a b ws ts → StopsAt d b c vs at → StopsAt d a c (ws ++ vs) at
  stops_at_behind a b c ws vs ts at h k = record {
    comes = record {
      before = ws ++ k.comes.before;
      behind = k.comes.behind;
      whole = ap (λ (z : List Wanted). ws ++ z) k.comes.whole ∙ sym (append_assoc ws k.comes.before (at ∷ k.comes.behind));
      tables = ts ++ k.comes.tables;
      read = subst (λ (z : List (List ℕ)). AreTablesOf (source_of d a) z (ts ++ k.comes.tables)) (sym (words-append ws k.comes.before))
          (tables-append (source_of d a) (words_of ws) (words_of k.comes.before) ts k.comes.tables h.tables_are (subst (λ (s : Source). AreTablesOf s (words_of k.comes.before) k.comes.tables) (source_same a b ws h.asked) k.comes.read));
    };
    asked = subst (AskedFor d a c) (sym (append_assoc ws k.comes.before (at ∷ []))) (asked_more a b c ws (k.comes.before ++ at ∷ []) h.asked k.asked);
  }

  rose_before : (a b c : Holdings) (ws : List Wanted) → AskedFor d a b ws → Rose b.faults c.faults → Rose a.faults c.faults
  rose_before a b c ws h k = (let x = h.count in omega (arith, x, k))

  -- Charmaps were fetched, and then others stopped.
  pub stops_behind : (a b c : Holdings) (ws vs : List Wanted) (ts : Tables) (why : Refusal) → Fetches d a b ws ts → Stops d b c vs why → Stops d a c (ws ++ vs) why
  stops_behind a b c ws vs ts (BadName which fault) h k = k
  stops_behind a b c ws vs ts NoConversion h k = k
  stops_behind a b c ws vs ts (LibraryFault m w) h k = (stops_at_behind a b c ws vs ts (record { «module» = m; charmap = w }) h k.0, rose_before a b c ws h.asked k.1)
  stops_behind a b c ws vs ts (NoCharmap m w) h k = (
    stops_at_behind a b c ws vs ts (record { «module» = m; charmap = w }) h k.0,
    subst (λ (o : Option _). IfSome o (λ shelf. text_of (source_of d a) shelf w ≡ None)) h.asked.told k.1,
  )
  stops_behind a b c ws vs ts (BadCharmap m w f) h k = (
    stops_at_behind a b c ws vs ts (record { «module» = m; charmap = w }) h k.0,
    subst (λ (o : Option _). IfSome o (λ shelf. IsFaulty (text_of (source_of d a) shelf w) f)) h.asked.told k.1,
  )
  stops_behind a b c ws vs ts (StoreFull n l) h k = k
  stops_behind a b c ws vs ts (JournalFull n) h k = k
  stops_behind a b c ws vs ts Memory h k = record {
    front = ws ++ k.front;
    behind = k.behind;
    whole = ap (λ (z : List Wanted). ws ++ z) k.whole ∙ sym (append_assoc ws k.front k.behind);
    asked = asked_more a b c ws k.front h.asked k.asked;
  }

  stops_at_front : (a b : Holdings) (ws more : List Wanted) (at : Wanted) → StopsAt d a b ws at → StopsAt d a b (ws ++ more) at
  stops_at_front a b ws more at k = record {
    comes = record {
      before = k.comes.before;
      behind = k.comes.behind ++ more;
      whole = ap (λ (z : List Wanted). z ++ more) k.comes.whole ∙ append_assoc k.comes.before (at ∷ k.comes.behind) more;
      tables = k.comes.tables;
      read = k.comes.read;
    };
    asked = k.asked;
  }

  -- Charmaps stopped before others.
  pub stops_front : (a b : Holdings) (ws more : List Wanted) (why : Refusal) → Stops d a b ws why → Stops d a b (ws ++ more) why
  stops_front a b ws more (BadName which fault) k = k
  stops_front a b ws more NoConversion k = k
  stops_front a b ws more (LibraryFault m w) k = (stops_at_front a b ws more (record { «module» = m; charmap = w }) k.0, k.1)
  stops_front a b ws more (NoCharmap m w) k = (stops_at_front a b ws more (record { «module» = m; charmap = w }) k.0, k.1)
  stops_front a b ws more (BadCharmap m w f) k = (stops_at_front a b ws more (record { «module» = m; charmap = w }) k.0, k.1)
  stops_front a b ws more (StoreFull n l) k = k
  stops_front a b ws more (JournalFull n) k = k
  stops_front a b ws more Memory k = record {
    front = k.front;
    behind = k.behind ++ more;
    whole = ap (λ (z : List Wanted). z ++ more) k.whole ∙ append_assoc k.front k.behind more;
    asked = k.asked;
  }

  -- Memory was wanting after charmaps were asked for.
  pub gave_up : (a b : Holdings) (ws : List Wanted) → AskedFor d a b ws → GivesUp d a b ws
  gave_up a b ws h = record { front = ws; behind = []; whole = sym (append-nil ws); asked = h }

  pub gave_up_first : (a : Holdings) (ws : List Wanted) → GivesUp d a a ws
  gave_up_first a ws = record { front = []; behind = ws; whole = refl; asked = asked_none a }

  -- One charmap was fetched, by its path.
  module _ (a b : Holdings) (m : ℕ) (w path : List ℕ) (f : Taken) (at : path ≡ path_of d w) (told : b.told ≡ a.told) (paths : b.paths ≡ paths_after f path a.paths) (count : a.faults ≤ b.faults) where
    asked_one : f ≢ takes.Memory → AskedFor d a b (each m (w ∷ []))
    asked_one ne = record {
      told = told;
      paths = paths ∙ (noted f path a.paths ne ∙ ap (λ (z : List ℕ). option_map (λ asked. asked ++ z ∷ []) a.paths) at);
      count = count;
    }

    pub fetched_one : (t : Table) → f ≢ takes.Memory → IsTableOf (source_of d a) w t → Fetches d a b (each m (w ∷ [])) (t ∷ [])
    fetched_one t ne h = record { tables_are = (h, tt); asked = asked_one ne }

    stopped_here : (n : ℕ) (v : List ℕ) → n ≡ m → v ≡ w → f ≢ takes.Memory → StopsAt d a b (each m (w ∷ [])) (record { «module» = n; charmap = v })
    stopped_here n v e g ne = record {
      comes = record {
        before = [];
        behind = [];
        whole = (λ i. record { «module» = sym e i; charmap = sym g i } ∷ []);
        tables = [];
        read = tt;
      };
      asked = subst (AskedFor d a b) (λ i. record { «module» = sym e i; charmap = sym g i } ∷ []) (asked_one ne);
    }

    pub stopped_one : (why : Refusal) → RefusesOne (source_of d a) m w why → (IsFailure why → Rose a.faults b.faults) → (f ≡ takes.Memory → why ≡ Memory) → Stops d a b (each m (w ∷ [])) why
    stopped_one (BadName which fault) h r k = h
    stopped_one NoConversion h r k = h
    stopped_one (LibraryFault n v) h r k = (stopped_here n v h.0 h.1 (λ e. subst Blames (k e) tt), r tt)
    stopped_one (NoCharmap n v) h r k = (stopped_here n v h.0 h.1 (λ e. subst Blames (k e) tt), subst (λ (z : List ℕ). IfSome a.told (λ shelf. text_of (source_of d a) shelf z ≡ None)) (sym h.1) h.2)
    stopped_one (BadCharmap n v t) h r k = (stopped_here n v h.0 h.1 (λ e. subst Blames (k e) tt), subst (λ (z : List ℕ). IfSome a.told (λ shelf. IsFaulty (text_of (source_of d a) shelf z) t)) (sym h.1) h.2)
    stopped_one (StoreFull n l) h r k = h
    stopped_one (JournalFull n) h r k = h
    stopped_one Memory h r k = ⊎_elim
        (λ e. gave_up_none e)
        (λ ne. gave_up a b (each m (w ∷ [])) (asked_one ne)) (memory_or_not f)
      where
        gave_up_none : f ≡ takes.Memory → GivesUp d a b (each m (w ∷ []))
        gave_up_none e = record {
          front = [];
          behind = each m (w ∷ []);
          whole = refl;
          asked = record { told = told; paths = paths ∙ (unnoted f path a.paths e ∙ more_none a.paths); count = count };
        }

    -- What comes of it, by the result of building its table.
    pub one_ok : (r : Result Table Refusal) → IfOk r (IsTableOf (source_of d a) w) → (f ≡ takes.Memory → r ≡ Err Memory) → IfOk r (λ t. Fetches d a b (each m (w ∷ [])) (t ∷ []))
    one_ok (Ok t) h k = fetched_one t (λ e. subst (λ (z : Result Table Refusal). IfErr z (λ _. ⊥)) (k e) tt) h
    one_ok (Err why) h k = tt

    pub one_err : (r : Result Table Refusal) → IfErr r (RefusesOne (source_of d a) m w) → IfErr r (λ why. IsFailure why → f ≡ takes.Failed) → (f ≡ takes.Failed → Rose a.faults b.faults) → (f ≡ takes.Memory → r ≡ Err Memory)
        → IfErr r (Stops d a b (each m (w ∷ [])))
    one_err (Ok t) h failed rose k = tt
    one_err (Err why) h failed rose k = stopped_one why h (λ z. rose (failed z)) (λ e. ap why_of (k e))

words_each : (m : ℕ) (ws : List (List ℕ)) → words_of (each m ws) ≡ ws
words_each m [] = refl
words_each m (w ∷ ws) = ap (λ (z : List (List ℕ)). w ∷ z) (words_each m ws)

abbrev joined : List (List Table) → List Table
joined [] = []
joined (t ∷ ts) = t ++ joined ts

fetched_tables : (s : Source) (g : Shape) (ms : List ℕ) (ts : List (List Table)) → AreFetched s g ms ts → AreTablesOf s (words_of (wanted g ms)) (joined ts)
fetched_tables s g [] [] h = tt
fetched_tables s g [] (t ∷ ts) h = absurd h
fetched_tables s g (m ∷ ms) [] h = absurd h
fetched_tables s g (m ∷ ms) (t ∷ ts) h =
    subst (λ (z : List (List ℕ)). AreTablesOf s z (t ++ joined ts)) (sym (words-append (each m (charmaps_at g m)) (wanted g ms)))
    (tables-append s (words_of (each m (charmaps_at g m))) (words_of (wanted g ms)) t (joined ts)
    (subst (λ (z : List (List ℕ)). AreTablesOf s z t) (sym (words_each m (charmaps_at g m))) h.0) (fetched_tables s g ms ts h.1))

fetched_more : (s : Source) (g : Shape) (ms : List ℕ) (ts : List (List Table)) (m : ℕ) (t : List Table) → AreFetched s g ms ts → AreTablesOf s (charmaps_at g m) t → AreFetched s g (ms ++ m ∷ []) (ts ++ t ∷ [])
fetched_more s g [] [] m t h k = (k, tt)
fetched_more s g [] (x ∷ ts) m t h k = absurd h
fetched_more s g (n ∷ ms) [] m t h k = absurd h
fetched_more s g (n ∷ ms) (x ∷ ts) m t h k = (h.0, fetched_more s g ms ts m t h.1 k)

-- Nothing was fetched.
pub fetches_none : (d : List ℕ) (g : Shape) (a : Holdings) → FetchesModules d g a a [] []
fetches_none d g a = record { tables_are = tt; asked = asked_none d a }

fetches_all : (d : List ℕ) (g : Shape) (a b : Holdings) (ms : List ℕ) (ts : List Tables) → FetchesModules d g a b ms ts → Fetches d a b (wanted g ms) (joined ts)
fetches_all d g a b ms ts h = record { tables_are = fetched_tables (source_of d a) g ms ts h.tables_are; asked = h.asked }

module _ (d : List ℕ) (g : Shape) (a b c : Holdings) (missing : List ℕ) (i : ℕ) (lt : i < length missing) (kind : Kind) (kind_is : slice_get g.kinds (get_or missing i 0) ≡ Some kind) (ts : List Tables) (sofar : FetchesModules d g a b (take i missing) ts) where
  charmaps_are : charmaps_of kind ≡ charmaps_at g (get_or missing i 0)
  charmaps_are = ap charmaps_in (sym kind_is)

  wanted_more : wanted g (take (i + 1) missing) ≡ wanted g (take i missing) ++ wanted_by g (get_or missing i 0)
  wanted_more = ap (wanted g) (take_more missing i 0 lt) ∙ (flat_map-append (wanted_by g) (take i missing) (get_or missing i 0 ∷ []) ∙ ap (λ (z : List Wanted). wanted g (take i missing) ++ z) (append-nil (wanted_by g (get_or missing i 0))))

  -- One module more was fetched.
  pub fetches_module : (t : Tables) → Fetches d b c (each (get_or missing i 0) (charmaps_of kind)) t → FetchesModules d g a c (take (i + 1) missing) (ts ++ t ∷ [])
  fetches_module t k =
      let m = get_or missing i 0 in
      let here : Fetches d b c (wanted_by g m) t = subst (λ (z : List (List ℕ)). Fetches d b c (each m z) t) charmaps_are k in
      let tables : AreTablesOf (source_of d a) (charmaps_at g m) t =
      subst (λ (z : List (List ℕ)). AreTablesOf (source_of d a) z t) (words_each m (charmaps_at g m)) (subst (λ (s : Source). AreTablesOf s (words_of (wanted_by g m)) t) (λ j. record { directory = d; texts = sofar.asked.told j }) here.tables_are) in
      record {
        tables_are = subst (λ (z : List ℕ). AreFetched (source_of d a) g z (ts ++ t ∷ [])) (sym (take_more missing i 0 lt)) (fetched_more (source_of d a) g (take i missing) ts m t sofar.tables_are tables);
        asked = subst (AskedFor d a c) (sym wanted_more) (asked_more d a b c (wanted g (take i missing)) (wanted_by g m) sofar.asked here.asked);
      }

  all_parts : missing ≡ take i missing ++ get_or missing i 0 ∷ drop (i + 1) missing
  all_parts = sym (take-append-drop (i + 1) missing) ∙ (ap (λ (z : List ℕ). z ++ drop (i + 1) missing) (take_more missing i 0 lt) ∙ append_assoc (take i missing) (get_or missing i 0 ∷ []) (drop (i + 1) missing))

  -- One module stopped them all.
  pub stops_module : (why : Refusal) → Stops d b c (each (get_or missing i 0) (charmaps_of kind)) why → Stops d a c (wanted g missing) why
  stops_module why k =
      let m = get_or missing i 0 in
      let here : Stops d b c (wanted_by g m) why = subst (λ (z : List (List ℕ)). Stops d b c (each m z) why) charmaps_are k in
      let front = stops_front d b c (wanted_by g m) (wanted g (drop (i + 1) missing)) why here in
      let all = stops_behind d a b c (wanted g (take i missing)) (wanted_by g m ++ wanted g (drop (i + 1) missing)) (joined ts) why (fetches_all d g a b (take i missing) ts sofar) front in
      subst (λ (z : List Wanted). Stops d a c z why) (sym (ap (wanted g) all_parts ∙ flat_map-append (wanted_by g) (take i missing) (m ∷ drop (i + 1) missing))) all

-- Some of the modules were fetched, and memory was wanting.
pub gave_up_some : (d : List ℕ) (g : Shape) (a b : Holdings) (missing : List ℕ) (i : ℕ) (ts : List Tables) → FetchesModules d g a b (take i missing) ts → Stops d a b (wanted g missing) Memory
gave_up_some d g a b missing i ts h =
    let all : wanted g missing ≡ wanted g (take i missing) ++ wanted g (drop i missing) = ap (wanted g) (sym (take-append-drop i missing)) ∙ flat_map-append (wanted_by g) (take i missing) (drop i missing) in
    subst (λ (z : List Wanted). Stops d a b z Memory) (sym all) (stops_front d a b (wanted g (take i missing)) (wanted g (drop i missing)) Memory (gave_up d a b (wanted g (take i missing)) h.asked))

-- The tables of two charmaps.
pub double_ok : (d : List ℕ) (a b c : Holdings) (m : ℕ) (v w : List ℕ) (t u : Table) (r : Result Tables Refusal) → IfOk r (λ ts. ts ≡ t ∷ u ∷ [])
    → Fetches d a b (each m (v ∷ [])) (t ∷ []) → Fetches d b c (each m (w ∷ [])) (u ∷ []) → IfOk r (Fetches d a c (each m (v ∷ w ∷ [])))
double_ok d a b c m v w t u (Ok ts) e h k = subst (Fetches d a c (each m (v ∷ w ∷ []))) (sym e) (fetches_more d a b c (each m (v ∷ [])) (each m (w ∷ [])) (t ∷ []) (u ∷ []) h k)
double_ok d a b c m v w t u (Err why) e h k = tt

pub double_err : (d : List ℕ) (a b c : Holdings) (m : ℕ) (v w : List ℕ) (t u : Table) (r : Result Tables Refusal) → IfErr r (λ why. why ≡ Memory)
    → Fetches d a b (each m (v ∷ [])) (t ∷ []) → Fetches d b c (each m (w ∷ [])) (u ∷ []) → IfErr r (Stops d a c (each m (v ∷ w ∷ [])))
double_err d a b c m v w t u (Ok ts) e h k = tt
double_err d a b c m v w t u (Err why) e h k = subst (Stops d a c (each m (v ∷ w ∷ []))) (sym e) (gave_up d a c (each m (v ∷ w ∷ [])) (asked_more d a b c (each m (v ∷ [])) (each m (w ∷ [])) h.asked k.asked))
