-- What the calls of a runtime make of a job.
use Rattle.std.proofs.Common.{◌≡◌, ◌≢◌, ◌∙◌, ℕ, ◌+◌, ◌*◌, ◌-◌, ◌^◌, ◌≤◌, min, eqb, Bool, true, false, not, cond, List, [], ◌∷◌, ◌++◌, length, map, Option, Some, None, Result, Ok, Err, IfOk, OnErr, IfSome, IsSome, IsSomeAnd, ap, sym, subst, refl, arith, append_assoc, append-nil, true≢false, eq-eqb}
use Rattle.std.specs.Option.{option_map}
use Rattle.std.specs.List.{filter, flat_map}
use Rattle.code_pairs.specs.Tables.{Tables}
use Rattle.chain_search.specs.declared.chain.Chain.{Chain}
use Rattle.chain_steps.specs.Machine.{Machine}
use Rattle.chain_steps.specs.Chains.{initial}
use Rattle.chain_recipes.specs.Recipes.{recipe_for}
use Rattle.unit_relations.specs.Meaning.{MeansWhole}
use Rattle.step_buffers.specs.declared.answers.Finish.{Finish}
use Rattle.step_buffers.specs.declared.answers.Finish.TheVariants.{Done}
use Rattle.outside.specs.Faults.{RoseBy}
use Rattle.outside.specs.Moments.{Holdings}
use Rattle.runtime_histories.specs.declared.entries.Entry.{Entry}
use Rattle.runtime_histories.specs.declared.entries.Event.TheVariants.{Opening, Closing}
use Rattle.runtime_histories.specs.declared.entries.Reply.{Reply}
use Rattle.runtime_histories.specs.declared.entries.Reply.TheVariants.{Opened, Refused}
use Rattle.runtime_histories.specs.declared.loads.Load.{Load}
use Rattle.runtime_histories.specs.declared.refusals.Asked.{Asked}
use Rattle.runtime_histories.specs.declared.refusals.Asked.TheVariants.{Good, Bad}
use Rattle.runtime_histories.specs.declared.refusals.Refusal.{Refusal}
use Rattle.runtime_histories.specs.declared.refusals.Refusal.TheVariants.{BadName, NoConversion, LibraryFault, NoCharmap, BadCharmap, StoreFull, JournalFull, Memory}
use Rattle.runtime_histories.specs.Charmaps.{AreTablesOf}
use Rattle.runtime_histories.specs.Deeds.{Deeds, opens, IsLive}
use Rattle.runtime_histories.specs.Entries.{deeds, deed_of, loaded_of}
use Rattle.runtime_histories.specs.Settings.{Setting, modules_of, charmaps_at}
use Rattle.runtime_histories.specs.Legal.{Legal, IsAnswered, IsOpened}
use Rattle.runtime_histories.specs.Fetches.{Asks, AsksFor, FetchesFrom}
use Rattle.module_graph.specs.Graph.{Shape}
use Rattle.pair_openings.specs.Asking.{asked_of}
use Rattle.pair_openings.specs.Answers.{snapshot, Replies, Loses}
use Rattle.pair_openings.specs.Entered.{Leaves, Stays, HasRefused, entry_of, ground_of}
use Rattle.pair_openings.specs.Loading.{Ground}
use Rattle.batch_runs.specs.declared.misses.Miss.TheVariants.{NoFile}
use Rattle.pair_openings.specs.Plans as plans
use Rattle.conversion_book.specs.Runtime.{Held, Runtime, log_of, setting_of, held_at, moved, without, IsHeld}
use Rattle.conversion_book.specs.Openings.{Answered, Opens, Refuses, IsSameSetting, reply_of, tables_for}
use Rattle.conversion_book.specs.Calls.{Calls, Closes, ConvertsWhole}
use Rattle.batch_jobs.specs.Jobs.{Text, JobLine}
use Rattle.batch_runs.specs.Meanings.{Makes, AskedSince, asked_in, opening, closing, is_entered, is_passing, library_fault}
use Rattle.batch_runs.specs.Meanings as meanings
use Rattle.batch_runs.specs.Takings.{Got}
use Rattle.batch_runs.specs.Works.{Work, Skipped, Denied, Converted, MayRefuse}
use Rattle.batch_runs.specs.Histories.{told_faults}
use Rattle.batch_book.proofs.Lasting.{lasting}
use Rattle.batch_alone.specs.Books.{Book, Keeps, HasAsked, HasPlace}
use Rattle.batch_book.specs.Books.{book_of, is_full}
use Rattle.batch_alone.specs.Steps.{Adds, Does, IsCut, Enters, OpensAndCloses}
use Rattle.batch_alone.proofs.Asking.{asked_on}
use Rattle.batch_book.proofs.Living.{live_after, live_few}
use Rattle.batch_alone.proofs.Progress.{keeps_on}

-- ---- one descriptor

same_number : (n : ℕ) → eqb n n ≡ true
same_number n = eq-eqb n n refl

pub held_now : (h : Held) (hs : List Held) → hs ≡ h ∷ [] → held_at h.number hs ≡ Some h
held_now h hs is = ap (held_at h.number) is ∙ ap (λ (b : Bool). cond b (Some h) None) (same_number h.number)

moved_one : (h : Held) (m : Machine) → moved h.number m (h ∷ []) ≡ record h { machine = m } ∷ []
moved_one h m = ap (λ (b : Bool). cond b (record h { machine = m } ∷ []) (h ∷ [])) (same_number h.number)

without_one : (h : Held) → without h.number (h ∷ []) ≡ []
without_one h = ap (λ (b : Bool). cond (not b) (h ∷ []) []) (same_number h.number)

-- ---- settings

same_setting : (a b : Runtime) → b.books.graph ≡ a.books.graph → b.books.pages ≡ a.books.pages → IsSameSetting a b → b.library.told ≡ a.library.told
    → setting_of b ≡ setting_of a
same_setting a b g p s t = λ i. record {
  first = record { graph = g i; aliases = s.0 i };
  source = record { directory = s.1 i; texts = t i };
  pages = p i;
}

-- ---- faults

rose_none : (old new : ℕ) → old ≤ new → RoseBy 0 old new
rose_none old new h = omega (arith, h)

blamed : (why : Refusal) (old new : Holdings) → old.faults ≤ new.faults → plans.IsBlamed why old new → RoseBy (library_fault why) old.faults new.faults
blamed (BadName which f) old new h b = rose_none old.faults new.faults h
blamed NoConversion old new h b = rose_none old.faults new.faults h
blamed (LibraryFault m w) old new h b = b
blamed (NoCharmap m w) old new h b = rose_none old.faults new.faults h
blamed (BadCharmap m w f) old new h b = rose_none old.faults new.faults h
blamed (StoreFull n l) old new h b = rose_none old.faults new.faults h
blamed (JournalFull n) old new h b = rose_none old.faults new.faults h
blamed Memory old new h b = rose_none old.faults new.faults h

-- ---- what was asked for

asked_more : (F : List Text → Type 0) (p q : Option (List Text)) (more : List Text) → q ≡ option_map (λ asked. asked ++ more) p → F more → AskedSince F p q
asked_more F None q more is f = subst (AskedSince F None) (sym is) tt
asked_more F (Some p) q more is f = subst (AskedSince F (Some p)) (sym is) (more, refl, f)

fetched_one : (s : Setting) (j : List Entry) (e : Entry) (more : List Text) → Asks s j e.event more → FetchesFrom s j (e ∷ []) more
fetched_one s j e more h = (more, [], sym (append-nil more), h, refl)

closing_asked : (s : Setting) (j : List Entry) (caller n : ℕ) (p : Option (List Text)) → AskedSince (FetchesFrom s j (closing caller n ∷ [])) p p
closing_asked s j caller n None = tt
closing_asked s j caller n (Some p) = ([], sym (append-nil p), ([], [], refl, refl, refl))

-- ---- an opening

abbrev from_of : Runtime → JobLine → Asked
from_of a job = asked_of a.aliases job.from

abbrev to_of : Runtime → JobLine → Asked
to_of a job = asked_of a.aliases job.to

-- what was entered is legal, and what was asked for is what it asks for
abbrev legal_reply : (a b : Runtime) (caller : ℕ) (from to : Asked) (reply : Reply) → Leaves a.directory a.books b.books a.library b.library caller from to reply
    → IsAnswered (setting_of a) a.books.graph (log_of a) from to reply
legal_reply a b caller from to reply h = (h.replies.legal (setting_of a) (record { pages_is = refl; source_is = refl })).0

leaves_asked : (a b : Runtime) (caller : ℕ) (from to : Asked) (reply : Reply) → Leaves a.directory a.books b.books a.library b.library caller from to reply
    → AskedSince (FetchesFrom (setting_of a) a.books.journal (entry_of caller from to reply ∷ [])) a.library.paths b.library.paths
leaves_asked a b caller from to reply h =
    let more = h.replies.more in
    asked_more (FetchesFrom (setting_of a) a.books.journal (entry_of caller from to reply ∷ [])) a.library.paths b.library.paths more h.replies.asked.paths
    (fetched_one (setting_of a) a.books.journal (entry_of caller from to reply) more (h.replies.legal (setting_of a) (record { pages_is = refl; source_is = refl })).1)

leaves_keeps : (a b : Runtime) (caller : ℕ) (from to : Asked) (reply : Reply) (n : ℕ) → Leaves a.directory a.books b.books a.library b.library caller from to reply
    → IsSameSetting a b → RoseBy n a.library.faults b.library.faults → Keeps (book_of a) (book_of b) n
leaves_keeps a b caller from to reply n h s rose = record {
  setting = same_setting a b h.enters.graph h.enters.pages s h.replies.asked.told;
  limit = h.enters.limit;
  told = h.replies.asked.told;
  faults = rose;
}

-- ---- a pair that was opened

abbrev is_refused : Reply → Bool
is_refused (Opened chain cost loads modules) = false
is_refused (Refused why) = true

abbrev pub IsOpenedBy : Setting → Shape → Deeds → Asked → Asked → List ℕ → ℕ → List Load → List ℕ → Type 0
IsOpenedBy s graph log from to chain cost loads modules = (source target : Text) × (from ≡ Good source) × (to ≡ Good target)
    × IsOpened s graph log source target chain cost loads modules

pub good_names : (s : Setting) (graph : Shape) (log : Deeds) (from to : Asked) (chain : List ℕ) (cost : ℕ) (loads : List Load) (modules : List ℕ)
    → IsAnswered s graph log from to (Opened chain cost loads (snapshot modules)) → IsOpenedBy s graph log from to chain cost loads modules
good_names s graph log (Good from) (Good to) chain cost loads modules h = (from, to, refl, refl, h.2)
good_names s graph log (Good from) (Bad f) chain cost loads modules h = absurd (true≢false (sym (ap is_refused h.2)))
good_names s graph log (Bad f) (Good to) chain cost loads modules h = absurd (true≢false (sym (ap is_refused h.2)))
good_names s graph log (Bad f) (Bad g) chain cost loads modules h = absurd (true≢false (sym (ap is_refused h.2)))

abbrev new_held : Runtime → Answered → ℕ → Machine → Held
new_held a o n m = record { number = n; tables = tables_for a o; machine = m }

pub held_alone : (a b : Runtime) (from to : Asked) (n : ℕ) (o : Opens a b 1 from to n) → a.held ≡ []
    → b.held ≡ new_held a o.answer n (record { recipe = o.recipe; states = initial }) ∷ []
held_alone a b from to n o idle =
    o.held ∙ ap (λ (hs : List Held). hs ++ new_held a o.answer n (record { recipe = o.recipe; states = initial }) ∷ []) idle

-- the descriptor is there, and its conversion hasn't begun
pub held_there : (a b : Runtime) (from to : Asked) (n : ℕ) (o : Opens a b 1 from to n) → a.held ≡ [] → IsHeld b n
held_there a b from to n o idle =
    let h : Held = new_held a o.answer n (record { recipe = o.recipe; states = initial }) in
    subst (λ (z : Option Held). IsSome z) (sym (held_now h b.held (held_alone a b from to n o idle))) refl

pub held_fresh : (a b : Runtime) (from to : Asked) (n : ℕ) (o : Opens a b 1 from to n) → a.held ≡ [] → IfSome (held_at n b.held) (λ h. h.machine.states ≡ initial)
held_fresh a b from to n o idle =
    let h : Held = new_held a o.answer n (record { recipe = o.recipe; states = initial }) in
    subst (λ (z : Option Held). IfSome z (λ h. h.machine.states ≡ initial)) (sym (held_now h b.held (held_alone a b from to n o idle))) refl

-- its deed opens a pair
pub opens_deed : (from to : Text) (chain : List ℕ) (cost : ℕ) (loads : List Load) (modules : List ℕ) (f t : Asked) → f ≡ Good from → t ≡ Good to
    → deed_of (Opening f t (Opened chain cost loads (snapshot modules))) ≡ opens (record { generation = 0; from = from; to = to }) modules (map loaded_of loads)
opens_deed from to chain cost loads modules f t is_f is_t =
    ap (λ (z : Asked). deed_of (Opening z t (Opened chain cost loads (snapshot modules)))) is_f
    ∙ ap (λ (z : Asked). deed_of (Opening (Good from) z (Opened chain cost loads (snapshot modules)))) is_t

-- a pair that was opened behind a legal history is live
pub opened_live : (a b : Runtime) (from to : Asked) (n : ℕ) (o : Opens a b 1 from to n) → Legal (setting_of a) a.books.journal → IsLive (log_of b) 1 n
opened_live a b from to n o legal =
    let r = o.answer in
    let e : Entry = entry_of 1 from to (reply_of r) in
    let g = good_names (setting_of a) a.books.graph (log_of a) from to r.chain.ordinals r.chain.cost r.loads r.modules (legal_reply a b 1 from to (reply_of r) o.leaves) in
    let there = live_after (setting_of a) a.books.journal e (record { generation = 0; from = g.0; to = g.1 }) r.modules (map loaded_of r.loads) legal
    (opens_deed g.0 g.1 r.chain.ordinals r.chain.cost r.loads r.modules from to g.2 g.3) in
    subst (λ (z : ℕ). IsLive (log_of b) 1 z) (sym o.number_is) (subst (λ (j : List Entry). IsLive (deeds j) 1 (length a.books.journal)) (sym o.leaves.enters.journal) there)

pub none_held : (hs : List Held) → length hs ≡ 0 → hs ≡ []
none_held [] e = refl
none_held (h ∷ hs) e = absurd (omega (arith, e))

-- a call of a descriptor leaves it live
still_live : (b c : Runtime) (n : ℕ) (does : Tables → Machine → Machine → Type 0) → Calls b c n does → IsLive (log_of b) 1 n → IsLive (log_of c) 1 n
still_live b c n does k live = subst (λ (r : Runtime). IsLive (log_of r) 1 n) (sym k.same) live

-- however a conversion ended
pub live_behind : {T E : Type 0} (r : Result T E) (P : T → Tables → Machine → Machine → Type 0) (Q : Tables → Machine → Machine → Type 0)
    (b c : Runtime) (n : ℕ) → IfOk r (λ x. Calls b c n (P x)) → OnErr r (Calls b c n Q) → IsLive (log_of b) 1 n → IsLive (log_of c) 1 n
live_behind (Ok x) P Q b c n h k live = still_live b c n (P x) h live
live_behind (Err e) P Q b c n h k live = still_live b c n Q k live

-- ---- a job whose pair was opened

module _ (a b c d : Runtime) (job : JobLine) (n : ℕ) (does : Tables → Machine → Machine → Type 0) (idle : a.held ≡ [])
    (o : Opens a b 1 (from_of a job) (to_of a job) n) (k : Calls b c n does) (z : Closes c d 1 n) where
  entry : Entry
  entry = opening (setting_of a) 1 job.from job.to (reply_of o.answer)

  abbrev entries : List Entry
  entries = opening (setting_of a) 1 job.from job.to (reply_of o.answer) ∷ closing 1 (length a.books.journal) ∷ []

  same_books : c.books ≡ b.books
  same_books = ap (λ (r : Runtime). r.books) k.same

  same_library : c.library ≡ b.library
  same_library = ap (λ (r : Runtime). r.library) k.same

  journal_is : d.books.journal ≡ a.books.journal ++ entries
  journal_is = z.journal ∙ ap (λ bs. bs.journal ++ closing 1 n ∷ []) same_books
      ∙ ap (λ (j : List Entry). j ++ closing 1 n ∷ []) o.leaves.enters.journal
      ∙ append_assoc a.books.journal (opening (setting_of a) 1 job.from job.to (reply_of o.answer) ∷ []) (closing 1 n ∷ [])
      ∙ ap (λ (m : ℕ). a.books.journal ++ opening (setting_of a) 1 job.from job.to (reply_of o.answer) ∷ closing 1 m ∷ []) o.number_is

  idle_again : d.held ≡ []
  idle_again =
      let h : Held = new_held a o.answer n (record { recipe = o.recipe; states = initial }) in
      z.held ∙ ap (without n) (k.moves.new_is ∙ ap (moved n k.moves.machine) (held_alone a b (from_of a job) (to_of a job) n o idle) ∙ moved_one h k.moves.machine)
      ∙ without_one (record h { machine = k.moves.machine })

  library_is : d.library ≡ b.library
  library_is = z.same.2 ∙ same_library

  pub keeps_all : Keeps (book_of a) (book_of d) 0
  keeps_all = record {
    setting = same_setting a d (z.books.0 ∙ ap (λ bs. bs.graph) same_books ∙ o.leaves.enters.graph) (z.books.1 ∙ ap (λ bs. bs.pages) same_books ∙ o.leaves.enters.pages)
        (z.same.0 ∙ ap (λ (r : Runtime). r.aliases) k.same ∙ o.same.0, z.same.1 ∙ ap (λ (r : Runtime). r.directory) k.same ∙ o.same.1)
        (ap (λ (l : Holdings). l.told) library_is ∙ o.leaves.replies.asked.told);
    limit = z.books.2 ∙ ap (λ bs. bs.limit) same_books ∙ o.leaves.enters.limit;
    told = ap (λ (l : Holdings). l.told) library_is ∙ o.leaves.replies.asked.told;
    faults = subst (λ (l : Holdings). RoseBy 0 a.library.faults l.faults) (sym library_is) (rose_none a.library.faults b.library.faults o.leaves.replies.asked.count);
  }

  pub adds_both : Adds (book_of a) (book_of d) entries
  adds_both = record {
    journal = journal_is;
    live = ap length (idle_again ∙ sym idle);
    keeps = keeps_all;
  }

  pub asked_both : HasAsked (book_of a) (book_of d) entries
  asked_both =
      let s = setting_of a in
      let e : List Entry = opening s 1 job.from job.to (reply_of o.answer) ∷ [] in
      let P : Holdings → Type 0 = λ l. AskedSince (FetchesFrom s a.books.journal entries) a.library.paths l.paths in
      subst P (sym library_is)
      (asked_on s a.books.journal e (closing 1 (length a.books.journal) ∷ []) a.library.paths b.library.paths b.library.paths
      (leaves_asked a b 1 (from_of a job) (to_of a job) (reply_of o.answer) o.leaves)
      (closing_asked s (a.books.journal ++ e) 1 (length a.books.journal) b.library.paths))

  pub enters_both : OpensAndCloses (setting_of a) 1 (length a.books.journal) job entries
  enters_both = record {
    chain = o.answer.chain.ordinals;
    cost = o.answer.chain.cost;
    loaded = o.answer.loads;
    modules = snapshot o.answer.modules;
    is = refl;
  }

  -- the job was cut behind its opening
  pub cut_both : IsCut (book_of a) (book_of d) job
  cut_both = record {
    work = Converted (record { bytes = []; finish = Done });
    entries = entries;
    enters = enters_both;
    adds = adds_both;
  }

-- what a pair makes of an input
makes : (a b : Runtime) (job : JobLine) (n : ℕ) (x bytes : Text) (finish : Finish) (m : Machine)
    (o : Opens a b 1 (from_of a job) (to_of a job) n) → ConvertsWhole x bytes finish (tables_for a o.answer) (record { recipe = o.recipe; states = initial }) m
    → Makes (setting_of a) job.from job.to x (record { bytes = bytes; finish = finish })
makes a b job n x bytes finish m o w =
    let r = o.answer in
    let s = setting_of a in
    let g = good_names s a.books.graph (log_of a) (from_of a job) (to_of a job) r.chain.ordinals r.chain.cost r.loads r.modules
    (legal_reply a b 1 (from_of a job) (to_of a job) (reply_of r) o.leaves) in
    let i = g.4 in
    record {
      source = g.0;
      target = g.1;
      source_is = g.2;
      target_is = g.3;
      way = i.route.chain;
      leads = i.route.leads;
      tables = tables_for a r;
      read = subst (λ (ms : List ℕ). AreTablesOf s.source (flat_map (charmaps_at a.books.graph) ms) (tables_for a r)) (i.modules_is ∙ i.route.steps) o.read;
      recipe = o.recipe;
      recipe_is = ap (λ (k : Chain). recipe_for a.books.graph k.ordinals) (sym i.chain_is) ∙ o.recipe_is;
      means = w.means;
    }

pub job_converted : (a b c d : Runtime) (job : JobLine) (n : ℕ) (x bytes : Text) (finish : Finish) → a.held ≡ []
    → Opens a b 1 (from_of a job) (to_of a job) n → Calls b c n (ConvertsWhole x bytes finish) → Closes c d 1 n
    → Does (book_of a) (book_of d) job (Got x) (Converted (record { bytes = bytes; finish = finish }))
job_converted a b c d job n x bytes finish idle o k z =
    let does = ConvertsWhole x bytes finish in
    let h : Held = new_held a o.answer n (record { recipe = o.recipe; states = initial }) in
    let P : Option Held → Type 0 = λ q. IsSomeAnd q (λ g. ConvertsWhole x bytes finish g.tables g.machine k.moves.machine) in
    let so = subst P (held_now h b.held (held_alone a b (from_of a job) (to_of a job) n o idle)) k.moves.does_so in
    record {
      works = makes a b job n x bytes finish k.moves.machine o so;
      entries = entries a b c d job n does idle o k z;
      enters = enters_both a b c d job n does idle o k z;
      adds = adds_both a b c d job n does idle o k z;
      asked = asked_both a b c d job n does idle o k z;
    }

pub little : (a b c : Runtime) (job : JobLine) (n : ℕ) (x bytes : Text) (finish : Finish) → a.held ≡ [] → Opens a b 1 (from_of a job) (to_of a job) n
    → Calls b c n (ConvertsWhole x bytes finish) → length bytes ≤ 8 * length x + 8
little a b c job n x bytes finish idle o k =
    let h : Held = new_held a o.answer n (record { recipe = o.recipe; states = initial }) in
    let P : Option Held → Type 0 = λ q. IsSomeAnd q (λ g. ConvertsWhole x bytes finish g.tables g.machine k.moves.machine) in
    (subst P (held_now h b.held (held_alone a b (from_of a job) (to_of a job) n o idle)) k.moves.does_so).little

-- ---- a job whose pair was refused

-- the refusals that leave an entry leave this
entered_as : (a b : Runtime) (from to : Asked) (why : Refusal) → HasRefused a.directory a.books b.books a.library b.library 1 from to why → is_entered why ≡ true
    → Leaves a.directory a.books b.books a.library b.library 1 from to (Refused why) × plans.IsBlamed why a.library b.library
entered_as a b from to (BadName which f) h e = h
entered_as a b from to NoConversion h e = h
entered_as a b from to (LibraryFault m w) h e = h
entered_as a b from to (NoCharmap m w) h e = h
entered_as a b from to (BadCharmap m w f) h e = h
entered_as a b from to (StoreFull n l) h e = h
entered_as a b from to (JournalFull n) h e = absurd (true≢false (sym e))
entered_as a b from to Memory h e = absurd (true≢false (sym e))

told_one : (s : Setting) (job : JobLine) (why : Refusal) → told_faults (opening s 1 job.from job.to (Refused why) ∷ []) ≡ library_fault why
told_one s job why = omega arith

pub job_refused : (a b : Runtime) (job : JobLine) (x : Text) (why : Refusal) → Legal (setting_of a) a.books.journal
    → Refuses a b 1 (from_of a job) (to_of a job) why → is_entered why ≡ true → Does (book_of a) (book_of b) job (Got x) (Denied why)
job_refused a b job x why legal r e =
    let s = setting_of a in
    let h = entered_as a b (from_of a job) (to_of a job) why r.refused e in
    let rose = blamed why a.library b.library h.0.replies.asked.count h.1 in
    record {
      works = record {
        entered = e;
        cause = λ p. record {
          lasting = p;
          answered = lasting s a.books.journal (from_of a job) (to_of a job) why legal p (legal_reply a b 1 (from_of a job) (to_of a job) (Refused why) h.0);
        };
      };
      entries = opening s 1 job.from job.to (Refused why) ∷ [];
      enters = refl;
      adds = record {
        journal = h.0.enters.journal;
        live = ap length r.held;
        keeps = subst (Keeps (book_of a) (book_of b)) (sym (told_one s job why)) (leaves_keeps a b 1 (from_of a job) (to_of a job) (Refused why) (library_fault why) h.0 r.same rose);
      };
      asked = leaves_asked a b 1 (from_of a job) (to_of a job) (Refused why) h.0;
    }

-- ---- a job that wanted memory

lost_asked : (g : Ground) (old new : Holdings) (from to : Asked) → Loses g old new from to → (more : List Text) × plans.Asked old new more
lost_asked g old new (Good from) (Good to) h = (h.more, h.asked)
lost_asked g old new (Good from) (Bad f) h = ([], h)
lost_asked g old new (Bad f) to h = ([], h)

lost_keeps : (a b : Runtime) (from to : Asked) → Stays a.books b.books → a.library.faults ≤ b.library.faults → b.library.told ≡ a.library.told
    → IsSameSetting a b → Keeps (book_of a) (book_of b) 0
lost_keeps a b from to s count told same = record {
  setting = same_setting a b s.graph s.pages same told;
  limit = s.limit;
  told = told;
  faults = rose_none a.library.faults b.library.faults count;
}

lost_cut : (a b : Runtime) (job : JobLine) → Stays a.books b.books → Keeps (book_of a) (book_of b) 0 → b.held ≡ a.held → IsCut (book_of a) (book_of b) job
lost_cut a b job s k held = record {
  work = Skipped NoFile;
  entries = [];
  enters = refl;
  adds = record {
    journal = s.journal ∙ sym (append-nil a.books.journal);
    live = ap length held;
    keeps = k;
  };
}

-- A job for whose entries there is place isn't refused for a full journal.
pub not_full : (a b : Runtime) (job : JobLine) (why : Refusal) → Refuses a b 1 (from_of a job) (to_of a job) why
    → HasPlace (book_of a) → is_full why ≡ true → ⊥
not_full a b job (BadName which f) r h e = absurd (true≢false (sym e))
not_full a b job NoConversion r h e = absurd (true≢false (sym e))
not_full a b job (LibraryFault m w) r h e = absurd (true≢false (sym e))
not_full a b job (NoCharmap m w) r h e = absurd (true≢false (sym e))
not_full a b job (BadCharmap m w f) r h e = absurd (true≢false (sym e))
not_full a b job (StoreFull n l) r h e = absurd (true≢false (sym e))
not_full a b job (JournalFull n) r h e =
    let past = r.refused.0.1 in
    let few = live_few a.books.journal in
    absurd (omega (arith, past, few, h))
not_full a b job Memory r h e = absurd (true≢false (sym e))

pub job_lost : (a b : Runtime) (job : JobLine) (why : Refusal) → Refuses a b 1 (from_of a job) (to_of a job) why → is_entered why ≡ false → IsCut (book_of a) (book_of b) job
job_lost a b job (BadName which f) r e = absurd (true≢false e)
job_lost a b job NoConversion r e = absurd (true≢false e)
job_lost a b job (LibraryFault m w) r e = absurd (true≢false e)
job_lost a b job (NoCharmap m w) r e = absurd (true≢false e)
job_lost a b job (BadCharmap m w f) r e = absurd (true≢false e)
job_lost a b job (StoreFull n l) r e = absurd (true≢false e)
job_lost a b job (JournalFull n) r e =
    let same : b.library ≡ a.library = r.refused.2 in
    let count : a.library.faults ≤ b.library.faults = subst (λ (l : Holdings). a.library.faults ≤ l.faults) (sym same) (omega arith) in
    lost_cut a b job r.refused.1 (lost_keeps a b (from_of a job) (to_of a job) r.refused.1 count (ap (λ (l : Holdings). l.told) same) r.same) r.held
job_lost a b job Memory r e =
    let lost = lost_asked (ground_of a.directory a.books) a.library b.library (from_of a job) (to_of a job) r.refused.1 in
    lost_cut a b job r.refused.0 (lost_keeps a b (from_of a job) (to_of a job) r.refused.0 lost.1.count lost.1.told r.same) r.held
