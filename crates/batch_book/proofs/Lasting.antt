-- What a legal history refuses for a reason that lasts is refused where nothing is resident.
use Rattle.std.proofs.Common.{◌≡◌, ◌≢◌, ◌⊎◌, ◌∙◌, ℕ, eqb, Bool, true, false, not, ◌||◌, cond, List, [], ◌∷◌, ◌++◌, map, ap, ap₂, sym, subst, refl, inl, inr, ⊎_elim, append_assoc, append-nil, true≢false, eqb-true, eq-eqb}
use Rattle.std.specs.List.{list_any, filter}
use Rattle.code_pairs.specs.Tables.{Tables}
use Rattle.code_pairs.specs.Tables as tables
use Rattle.module_graph.specs.Graph.{Shape}
use Rattle.module_graph.specs.Numbers.{with_new}
use Rattle.runtime_histories.specs.declared.entries.Entry.{Entry}
use Rattle.runtime_histories.specs.declared.entries.Reply.TheVariants.{Refused}
use Rattle.runtime_histories.specs.declared.refusals.Asked.{Asked}
use Rattle.runtime_histories.specs.declared.refusals.Asked.TheVariants.{Good, Bad}
use Rattle.runtime_histories.specs.declared.refusals.Refusal.{Refusal}
use Rattle.runtime_histories.specs.declared.refusals.Refusal.TheVariants.{BadName, NoConversion, LibraryFault, NoCharmap, BadCharmap, StoreFull, JournalFull, Memory}
use Rattle.runtime_histories.specs.Deeds.{Deeds, marks}
use Rattle.runtime_histories.specs.Residence.{resident}
use Rattle.runtime_histories.specs.Places.{among}
use Rattle.runtime_histories.specs.Entries.{deeds}
use Rattle.runtime_histories.specs.Settings.{Setting, Source, charmaps_at}
use Rattle.runtime_histories.specs.Charmaps.{Wanted, each, wanted_by, wanted, words_of, AreTablesOf, ComesTo}
use Rattle.runtime_histories.specs.Legal.{Legal, IsAnswered, IsStopped, absent_among}
use Rattle.runtime_histories.proofs.Basics.{any-append}
use Rattle.batch_runs.specs.Meanings.{is_passing}
use Rattle.batch_book.proofs.Resident.{HasTables, AreReadable, readable_legal}

-- The one list is the other without modules whose charmaps have tables.
abbrev Drops : Setting → List ℕ → List ℕ → Type 0
Drops s rs [] = rs ≡ []
Drops s rs (d ∷ ds) = (HasTables s d × Drops s rs ds) ⊎ ((bs : List ℕ) × (rs ≡ d ∷ bs) × Drops s bs ds)

drops_both : (s : Setting) (rs ds : List ℕ) (x : ℕ) → Drops s rs ds → Drops s (rs ++ x ∷ []) (ds ++ x ∷ [])
drops_both s rs [] x h = inr ([], ap (λ z. z ++ x ∷ []) h, refl)
drops_both s rs (d ∷ ds) x (inl h) = inl (h.0, drops_both s rs ds x h.1)
drops_both s rs (d ∷ ds) x (inr h) = inr (h.0 ++ x ∷ [], ap (λ z. z ++ x ∷ []) h.1, drops_both s h.0 ds x h.2)

drops_one : (s : Setting) (rs ds : List ℕ) (x : ℕ) → HasTables s x → Drops s rs ds → Drops s rs (ds ++ x ∷ [])
drops_one s rs [] x t h = inl (t, h)
drops_one s rs (d ∷ ds) x t (inl h) = inl (h.0, drops_one s rs ds x t h.1)
drops_one s rs (d ∷ ds) x t (inr h) = inr (h.0, h.1, drops_one s h.0 ds x t h.2)

abbrev in_list : ℕ → List ℕ → Bool
in_list x ys = list_any (λ k. eqb x k) ys

abbrev Agree : (ℕ → Bool) → List ℕ → List ℕ → Type 0
Agree gone rs ds = (x : ℕ) → gone x ≡ true → in_list x rs ≡ in_list x ds

abbrev news : List ℕ → List ℕ → List ℕ
news seen xs = with_new (λ m k. eqb m k) seen xs

abbrev added : List ℕ → ℕ → List ℕ
added seen x = cond (in_list x seen) seen (seen ++ x ∷ [])

in-snoc : (x : ℕ) (ys : List ℕ) (y : ℕ) → in_list x (ys ++ y ∷ []) ≡ (in_list x ys || (eqb x y || false))
in-snoc x ys y = any-append (λ k. eqb x k) ys (y ∷ [])

-- All modules that are not gone have tables: then those that are gone, in order, are all without some that have
-- tables.
module _ (s : Setting) (gone : ℕ → Bool) (tables_of : (m : ℕ) → gone m ≡ false → HasTables s m) where
  agree_added : (rs ds : List ℕ) (x : ℕ) → Agree gone rs ds → gone x ≡ false → Agree gone rs (added ds x)
  agree_added rs ds x a stays y f = a y f ∙ go (in_list x ds)
    where
      other : (eqb y x || false) ≡ false
      other = step (eqb y x) refl
        where
          step : (b : Bool) → eqb y x ≡ b → (b || false) ≡ false
          step true e = absurd (true≢false (sym f ∙ ap gone (eqb-true y x e) ∙ stays))
          step false e = refl

      or_none : (a b : Bool) → b ≡ false → (a || b) ≡ a
      or_none true b e = refl
      or_none false b e = e

      go : (b : Bool) → in_list y ds ≡ in_list y (cond b ds (ds ++ x ∷ []))
      go true = refl
      go false = sym (in-snoc y ds x ∙ or_none (in_list y ds) (eqb y x || false) other)

  agree_both : (rs ds : List ℕ) (x : ℕ) → Agree gone rs ds → gone x ≡ true → Agree gone (added rs x) (added ds x)
  agree_both rs ds x a f y g = go (in_list x rs) (in_list x ds) (a x f)
    where
      go : (b c : Bool) → b ≡ c → in_list y (cond b rs (rs ++ x ∷ [])) ≡ in_list y (cond c ds (ds ++ x ∷ []))
      go true true e = a y g
      go true false e = absurd (true≢false e)
      go false true e = absurd (true≢false (sym e))
      go false false e = in-snoc y rs x ∙ ap (λ b. b || (eqb y x || false)) (a y g) ∙ sym (in-snoc y ds x)

  drops_added : (rs ds : List ℕ) (x : ℕ) → Drops s rs ds → gone x ≡ false → Drops s rs (added ds x)
  drops_added rs ds x h stays = go (in_list x ds)
    where
      go : (b : Bool) → Drops s rs (cond b ds (ds ++ x ∷ []))
      go true = h
      go false = drops_one s rs ds x (tables_of x stays) h

  drops_all : (rs ds : List ℕ) (x : ℕ) → Drops s rs ds → Agree gone rs ds → gone x ≡ true → Drops s (added rs x) (added ds x)
  drops_all rs ds x h a f = go (in_list x rs) (in_list x ds) (a x f)
    where
      go : (b c : Bool) → b ≡ c → Drops s (cond b rs (rs ++ x ∷ [])) (cond c ds (ds ++ x ∷ []))
      go true true e = h
      go true false e = absurd (true≢false e)
      go false true e = absurd (true≢false (sym e))
      go false false e = drops_both s rs ds x h

  drops_news : (rs ds ms : List ℕ) → Drops s rs ds → Agree gone rs ds → Drops s (news rs (filter gone ms)) (news ds ms)
  drops_news rs ds [] h a = h
  drops_news rs ds (x ∷ ms) h a = go (gone x) refl
      (λ f. drops_news (added rs x) (added ds x) ms (drops_all rs ds x h a f) (agree_both rs ds x a f))
      (λ f. drops_news rs (added ds x) ms (drops_added rs ds x h f) (agree_added rs ds x a f))
    where
      go : (b : Bool) → gone x ≡ b
          → (gone x ≡ true → Drops s (news (added rs x) (filter gone ms)) (news (added ds x) ms))
          → (gone x ≡ false → Drops s (news rs (filter gone ms)) (news (added ds x) ms))
          → Drops s (news rs (cond b (x ∷ filter gone ms) (filter gone ms))) (news (added ds x) ms)
      go true f one other = one f
      go false f one other = other f

-- ---- the walk over charmaps

words-each : (m : ℕ) (ws : List (List ℕ)) → words_of (each m ws) ≡ ws
words-each m [] = refl
words-each m (w ∷ ws) = ap (λ z. w ∷ z) (words-each m ws)

words-append : (xs ys : List Wanted) → words_of (xs ++ ys) ≡ words_of xs ++ words_of ys
words-append [] ys = refl
words-append (x ∷ xs) ys = ap (λ z. x.charmap ∷ z) (words-append xs ys)

tables-append : (s : Source) (vs ws : List (List ℕ)) (ts us : Tables) → AreTablesOf s vs ts → AreTablesOf s ws us → AreTablesOf s (vs ++ ws) (ts ++ us)
tables-append s [] ws [] us h k = k
tables-append s [] ws (t ∷ ts) us h k = absurd h
tables-append s (v ∷ vs) ws [] us h k = absurd h
tables-append s (v ∷ vs) ws (t ∷ ts) us h k = (h.0, tables-append s vs ws ts us h.1 k)

abbrev AreSplit : Source → List (List ℕ) → List (List ℕ) → Type 0
AreSplit s vs ws = (ts us : Tables) × AreTablesOf s vs ts × AreTablesOf s ws us

tables-split : (s : Source) (vs ws : List (List ℕ)) (ts : Tables) → AreTablesOf s (vs ++ ws) ts → AreSplit s vs ws
tables-split s [] ws ts h = ([], ts, tt, h)
tables-split s (v ∷ vs) ws [] h = absurd h
tables-split s (v ∷ vs) ws (t ∷ ts) h = let r = tables-split s vs ws ts h.1 in (t ∷ r.0, r.1, (h.0, r.2), r.3)

-- Where one item stands in two lists, one behind the other.
abbrev Stands : List Wanted → List Wanted → List Wanted → Wanted → List Wanted → Type 0
Stands xs ys before at behind =
    ((more : List Wanted) × (xs ≡ before ++ at ∷ more)) ⊎ ((more : List Wanted) × (before ≡ xs ++ more) × (ys ≡ more ++ at ∷ behind))

abbrev tail_of : List Wanted → List Wanted
tail_of [] = []
tail_of (x ∷ xs) = xs

abbrev head_of : Wanted → List Wanted → Wanted
head_of w [] = w
head_of w (x ∷ xs) = x

stands_in : (xs ys before : List Wanted) (at : Wanted) (behind : List Wanted) → xs ++ ys ≡ before ++ at ∷ behind → Stands xs ys before at behind
stands_in [] ys before at behind e = inr (before, refl, e)
stands_in (x ∷ xs) ys [] at behind e = inl (xs, ap (λ z. z ∷ xs) (ap (head_of at) e))
stands_in (x ∷ xs) ys (b ∷ before) at behind e =
    let first : x ≡ b = ap (head_of at) e in
    ⊎_elim
    (λ h. inl (h.0, ap₂ (λ (z : Wanted) (zs : List Wanted). z ∷ zs) first h.1))
    (λ h. inr (h.0, ap₂ (λ (z : Wanted) (zs : List Wanted). z ∷ zs) (sym first) h.1, h.2))
    (stands_in xs ys before at behind (ap tail_of e))

-- A walk that comes to a charmap comes to it behind others that have tables.
behind_readable : (s : Setting) (d : ℕ) (rest : List Wanted) (at : Wanted) → HasTables s d → ComesTo s.source rest at
    → ComesTo s.source (wanted_by s.first.graph d ++ rest) at
behind_readable s d rest at t c =
    let ws = charmaps_at s.first.graph d in
    let front = wanted_by s.first.graph d in
    let same : words_of (front ++ c.before) ≡ ws ++ words_of c.before =
    words-append front c.before ∙ ap (λ z. z ++ words_of c.before) (words-each d ws) in
    record {
      before = front ++ c.before;
      behind = c.behind;
      whole = ap (λ z. front ++ z) c.whole ∙ sym (append_assoc front c.before (at ∷ c.behind));
      tables = t.0 ++ c.tables;
      read = subst (λ (z : List (List ℕ)). AreTablesOf s.source z (t.0 ++ c.tables)) (sym same)
          (tables-append s.source ws (words_of c.before) t.0 c.tables t.1 c.read);
    }

comes_behind : (s : Setting) (d : ℕ) (bs ds : List ℕ) (at : Wanted)
    → (ComesTo s.source (wanted s.first.graph bs) at → ComesTo s.source (wanted s.first.graph ds) at)
    → ComesTo s.source (wanted s.first.graph (d ∷ bs)) at → ComesTo s.source (wanted s.first.graph (d ∷ ds)) at
comes_behind s d bs ds at on c = go (stands_in front (wanted s.first.graph bs) c.before at c.behind c.whole)
  where
    ws : List (List ℕ)
    ws = charmaps_at s.first.graph d

    front : List Wanted
    front = wanted_by s.first.graph d

    go : Stands front (wanted s.first.graph bs) c.before at c.behind → ComesTo s.source (wanted s.first.graph (d ∷ ds)) at
    go (inl h) = record {
      before = c.before;
      behind = h.0 ++ wanted s.first.graph ds;
      whole = ap (λ z. z ++ wanted s.first.graph ds) h.1 ∙ append_assoc c.before (at ∷ h.0) (wanted s.first.graph ds);
      tables = c.tables;
      read = c.read;
    }
    go (inr h) =
        let same : words_of c.before ≡ ws ++ words_of h.0 =
        ap words_of h.1 ∙ words-append front h.0 ∙ ap (λ z. z ++ words_of h.0) (words-each d ws) in
        let r = tables-split s.source ws (words_of h.0) c.tables (subst (λ (z : List (List ℕ)). AreTablesOf s.source z c.tables) same c.read) in
        behind_readable s d (wanted s.first.graph ds) at (r.0, r.2)
        (on (record { before = h.0; behind = c.behind; whole = h.2; tables = r.1; read = r.3 }))

comes_to_all : (s : Setting) (rs ds : List ℕ) (at : Wanted) → Drops s rs ds → ComesTo s.source (wanted s.first.graph rs) at
    → ComesTo s.source (wanted s.first.graph ds) at
comes_to_all s rs [] at h c = subst (λ z. ComesTo s.source (wanted s.first.graph z) at) h c
comes_to_all s rs (d ∷ ds) at (inl h) c = behind_readable s d (wanted s.first.graph ds) at h.0 (comes_to_all s rs ds at h.1 c)
comes_to_all s rs (d ∷ ds) at (inr h) c =
    comes_behind s d h.0 ds at (comes_to_all s h.0 ds at h.2)
    (subst (λ z. ComesTo s.source (wanted s.first.graph z) at) h.1 c)

-- ---- refusals

all_gone : (ms : List ℕ) → filter (λ m. not (resident (marks []) m)) ms ≡ ms
all_gone [] = refl
all_gone (m ∷ ms) = ap (λ z. m ∷ z) (all_gone ms)

not_false : (b : Bool) → not b ≡ false → b ≡ true
not_false true e = refl
not_false false e = absurd (true≢false e)

stopped_first : (s : Setting) (log : Deeds) (from to : List ℕ) (m : ℕ) (word : List ℕ) → AreReadable s log
    → IsStopped s s.first.graph log from to m word → IsStopped s s.first.graph [] from to m word
stopped_first s log from to m word readable h =
    let ms = h.route.modules in
    let at : Wanted = record { «module» = m; charmap = word } in
    let gone : ℕ → Bool = λ k. not (resident (marks log) k) in
    let drops : Drops s (absent_among log ms) (news [] ms) =
    drops_news s gone (λ k stays. readable k (not_false (resident (marks log) k) stays)) [] [] ms refl (λ x f. refl) in
    let all : Drops s (absent_among log ms) (absent_among [] ms) =
    subst (λ z. Drops s (absent_among log ms) (news [] z)) (sym (all_gone ms)) drops in
    record {
      route = record {
        chain = h.route.chain;
        leads = h.route.leads;
        modules = ms;
        steps = h.route.steps;
        absent = absent_among [] ms;
        missing = refl;
      };
      comes = comes_to_all s (absent_among log ms) (absent_among [] ms) at all
          (subst (λ z. ComesTo s.source (wanted s.first.graph z) at) h.route.missing h.comes);
    }

refused_first : (s : Setting) (log : Deeds) (from to : List ℕ) (why : Refusal) → AreReadable s log → is_passing why ≡ false
    → IsAnswered s s.first.graph log (Good from) (Good to) (Refused why) → IsAnswered s s.first.graph [] (Good from) (Good to) (Refused why)
refused_first s log from to (BadName which f) r p h = h
refused_first s log from to NoConversion r p h = h
refused_first s log from to (LibraryFault m w) r p h = absurd (true≢false p)
refused_first s log from to (NoCharmap m w) r p h = (h.0, h.1, (stopped_first s log from to m w r h.2.0, h.2.1))
refused_first s log from to (BadCharmap m w f) r p h = (h.0, h.1, (stopped_first s log from to m w r h.2.0, h.2.1))
refused_first s log from to (StoreFull n l) r p h = absurd (true≢false p)
refused_first s log from to (JournalFull n) r p h = h
refused_first s log from to Memory r p h = h

-- A refusal behind a legal history, but for a fault of the library and a full store, is one where nothing is resident.
pub lasting : (s : Setting) (history : List Entry) (from to : Asked) (why : Refusal) → Legal s history → is_passing why ≡ false
    → IsAnswered s s.first.graph (deeds history) from to (Refused why) → IsAnswered s s.first.graph [] from to (Refused why)
lasting s history (Bad f) (Bad g) why legal p h = h
lasting s history (Bad f) (Good to) why legal p h = h
lasting s history (Good from) (Bad f) why legal p h = h
lasting s history (Good from) (Good to) why legal p h = refused_first s (deeds history) from to why (readable_legal s history legal) p h
