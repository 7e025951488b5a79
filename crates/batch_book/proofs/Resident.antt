-- In a legal history the charmaps of a module that is resident have tables.
use Rattle.std.proofs.Common.{◌≡◌, ◌≢◌, ◌⊎◌, ◌∙◌, ℕ, eqb, Bool, true, false, not, ◌||◌, cond, List, [], ◌∷◌, ◌++◌, map, ap, sym, subst, refl, inl, inr, ⊎_elim, append_assoc, append-nil, true≢false, eqb-true, eq-eqb}
use Rattle.std.specs.List.{list_any, filter}
use Rattle.code_pairs.specs.Tables.{Tables}
use Rattle.module_graph.specs.Graph.{Shape}
use Rattle.module_graph.specs.Numbers.{with_new}
use Rattle.runtime_histories.specs.declared.entries.Entry.{Entry}
use Rattle.runtime_histories.specs.declared.entries.Event.{Event}
use Rattle.runtime_histories.specs.declared.entries.Event.TheVariants.{Opening, Closing}
use Rattle.runtime_histories.specs.declared.entries.Reply.{Reply}
use Rattle.runtime_histories.specs.declared.entries.Reply.TheVariants.{Opened, Refused}
use Rattle.runtime_histories.specs.declared.refusals.Asked.{Asked}
use Rattle.runtime_histories.specs.declared.refusals.Asked.TheVariants.{Good, Bad}
use Rattle.runtime_histories.specs.Deeds.{Deeds, Loaded, act, opens, closes, rests, marks, IsLive}
use Rattle.runtime_histories.specs.Residence.{resident}
use Rattle.runtime_histories.specs.Places.{among}
use Rattle.runtime_histories.specs.Entries.{deeds, deed_of, loaded_of}
use Rattle.runtime_histories.specs.Settings.{Setting, Source, charmaps_at}
use Rattle.runtime_histories.specs.Charmaps.{AreTablesOf}
use Rattle.runtime_histories.specs.Legal.{Legal, LegalFrom, Next, IsNext, IsAnswered, IsOpened, AreRead, absent_among, loaded_modules}
use Rattle.runtime_histories.proofs.Basics.{any-append}
use Rattle.runtime_histories.proofs.Legality.{deeds-snoc, sound_legal, Legal-snoc}
use Rattle.module_counts.proofs.Living.{marks_rests}
use Rattle.conversion_book.proofs.Residing.{resident_opens, resident_closes}

-- The charmaps of a module have tables.
abbrev pub HasTables : Setting → ℕ → Type 0
HasTables s m = (ts : Tables) × AreTablesOf s.source (charmaps_at s.first.graph m) ts

-- Each resident module's charmaps do.
abbrev pub AreReadable : Setting → Deeds → Type 0
AreReadable s log = (m : ℕ) → resident (marks log) m ≡ true → HasTables s m

or_true : (a b : Bool) → (a || b) ≡ true → (a ≡ true) ⊎ (b ≡ true)
or_true true b e = inl refl
or_true false b e = inr e

true_or : (a b : Bool) → a ≡ true → (a || b) ≡ true
true_or true b e = refl
true_or false b e = absurd (true≢false (sym e))

or_right : (a b : Bool) → b ≡ true → (a || b) ≡ true
or_right true b e = refl
or_right false b e = e

abbrev news : List ℕ → List ℕ → List ℕ
news seen xs = with_new (λ m k. eqb m k) seen xs

seen_stays : (m : ℕ) (seen xs : List ℕ) → among m seen ≡ true → among m (news seen xs) ≡ true
seen_stays m seen [] e = e
seen_stays m seen (x ∷ xs) e = seen_stays m (cond (list_any (λ k. eqb x k) seen) seen (seen ++ x ∷ [])) xs (go (list_any (λ k. eqb x k) seen))
  where
    go : (b : Bool) → among m (cond b seen (seen ++ x ∷ [])) ≡ true
    go true = e
    go false = any-append (λ y. eqb y m) seen (x ∷ []) ∙ true_or (among m seen) (among m (x ∷ [])) e

flipped : (x m : ℕ) (ys : List ℕ) → eqb x m ≡ true → list_any (λ k. eqb x k) ys ≡ true → among m ys ≡ true
flipped x m [] z f = f
flipped x m (y ∷ ys) z f = ⊎_elim
    (λ g. true_or (eqb y m) (among m ys) (eq-eqb y m (sym (eqb-true x y g) ∙ eqb-true x m z)))
    (λ g. or_right (eqb y m) (among m ys) (flipped x m ys z g))
    (or_true (eqb x y) (list_any (λ k. eqb x k) ys) f)

new_there : (m : ℕ) (seen xs : List ℕ) → among m xs ≡ true → among m (news seen xs) ≡ true
new_there m seen [] e = absurd (true≢false (sym e))
new_there m seen (x ∷ xs) e = ⊎_elim
    (λ (z : eqb x m ≡ true). seen_stays m (cond (list_any (λ k. eqb x k) seen) seen (seen ++ x ∷ [])) xs (here z (list_any (λ k. eqb x k) seen) refl))
    (λ z. new_there m (cond (list_any (λ k. eqb x k) seen) seen (seen ++ x ∷ [])) xs z)
    (or_true (eqb x m) (among m xs) e)
  where
    here : eqb x m ≡ true → (b : Bool) → list_any (λ k. eqb x k) seen ≡ b → among m (cond b seen (seen ++ x ∷ [])) ≡ true
    here z true f = flipped x m seen z f
    here z false f = any-append (λ y. eqb y m) seen (x ∷ []) ∙ or_right (among m seen) (among m (x ∷ [])) (true_or (eqb x m) false z)

among_filter : (p : ℕ → Bool) (m : ℕ) (xs : List ℕ) → p m ≡ true → among m xs ≡ true → among m (filter p xs) ≡ true
among_filter p m [] f e = e
among_filter p m (x ∷ xs) f e = ⊎_elim
    (λ (z : eqb x m ≡ true). ap (λ (b : Bool). among m (cond b (x ∷ filter p xs) (filter p xs))) (ap p (eqb-true x m z) ∙ f) ∙ true_or (eqb x m) (among m (filter p xs)) z)
    (λ z. go (p x) (among_filter p m xs f z))
    (or_true (eqb x m) (among m xs) e)
  where
    go : (b : Bool) → among m (filter p xs) ≡ true → among m (cond b (x ∷ filter p xs) (filter p xs)) ≡ true
    go true h = or_right (eqb x m) (among m (filter p xs)) h
    go false h = h

-- A module of a chain that isn't resident is absent.
absent_there : (log : Deeds) (m : ℕ) (ms : List ℕ) → among m ms ≡ true → resident (marks log) m ≡ false → among m (absent_among log ms) ≡ true
absent_there log m ms e r = new_there m [] (filter (λ k. not (resident (marks log) k)) ms) (among_filter (λ k. not (resident (marks log) k)) m ms (ap not r) e)

-- A module that was loaded has tables.
loaded_tables : (s : Setting) (m : ℕ) (ls : List Loaded) → AreRead s.source s.first.graph ls → among m (loaded_modules ls) ≡ true → HasTables s m
loaded_tables s m [] h e = absurd (true≢false (sym e))
loaded_tables s m (l ∷ ls) h e = ⊎_elim
    (λ (z : eqb l.«module» m ≡ true). (l.tables, subst (λ (k : ℕ). AreTablesOf s.source (charmaps_at s.first.graph k) l.tables) (eqb-true l.«module» m z) h.0))
    (λ z. loaded_tables s m ls h.1 z)
    (or_true (eqb l.«module» m) (among m (loaded_modules ls)) e)

cases : (b : Bool) → (b ≡ true) ⊎ (b ≡ false)
cases true = inl refl
cases false = inr refl

rests_readable : (s : Setting) (log : Deeds) (c : ℕ) → AreReadable s log → AreReadable s (log ++ act c rests ∷ [])
rests_readable s log c k m e = k m (ap (λ z. resident z m) (sym (marks_rests log c)) ∙ e)

opened_readable : (s : Setting) (b : List Entry) (c : ℕ) (from to : Asked) (reply : Reply) → AreReadable s (deeds b)
    → IsAnswered s s.first.graph (deeds b) from to reply → AreReadable s (deeds b ++ act c (deed_of (Opening from to reply)) ∷ [])
opened_readable s b c (Bad f) to reply k h = rests_readable s (deeds b) c k
opened_readable s b c (Good from) (Bad f) reply k h = rests_readable s (deeds b) c k
opened_readable s b c (Good from) (Good to) (Refused why) k h = rests_readable s (deeds b) c k
opened_readable s b c (Good from) (Good to) (Opened chain cost loads modules) k h = λ m e. ⊎_elim
    (λ there. ⊎_elim (k m)
    (λ gone. loaded_tables s m (map loaded_of loads) h.2.read
    (ap (among m) h.2.absent_is ∙ ap (among m) h.2.route.missing
    ∙ absent_there (deeds b) m h.2.route.modules (ap (among m) (sym h.2.modules_is) ∙ there) gone))
    (cases (resident (marks (deeds b)) m)))
    (k m)
    (resident_opens (deeds b) c _ modules.value (map loaded_of loads) m e)

next_readable : (s : Setting) (b : List Entry) (c : ℕ) (e : Event) → Legal s b → AreReadable s (deeds b) → IsNext s b c e
    → AreReadable s (deeds b ++ act c (deed_of e) ∷ [])
next_readable s b c (Opening from to reply) legal k h = opened_readable s b c from to reply k h
next_readable s b c (Closing n) legal k h = λ m e. k m (resident_closes (deeds b) (sound_legal s b legal).balanced c n h m e)

readable_from : (s : Setting) (b es : List Entry) → Legal s b → AreReadable s (deeds b) → LegalFrom s b es → AreReadable s (deeds (b ++ es))
readable_from s b [] legal k h = subst (λ (z : List Entry). AreReadable s (deeds z)) (sym (append-nil b)) k
readable_from s b (e ∷ es) legal k h =
    subst (λ (z : List Entry). AreReadable s (deeds z)) (append_assoc b (e ∷ []) es)
    (readable_from s (b ++ e ∷ []) es (Legal-snoc s b e legal h.0)
    (subst (AreReadable s) (sym (deeds-snoc b e)) (next_readable s b e.caller e.event legal k h.0)) h.1)

-- The charmaps of all modules that are resident after a legal history have tables.
pub readable_legal : (s : Setting) (h : List Entry) → Legal s h → AreReadable s (deeds h)
readable_legal s h legal = readable_from s [] h tt (λ m e. absurd (true≢false (sym e))) legal
