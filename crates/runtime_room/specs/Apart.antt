-- The places of a legal history are apart, lie in the store, and have good tables.
use Rattle.std.proofs.Common.{◌≡◌, ◌≢◌, ℕ, zero, suc, ◌+◌, ◌-◌, ◌<◌, ◌≤◌, eqb, Bool, true, false, not, ◌||◌, cond, List, [], ◌∷◌, ◌++◌, length, take, sym, refl, ap, ◌∙◌, subst, arith, append_assoc, append-nil, true≢false, ne_eqb, eq-eqb, map}
use mathlib.Core.Logic.{dite}
use native.Mathlib.Decide.{ℕ_discrete}
use Rattle.std.specs.List.{filter, range_with_len, AllByRecursion}
use Rattle.code_pairs.specs.Tables.{Table, HasPoints, IsWellFormed}
use Rattle.module_graph.specs.Graph.{Shape}
use Rattle.runtime_histories.specs.declared.refusals.Asked.{Asked}
use Rattle.runtime_histories.specs.declared.refusals.Asked.TheVariants.{Good, Bad}
use Rattle.runtime_histories.specs.declared.entries.Reply.{Reply}
use Rattle.runtime_histories.specs.declared.entries.Reply.TheVariants.{Opened, Refused}
use Rattle.runtime_histories.specs.declared.entries.Event.{Event}
use Rattle.runtime_histories.specs.declared.entries.Event.TheVariants.{Opening, Closing}
use Rattle.runtime_histories.specs.declared.entries.Entry.{Entry}
use Rattle.runtime_histories.specs.Charmaps.{AreTablesOf}
use Rattle.runtime_histories.specs.Deeds.{Loaded, Act, act, Deed, opens, closes, rests, Deeds, marks}
use Rattle.runtime_histories.specs.Entries.{deed_of, opening_of, deeds, loaded_of}
use Rattle.runtime_histories.specs.Legal.{load_pages, AreRead, IsAnswered, IsNext, Next, LegalFrom}
use Rattle.runtime_histories.specs.Places.{Placed, among, pages_for, all_pages, all_needs, free_of, lowest, placed_at, place_loads, place_deed, places}
use Rattle.runtime_histories.specs.Residence.{resident}
use Rattle.runtime_histories.specs.Settings.{Setting, Source}
use Rattle.runtime_histories.proofs.Legality.{deeds-snoc}
use Rattle.runtime_histories.proofs.Pinning.{places-snoc}
use Rattle.module_counts.specs.Stocks.{Once}
use Rattle.module_counts.proofs.Tidying.{length-lowest}
use Rattle.runtime_room.specs.Rooms.{IsOfPoints, LoadsPoints}

-- A table that can be asked, and whose page image can be read.
abbrev pub IsGood : Table → Type 0
IsGood table = IsWellFormed table × HasPoints table

-- Each module has as many pages as its tables need; no page stands twice; all are pages of the store;
-- and the tables are good.
pub record IsOrdered (pages : ℕ) (held : List Placed) : Type 0 where
  pub fits : AllByRecursion (λ (x : Placed). length x.pages ≡ pages_for x.tables) held
  pub once : Once (all_pages held)
  pub below : AllByRecursion (λ (k : ℕ). k < pages) (all_pages held)
  pub within : all_needs held ≤ pages
  pub good : AllByRecursion (λ (x : Placed). AllByRecursion IsGood x.tables) held

or_false_both : (a b : Bool) → (a || b) ≡ false → (a ≡ false) × (b ≡ false)
or_false_both true b e = absurd (true≢false e)
or_false_both false b e = (refl, e)

-- A number stands in one of two lists.
pub among-append : (m : ℕ) (xs ys : List ℕ) → among m (xs ++ ys) ≡ (among m xs || among m ys)
among-append m [] ys = refl
among-append m (x ∷ xs) ys = go (eqb x m) (among-append m xs ys)
  where
    go : (b : Bool) → among m (xs ++ ys) ≡ (among m xs || among m ys) → (b || among m (xs ++ ys)) ≡ ((b || among m xs) || among m ys)
    go true e = refl
    go false e = e

pub among_neither : (m : ℕ) (xs ys : List ℕ) → among m xs ≡ false → among m ys ≡ false → among m (xs ++ ys) ≡ false
among_neither m xs ys e f = among-append m xs ys ∙ (ap (λ (b : Bool). b || among m ys) e ∙ f)

pub among_both : (m : ℕ) (xs ys : List ℕ) → among m (xs ++ ys) ≡ false → (among m xs ≡ false) × (among m ys ≡ false)
among_both m xs ys e = or_false_both (among m xs) (among m ys) (sym (among-append m xs ys) ∙ e)

-- Lists that share no number.
abbrev pub Share : List ℕ → List ℕ → Type 0
Share xs ys = AllByRecursion (λ (k : ℕ). among k ys ≡ false) xs

pub once_split : (xs ys : List ℕ) → Once (xs ++ ys) → Once xs × Once ys × Share xs ys
once_split [] ys h = (tt, h, tt)
once_split (x ∷ xs) ys h = let r = once_split xs ys h.1 in let b = among_both x xs ys h.0 in ((b.0, r.0), r.1, (b.1, r.2))

pub once_join : (xs ys : List ℕ) → Once xs → Once ys → Share xs ys → Once (xs ++ ys)
once_join [] ys h k s = k
once_join (x ∷ xs) ys h k s = (among_neither x xs ys h.0 s.0, once_join xs ys h.1 k s.1)

pub all_join : {A : Type 0} (P : A → Type 0) (xs ys : List A) → AllByRecursion P xs → AllByRecursion P ys → AllByRecursion P (xs ++ ys)
all_join P [] ys h k = k
all_join P (x ∷ xs) ys h k = (h.0, all_join P xs ys h.1 k)

pub all_split : {A : Type 0} (P : A → Type 0) (xs ys : List A) → AllByRecursion P (xs ++ ys) → AllByRecursion P xs × AllByRecursion P ys
all_split P [] ys h = (tt, h)
all_split P (x ∷ xs) ys h = let r = all_split P xs ys h.1 in ((h.0, r.0), r.1)

pub all_map : {A : Type 0} (P Q : A → Type 0) (xs : List A) → ((x : A) → P x → Q x) → AllByRecursion P xs → AllByRecursion Q xs
all_map P Q [] f h = tt
all_map P Q (x ∷ xs) f h = (f x h.0, all_map P Q xs f h.1)

pub all_filter : {A : Type 0} (P : A → Type 0) (q : A → Bool) (xs : List A) → AllByRecursion P xs → AllByRecursion P (filter q xs)
all_filter P q [] h = tt
all_filter P q (x ∷ xs) h = go (q x) (all_filter P q xs h.1)
  where
    go : (b : Bool) → AllByRecursion P (filter q xs) → AllByRecursion P (cond b (x ∷ filter q xs) (filter q xs))
    go true r = (h.0, r)
    go false r = r

all_take : {A : Type 0} (P : A → Type 0) (n : ℕ) (xs : List A) → AllByRecursion P xs → AllByRecursion P (take n xs)
all_take P zero [] h = tt
all_take P zero (x ∷ xs) h = tt
all_take P (suc n) [] h = tt
all_take P (suc n) (x ∷ xs) h = (h.0, all_take P n xs h.1)

-- what passes a filter passes its test
passes : {A : Type 0} (q : A → Bool) (xs : List A) → AllByRecursion (λ (x : A). q x ≡ true) (filter q xs)
passes q [] = tt
passes q (x ∷ xs) = go (q x) refl (passes q xs)
  where
    go : (b : Bool) → q x ≡ b → AllByRecursion (λ x. q x ≡ true) (filter q xs) → AllByRecursion (λ x. q x ≡ true) (cond b (x ∷ filter q xs) (filter q xs))
    go true e r = (e, r)
    go false e r = r

pub all_pages-append : (xs ys : List Placed) → all_pages (xs ++ ys) ≡ all_pages xs ++ all_pages ys
all_pages-append [] ys = refl
all_pages-append (x ∷ xs) ys = ap (λ (z : List ℕ). x.pages ++ z) (all_pages-append xs ys) ∙ sym (append_assoc x.pages (all_pages xs) (all_pages ys))

-- A page that no module has none of some of them has.
pub among_filtered : (q : Placed → Bool) (k : ℕ) (xs : List Placed) → among k (all_pages xs) ≡ false → among k (all_pages (filter q xs)) ≡ false
among_filtered q k [] e = e
among_filtered q k (x ∷ xs) e = let b = among_both k x.pages (all_pages xs) e in go (q x) b.0 (among_filtered q k xs b.1)
  where
    go : (b : Bool) → among k x.pages ≡ false → among k (all_pages (filter q xs)) ≡ false → among k (all_pages (cond b (x ∷ filter q xs) (filter q xs))) ≡ false
    go true f r = among_neither k x.pages (all_pages (filter q xs)) f r
    go false f r = r

once_filtered : (q : Placed → Bool) (xs : List Placed) → Once (all_pages xs) → Once (all_pages (filter q xs))
once_filtered q [] h = tt
once_filtered q (x ∷ xs) h = let s = once_split x.pages (all_pages xs) h in go (q x) s.0 s.2 (once_filtered q xs s.1)
  where
    go : (b : Bool) → Once x.pages → Share x.pages (all_pages xs) → Once (all_pages (filter q xs)) → Once (all_pages (cond b (x ∷ filter q xs) (filter q xs)))
    go true f s r = once_join x.pages (all_pages (filter q xs)) f r
        (all_map (λ (k : ℕ). among k (all_pages xs) ≡ false) (λ (k : ℕ). among k (all_pages (filter q xs)) ≡ false) x.pages (λ k e. among_filtered q k xs e) s)
    go false f s r = r

below_filtered : (n : ℕ) (q : Placed → Bool) (xs : List Placed) → AllByRecursion (λ (k : ℕ). k < n) (all_pages xs) → AllByRecursion (λ (k : ℕ). k < n) (all_pages (filter q xs))
below_filtered n q [] h = tt
below_filtered n q (x ∷ xs) h = let s = all_split (λ (k : ℕ). k < n) x.pages (all_pages xs) h in go (q x) s.0 (below_filtered n q xs s.1)
  where
    go : (b : Bool) → AllByRecursion (λ (k : ℕ). k < n) x.pages → AllByRecursion (λ (k : ℕ). k < n) (all_pages (filter q xs)) → AllByRecursion (λ (k : ℕ). k < n) (all_pages (cond b (x ∷ filter q xs) (filter q xs)))
    go true f r = all_join (λ (k : ℕ). k < n) x.pages (all_pages (filter q xs)) f r
    go false f r = r

needs_filtered : (q : Placed → Bool) (xs : List Placed) → all_needs (filter q xs) ≤ all_needs xs
needs_filtered q [] = omega arith
needs_filtered q (x ∷ xs) = go (q x) (needs_filtered q xs)
  where
    go : (b : Bool) → all_needs (filter q xs) ≤ all_needs xs → all_needs (cond b (x ∷ filter q xs) (filter q xs)) ≤ all_needs (x ∷ xs)
    go true r = omega arith
    go false r = omega arith

-- Some of the places are ordered as well.
pub ordered_filter : (pages : ℕ) (q : Placed → Bool) (xs : List Placed) → IsOrdered pages xs → IsOrdered pages (filter q xs)
ordered_filter pages q xs h = record {
  fits = all_filter (λ (x : Placed). length x.pages ≡ pages_for x.tables) q xs h.fits;
  once = once_filtered q xs h.once;
  below = below_filtered pages q xs h.below;
  within = let a = needs_filtered q xs in let b = h.within in omega arith;
  good = all_filter (λ (x : Placed). AllByRecursion IsGood x.tables) q xs h.good;
}

range_below : (a n b : ℕ) → a + n ≤ b → AllByRecursion (λ (k : ℕ). k < b) (range_with_len a n)
range_below a zero b le = tt
range_below a (suc n) b le = (omega arith, range_below (a + 1) n b (omega arith))

below_range : (a n k : ℕ) → k < a → among k (range_with_len a n) ≡ false
below_range a zero k h = refl
below_range a (suc n) k h = let ne : a ≢ k = omega arith in ap (λ (b : Bool). b || among k (range_with_len (a + 1) n)) (ne_eqb a k ne) ∙ below_range (a + 1) n k (omega arith)

once_range : (a n : ℕ) → Once (range_with_len a n)
once_range a zero = tt
once_range a (suc n) = (below_range (a + 1) n a (omega arith), once_range (a + 1) n)

among_numbers : (p : ℕ → Bool) (m : ℕ) (xs : List ℕ) → among m xs ≡ false → among m (filter p xs) ≡ false
among_numbers p m [] e = refl
among_numbers p m (x ∷ xs) e = let r = or_false_both (eqb x m) (among m xs) e in go (p x) r.0 (among_numbers p m xs r.1)
  where
    go : (b : Bool) → eqb x m ≡ false → among m (filter p xs) ≡ false → among m (cond b (x ∷ filter p xs) (filter p xs)) ≡ false
    go true e h = ap (λ (z : Bool). z || among m (filter p xs)) e ∙ h
    go false e h = h

once_numbers : (p : ℕ → Bool) (xs : List ℕ) → Once xs → Once (filter p xs)
once_numbers p [] h = tt
once_numbers p (x ∷ xs) h = go (p x) (once_numbers p xs h.1)
  where
    go : (b : Bool) → Once (filter p xs) → Once (cond b (x ∷ filter p xs) (filter p xs))
    go true r = (among_numbers p x xs h.0, r)
    go false r = r

among_taken : (n m : ℕ) (xs : List ℕ) → among m xs ≡ false → among m (take n xs) ≡ false
among_taken zero m [] e = refl
among_taken zero m (x ∷ xs) e = refl
among_taken (suc n) m [] e = refl
among_taken (suc n) m (x ∷ xs) e = let r = or_false_both (eqb x m) (among m xs) e in ap (λ (b : Bool). b || among m (take n xs)) r.0 ∙ among_taken n m xs r.1

once_taken : (n : ℕ) (xs : List ℕ) → Once xs → Once (take n xs)
once_taken zero [] h = tt
once_taken zero (x ∷ xs) h = tt
once_taken (suc n) [] h = tt
once_taken (suc n) (x ∷ xs) h = (among_taken n x xs h.0, once_taken n xs h.1)

not_is : (b : Bool) → not b ≡ true → b ≡ false
not_is true e = absurd (true≢false (sym e))
not_is false e = refl

-- The lowest free pages stand once, lie in the store, and are free.
pub lowest_once : (pages : ℕ) (all : List ℕ) (need : ℕ) → Once (lowest pages all need)
lowest_once pages all need = once_taken need (free_of pages all) (once_numbers (λ k. not (among k all)) (range_with_len 0 pages) (once_range 0 pages))

pub lowest_below : (pages : ℕ) (all : List ℕ) (need : ℕ) → AllByRecursion (λ (k : ℕ). k < pages) (lowest pages all need)
lowest_below pages all need = all_take (λ (k : ℕ). k < pages) need (free_of pages all)
    (all_filter (λ (k : ℕ). k < pages) (λ k. not (among k all)) (range_with_len 0 pages) (range_below 0 pages pages (omega arith)))

pub lowest_free : (pages : ℕ) (all : List ℕ) (need : ℕ) → Share (lowest pages all need) all
lowest_free pages all need = all_take (λ (k : ℕ). among k all ≡ false) need (free_of pages all)
    (all_map (λ (k : ℕ). not (among k all) ≡ true) (λ (k : ℕ). among k all ≡ false) (free_of pages all) (λ k e. not_is (among k all) e)
    (passes (λ k. not (among k all)) (range_with_len 0 pages)))

-- no number of the one list stands in the other, and so the other way round
share_head : (x : ℕ) (xs ys : List ℕ) → Share ys (x ∷ xs) → (among x ys ≡ false) × Share ys xs
share_head x xs [] h = (refl, tt)
share_head x xs (y ∷ ys) h = let r = share_head x xs ys h.1 in let b = or_false_both (eqb x y) (among y xs) h.0 in
    (ap (λ (c : Bool). c || among x ys) (flip x y b.0) ∙ r.0, (b.1, r.1))
  where
    flip : (x y : ℕ) → eqb x y ≡ false → eqb y x ≡ false
    flip x y e = dite (ℕ_discrete y x) (λ (z : y ≡ x). absurd (true≢false (sym (eq-eqb x y (sym z)) ∙ e))) (λ ne. ne_eqb y x ne)

pub share_flip : (xs ys : List ℕ) → Share ys xs → Share xs ys
share_flip [] ys h = tt
share_flip (x ∷ xs) ys h = let r = share_head x xs ys h in (r.0, share_flip xs ys r.1)

needs-append : (xs : List Placed) (y : Placed) → all_needs (xs ++ y ∷ []) ≡ all_needs xs + pages_for y.tables
needs-append [] y = omega arith
needs-append (x ∷ xs) y = let h = needs-append xs y in omega arith

all_pages-more : (xs : List Placed) (y : Placed) → all_pages (xs ++ y ∷ []) ≡ all_pages xs ++ y.pages
all_pages-more xs y = all_pages-append xs (y ∷ []) ∙ ap (λ (z : List ℕ). all_pages xs ++ z) (append-nil y.pages)

-- One module more, for which there is room.
pub ordered_more : (pages : ℕ) (held : List Placed) (l : Loaded) → IsOrdered pages held → pages_for l.tables + all_needs held ≤ pages
    → AllByRecursion IsGood l.tables → IsOrdered pages (held ++ placed_at pages held l ∷ [])
ordered_more pages held l h room good =
    let y : Placed = placed_at pages held l in
    record {
      fits = all_join (λ (x : Placed). length x.pages ≡ pages_for x.tables) held (y ∷ []) h.fits (length-lowest pages (pages_for l.tables) held h.fits room, tt);
      once = subst Once (sym (all_pages-more held y)) (once_join (all_pages held) y.pages h.once (lowest_once pages (all_pages held) (pages_for l.tables))
          (share_flip (all_pages held) y.pages (lowest_free pages (all_pages held) (pages_for l.tables))));
      below = subst (AllByRecursion (λ (k : ℕ). k < pages)) (sym (all_pages-more held y)) (all_join (λ (k : ℕ). k < pages) (all_pages held) y.pages h.below (lowest_below pages (all_pages held) (pages_for l.tables)));
      within = let e = needs-append held y in omega arith;
      good = all_join (λ (x : Placed). AllByRecursion IsGood x.tables) held (y ∷ []) h.good (good, tt);
    }

-- The tables of loads are good.
abbrev pub AreGood : List Loaded → Type 0
AreGood ls = AllByRecursion (λ (l : Loaded). AllByRecursion IsGood l.tables) ls

-- Places with loads for which there is room.
pub ordered_loads : (pages : ℕ) (ls : List Loaded) (held : List Placed) → IsOrdered pages held → all_needs held + load_pages ls ≤ pages → AreGood ls
    → IsOrdered pages (place_loads pages ls held)
ordered_loads pages [] held h room good = h
ordered_loads pages (l ∷ ls) held h room good = let y : Placed = placed_at pages held l in let e = needs-append held y in
    ordered_loads pages ls (held ++ y ∷ []) (ordered_more pages held l h (omega arith) good.0) (omega arith) good.1

good_tables : (s : Source) (ws : List (List ℕ)) (ts : List Table) → AreTablesOf s ws ts → AllByRecursion HasPoints ts → AllByRecursion IsGood ts
good_tables s [] [] h k = tt
good_tables s [] (t ∷ ts) h k = absurd h
good_tables s (w ∷ ws) [] h k = absurd h
good_tables s (w ∷ ws) (t ∷ ts) h k = ((h.0.well_formed, k.0), good_tables s ws ts h.1 k.1)

-- What was read and is of points is good.
pub good_loads : (s : Source) (graph : Shape) (ls : List Loaded) → AreRead s graph ls → AllByRecursion IsOfPoints ls → AreGood ls
good_loads s graph [] h k = tt
good_loads s graph (l ∷ ls) h k = (good_tables s _ l.tables h.0 k.0, good_loads s graph ls h.1 k.1)

room_is : (pages used need : ℕ) → used ≤ pages → need ≤ pages - used → used + need ≤ pages
room_is pages used need a b = omega arith

-- A deed that can be made: there is room for what it loads, and its tables are good.
abbrev pub CanPlace : ℕ → List Placed → Deed → Type 0
CanPlace pages held (opens p ms l) = (all_needs held + load_pages l ≤ pages) × AreGood l
CanPlace pages held (closes k) = Unit {0}
CanPlace pages held rests = Unit {0}

can_answered : (s : Setting) (b : Deeds) (from to : Asked) (reply : Reply) → IsOrdered s.pages (places s.pages b) → IsAnswered s s.first.graph b from to reply
    → LoadsPoints (opening_of 0 from to reply) → CanPlace s.pages (places s.pages b) (opening_of 0 from to reply)
can_answered s b (Bad f) (Bad g) reply h k p = tt
can_answered s b (Bad f) (Good to) reply h k p = tt
can_answered s b (Good from) (Bad f) reply h k p = tt
can_answered s b (Good from) (Good to) (Refused why) h k p = tt
can_answered s b (Good from) (Good to) (Opened chain cost loads modules) h k p = let o = k.2 in
    (room_is s.pages (all_needs (places s.pages b)) (load_pages (map loaded_of loads)) h.within o.room, good_loads s.source s.first.graph (map loaded_of loads) o.read p)

-- What is legal next can be placed.
pub can_next : (s : Setting) (b : List Entry) (c : ℕ) (v : Event) → IsOrdered s.pages (places s.pages (deeds b)) → IsNext s b c v → LoadsPoints (deed_of v)
    → CanPlace s.pages (places s.pages (deeds b)) (deed_of v)
can_next s b c (Opening from to reply) h k p = can_answered s (deeds b) from to reply h k p
can_next s b c (Closing n) h k p = tt

pub ordered_deed : (pages : ℕ) (held : List Placed) (v : Deed) → IsOrdered pages held → CanPlace pages held v → IsOrdered pages (place_deed pages v held)
ordered_deed pages held (opens p ms l) h k = ordered_loads pages l held h k.0 k.1
ordered_deed pages held (closes k) h c = h
ordered_deed pages held rests h c = h

-- One legal entry more.
pub ordered_next : (s : Setting) (b : List Entry) (e : Entry) → IsOrdered s.pages (places s.pages (deeds b)) → Next s b e → LoadsPoints (deed_of e.event)
    → IsOrdered s.pages (places s.pages (deeds (b ++ e ∷ [])))
ordered_next s b e h k p = let a : Act = act e.caller (deed_of e.event) in
    subst (λ (z : Deeds). IsOrdered s.pages (places s.pages z)) (sym (deeds-snoc b e))
    (subst (IsOrdered s.pages) (sym (places-snoc s.pages (deeds b) a))
    (ordered_filter s.pages (λ (x : Placed). resident (marks (deeds b ++ a ∷ [])) x.«module») (place_deed s.pages (deed_of e.event) (places s.pages (deeds b)))
    (ordered_deed s.pages (places s.pages (deeds b)) (deed_of e.event) h (can_next s b e.caller e.event h k p))))

pub ordered_from : (s : Setting) (b es : List Entry) → IsOrdered s.pages (places s.pages (deeds b)) → LegalFrom s b es
    → AllByRecursion (λ (a : Act). LoadsPoints a.deed) (deeds es) → IsOrdered s.pages (places s.pages (deeds (b ++ es)))
ordered_from s b [] h k p = subst (λ (z : List Entry). IsOrdered s.pages (places s.pages (deeds z))) (sym (append-nil b)) h
ordered_from s b (e ∷ es) h k p = subst (λ (z : List Entry). IsOrdered s.pages (places s.pages (deeds z))) (append_assoc b (e ∷ []) es)
    (ordered_from s (b ++ e ∷ []) es (ordered_next s b e h k.0 p.0) k.1 p.1)

pub ordered_none : (pages : ℕ) → IsOrdered pages []
ordered_none pages = record { fits = tt; once = tt; below = tt; within = omega arith; good = tt }

-- The places of a legal history, whose loads are of points, are ordered.
pub ordered_legal : (s : Setting) (es : List Entry) → LegalFrom s [] es → AllByRecursion (λ (a : Act). LoadsPoints a.deed) (deeds es) → IsOrdered s.pages (places s.pages (deeds es))
ordered_legal s es k p = ordered_from s [] es (ordered_none s.pages) k p
