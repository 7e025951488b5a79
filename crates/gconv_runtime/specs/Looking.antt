-- The pins of a descriptor are those of tables that its caller holds. No public clause cites it.
use Rattle.std.proofs.Common.{◌≡◌, ℕ, zero, suc, ◌*◌, ◌<◌, eqb, Bool, true, false, ◌||◌, cond, List, [], ◌∷◌, ◌++◌, length, take, drop, map, Option, Some, None, sym, refl, ap, ◌∙◌, subst, arith, inl, inr, ⊎_elim, true≢false, eq-eqb, ne_eqb, append_assoc, length-drop}
use Rattle.std.proofs.lemmas.List.{length-take-le, take-append-drop}
use mathlib.Core.Logic.{dite}
use native.Mathlib.Decide.{ℕ_discrete}
use Rattle.std.specs.List.{filter, list_any, AllByRecursion}
use Rattle.std.specs.Str.{bytes_eq}
use Rattle.std.proofs.lemmas.Slice.Eq.{bytes_eq-Decides}
use Rattle.code_pairs.specs.Tables.{Table}
use Rattle.code_table.specs.Images.{page_count, code_leaves}
use Rattle.code_table.specs.Layouts.{layout_of}
use Rattle.trie.proofs.Fills.{some_page}
use Rattle.module_counts.specs.Stocks.{Once}
use Rattle.page_store.specs.Holdings.{Holding, Among, is_held, table_in, IsWithin}
use Rattle.page_store.specs.Pins.{ArePins, tables_of}
use Rattle.page_store.specs.declared.pin.Pin.{Pin}
use Rattle.runtime_histories.specs.Deeds.{Desc, Deeds, IsIn}
use Rattle.runtime_histories.specs.Pins.{live_of, holds, held_by}
use Rattle.runtime_histories.specs.Places.{Placed, among, pages_for, all_pages, places}
use Rattle.runtime_room.specs.Apart.{Share, IsOrdered, once_split, all_split, all_join, among-append}
use Rattle.runtime_room.specs.Puts.{joined}
use Rattle.runtime_room.specs.Rooms.{parts, parts_of}
use Rattle.history_core.specs.History.{History}
use Rattle.runtime_histories.specs.Deeds.{openings, desc_at}
use Rattle.runtime_room.specs.Grounds.{Ground}
use Rattle.runtime_room.specs.Rooms.{IsHistory, deeds_of, holdings}
use Rattle.runtime_room.specs.Held.{ordered_held}
use Rattle.runtime_room.specs.declared.desk.Noted.{Noted}
use Rattle.desk_openings.specs.Parts.{place_of, parts_at, parts_for, ArePinsOf}
use Rattle.gconv_runtime.specs.Owning.{tables_by, desc_tables}

-- the pages of holdings
abbrev pub pages_in : List Holding → List ℕ
pages_in hs = joined (map (λ (h : Holding). h.pages) hs)

pages_in-append : (xs ys : List Holding) → pages_in (xs ++ ys) ≡ pages_in xs ++ pages_in ys
pages_in-append [] ys = refl
pages_in-append (x ∷ xs) ys = ap (λ (z : List ℕ). x.pages ++ z) (pages_in-append xs ys) ∙ sym (append_assoc x.pages (pages_in xs) (pages_in ys))

no_pages : (xs : List ℕ) → length xs ≡ 0 → [] ≡ xs
no_pages [] e = refl
no_pages (x ∷ xs) e = absurd (omega arith)

parts_pages : (ts : List Table) (pages : List ℕ) → length pages ≡ pages_for ts → pages_in (parts ts pages) ≡ pages
parts_pages [] pages e = no_pages pages e
parts_pages (t ∷ ts) pages e = let d = length-drop (page_count t) pages in
    ap (λ (z : List ℕ). take (page_count t) pages ++ z) (parts_pages ts (drop (page_count t) pages) (omega arith)) ∙ take-append-drop (page_count t) pages

-- The parts of modules have their pages.
pub all_parts_pages : (xs : List Placed) → AllByRecursion (λ (x : Placed). length x.pages ≡ pages_for x.tables) xs → pages_in (parts_of xs) ≡ all_pages xs
all_parts_pages [] fits = refl
all_parts_pages (x ∷ xs) fits = pages_in-append (parts x.tables x.pages) (parts_of xs) ∙ (λ i. parts_pages x.tables x.pages fits.0 i ++ all_parts_pages xs fits.1 i)

-- each part has a page
abbrev pub HasPage : Holding → Type 0
HasPage h = 0 < length h.pages

parts_some : (ts : List Table) (pages : List ℕ) → length pages ≡ pages_for ts → AllByRecursion HasPage (parts ts pages)
parts_some [] pages e = tt
parts_some (t ∷ ts) pages e =
    let d = length-drop (page_count t) pages in
    let l : length (take (page_count t) pages) ≡ page_count t = length-take-le (page_count t) pages (omega arith) in
    let s = some_page (code_leaves t) in
    ((omega arith), parts_some ts (drop (page_count t) pages) (omega arith))

all_some : (xs : List Placed) → AllByRecursion (λ (x : Placed). length x.pages ≡ pages_for x.tables) xs → AllByRecursion HasPage (parts_of xs)
all_some [] fits = tt
all_some (x ∷ xs) fits = all_join HasPage (parts x.tables x.pages) (parts_of xs) (parts_some x.tables x.pages fits.0) (all_some xs fits.1)

among_all : (P : Holding → Type 0) (hs : List Holding) (h : Holding) → AllByRecursion P hs → Among hs h → P h
among_all P [] h all there = absurd there
among_all P (x ∷ xs) h all there = ⊎_elim (λ (e : x ≡ h). subst P e all.0) (λ z. among_all P xs h all.1 z) there

first_among : (xs : List ℕ) → 0 < length xs → (k : ℕ) × (among k xs ≡ true)
first_among [] lt = absurd (omega arith)
first_among (x ∷ xs) lt = (x, ap (λ (b : Bool). b || among x xs) (eq-eqb x x refl))

or_left : (a b : Bool) → a ≡ true → (a || b) ≡ true
or_left true b e = refl
or_left false b e = absurd (true≢false (sym e))

or_right : (a b : Bool) → b ≡ true → (a || b) ≡ true
or_right true b e = refl
or_right false b e = e

pages_among : (hs : List Holding) (h : Holding) (k : ℕ) → Among hs h → among k h.pages ≡ true → among k (pages_in hs) ≡ true
pages_among [] h k there e = absurd there
pages_among (x ∷ xs) h k there e = ⊎_elim
    (λ (z : x ≡ h). among-append k x.pages (pages_in xs) ∙ or_left (among k x.pages) (among k (pages_in xs)) (ap (λ (v : Holding). among k v.pages) z ∙ e))
    (λ z. among-append k x.pages (pages_in xs) ∙ or_right (among k x.pages) (among k (pages_in xs)) (pages_among xs h k z e)) there

shared_none : (k : ℕ) (xs ys : List ℕ) → Share xs ys → among k xs ≡ true → among k ys ≡ true → ⊥
shared_none k [] ys s e f = true≢false (sym e)
shared_none k (x ∷ xs) ys s e f = go (eqb x k) refl e (shared_none k xs ys s.1)
  where
    go : (b : Bool) → eqb x k ≡ b → (b || among k xs) ≡ true → (among k xs ≡ true → among k ys ≡ true → ⊥) → ⊥
    go true g e rest = true≢false (sym f ∙ (ap (λ (n : ℕ). among n ys) (sym (is x k g)) ∙ s.0))
      where
        is : (x k : ℕ) → eqb x k ≡ true → x ≡ k
        is x k e = dite (ℕ_discrete x k) (λ z. z) (λ ne. absurd (true≢false (sym e ∙ ne_eqb x k ne)))
    go false g e rest = rest e f

-- Among holdings no page of which stands twice, a table is found by its pages.
pub table_found : (hs : List Holding) (h : Holding) → Once (pages_in hs) → Among hs h → 0 < length h.pages → (is_held hs h.pages ≡ true) × (table_in hs h.pages ≡ h.table)
table_found [] h once there some = absurd there
table_found (x ∷ xs) h once there some = go (bytes_eq x.pages h.pages) refl (λ o t. table_found xs h o t some)
  where
    s : Once x.pages × Once (pages_in xs) × Share x.pages (pages_in xs)
    s = once_split x.pages (pages_in xs) once

    same : bytes_eq x.pages h.pages ≡ true → x.table ≡ h.table
    same e = ⊎_elim (λ (z : x ≡ h). ap (λ (v : Holding). v.table) z)
        (λ z. let k = first_among h.pages some in
        absurd (shared_none k.0 x.pages (pages_in xs) s.2 (ap (among k.0) ((bytes_eq-Decides x.pages h.pages).0 e) ∙ k.1) (pages_among xs h k.0 z k.1))) there

    later : bytes_eq x.pages h.pages ≡ false → Among xs h
    later e = ⊎_elim (λ (z : x ≡ h). absurd (true≢false (sym ((bytes_eq-Decides x.pages h.pages).1 (ap (λ (v : Holding). v.pages) z)) ∙ e))) (λ z. z) there

    go : (b : Bool) → bytes_eq x.pages h.pages ≡ b → (Once (pages_in xs) → Among xs h → (is_held xs h.pages ≡ true) × (table_in xs h.pages ≡ h.table))
        → ((b || is_held xs h.pages) ≡ true) × (cond b x.table (table_in xs h.pages) ≡ h.table)
    go true e rec = (refl, same e)
    go false e rec = rec s.1 (later e)

is_none : Option Placed → Bool
is_none None = true
is_none (Some x) = false

none_some : (x : Placed) → ◌≡◌ {A = Option Placed} None (Some x) → ⊥
unfolding is_none
none_some x e = true≢false (ap is_none e)

abbrev or_else : Placed → Option Placed → Placed
or_else d None = d
or_else d (Some v) = v

place_in : (xs : List Placed) (m : ℕ) (x : Placed) → place_of xs m ≡ Some x → IsIn x xs × (eqb x.«module» m ≡ true)
place_in [] m x e = absurd (none_some x e)
place_in (y ∷ ys) m x e = go (eqb y.«module» m) refl e (place_in ys m x)
  where
    go : (b : Bool) → eqb y.«module» m ≡ b → cond b (Some y) (place_of ys m) ≡ Some x → (place_of ys m ≡ Some x → IsIn x ys × (eqb x.«module» m ≡ true)) → IsIn x (y ∷ ys) × (eqb x.«module» m ≡ true)
    go true f e rec = let z : y ≡ x = ap (or_else y) e in (inl z, ap (λ (v : Placed). eqb v.«module» m) (sym z) ∙ f)
    go false f e rec = let r = rec e in (inr r.0, r.1)

in_filter : {A : Type 0} (q : A → Bool) (x : A) (xs : List A) → IsIn x xs → q x ≡ true → IsIn x (filter q xs)
in_filter q x [] h e = absurd h
in_filter q x (y ∷ ys) h e = go (q y) refl (in_filter q x ys)
  where
    go : (b : Bool) → q y ≡ b → (IsIn x ys → q x ≡ true → IsIn x (filter q ys)) → IsIn x (cond b (y ∷ filter q ys) (filter q ys))
    go true f rec = ⊎_elim (λ (z : y ≡ x). inl z) (λ z. inr (rec z e)) h
    go false f rec = ⊎_elim (λ (z : y ≡ x). absurd (true≢false (sym e ∙ (ap q (sym z) ∙ f)))) (λ z. rec z e) h

any_in : (ds : List Desc) (d : Desc) (m : ℕ) → IsIn d ds → among m d.modules ≡ true → list_any (λ (x : Desc). among m x.modules) ds ≡ true
any_in [] d m h e = absurd h
any_in (x ∷ xs) d m h e = ⊎_elim (λ (z : x ≡ d). or_left (among m x.modules) (list_any (λ (x : Desc). among m x.modules) xs) (ap (λ (v : Desc). among m v.modules) z ∙ e))
    (λ z. or_right (among m x.modules) (list_any (λ (x : Desc). among m x.modules) xs) (any_in xs d m z e)) h

-- A caller holds the modules of its live descriptors.
pub holds_module : (n : ℕ) (log : Deeds) (d : Desc) (m : ℕ) → IsIn d (live_of n log) → among m d.modules ≡ true → holds n log m ≡ true
holds_module zero log d m h e = refl
holds_module (suc n) log d m h e = any_in (live_of (suc n) log) d m h e

part_among : (xs : List Placed) (x : Placed) (h : Holding) → IsIn x xs → Among (parts x.tables x.pages) h → Among (parts_of xs) h
part_among [] x h there k = absurd there
part_among (y ∷ ys) x h there k = ⊎_elim (λ (z : y ≡ x). left (parts y.tables y.pages) (parts_of ys) (subst (λ (v : Placed). Among (parts v.tables v.pages) h) (sym z) k))
    (λ z. right (parts y.tables y.pages) (parts_of ys) (part_among ys x h z k)) there
  where
    left : (xs ys : List Holding) → Among xs h → Among (xs ++ ys) h
    left [] ys k = absurd k
    left (x ∷ xs) ys k = ⊎_elim (λ (e : x ≡ h). inl e) (λ z. inr (left xs ys z)) k

    right : (xs ys : List Holding) → Among ys h → Among (xs ++ ys) h
    right [] ys k = k
    right (x ∷ xs) ys k = inr (right xs ys k)

among_self : (hs all : List Holding) → ((h : Holding) → Among hs h → Among all h) → AllByRecursion (Among all) hs
among_self [] all f = tt
among_self (h ∷ hs) all f = (f h (inl refl), among_self hs all (λ x k. f x (inr k)))

-- Each module of a list stands in it.
pub module_among : (ms : List ℕ) → AllByRecursion (λ (m : ℕ). among m ms ≡ true) ms
module_among [] = tt
module_among (m ∷ ms) = (or_left (eqb m m) (among m ms) (eq-eqb m m refl), more ms (module_among ms))
  where
    more : (xs : List ℕ) → AllByRecursion (λ (k : ℕ). among k ms ≡ true) xs → AllByRecursion (λ (k : ℕ). among k (m ∷ ms) ≡ true) xs
    more [] all = tt
    more (x ∷ xs) all = (or_right (eqb m x) (among x ms) all.0, more xs all.1)

-- The tables of the modules of a live descriptor are held.
pub parts_held : (pages n : ℕ) (log : Deeds) (d : Desc) (ms : List ℕ) → IsIn d (live_of n log) → AllByRecursion (λ (m : ℕ). among m d.modules ≡ true) ms
    → AllByRecursion (Among (parts_of (held_by pages n log))) (parts_for (places pages log) ms)
parts_held pages n log d [] live all = tt
parts_held pages n log d (m ∷ ms) live all = all_join (Among (parts_of (held_by pages n log))) (parts_at (place_of (places pages log) m)) (parts_for (places pages log) ms)
    (one (place_of (places pages log) m) refl) (parts_held pages n log d ms live all.1)
  where
    one : (o : Option Placed) → place_of (places pages log) m ≡ o → AllByRecursion (Among (parts_of (held_by pages n log))) (parts_at o)
    one None e = tt
    one (Some x) e = let p = place_in (places pages log) m x e in
        among_self (parts x.tables x.pages) (parts_of (held_by pages n log)) (λ h k. part_among (held_by pages n log) x h
        (in_filter (λ (y : Placed). holds n log y.«module») x (places pages log) p.0 (holds_module n log d x.«module» live (ap (λ (k : ℕ). among k d.modules) (is x.«module» m p.1) ∙ all.0))) k)
      where
        is : (x k : ℕ) → eqb x k ≡ true → x ≡ k
        is x k e = dite (ℕ_discrete x k) (λ z. z) (λ ne. absurd (true≢false (sym e ∙ ne_eqb x k ne)))

-- What pins of held tables stand for.
pub record PinsTell (all : List Holding) (words : ℕ) (ps : List Pin) (hs : List Holding) : Type 0 where
  pub pins : ArePins all words ps
  pub tables : tables_of all ps ≡ map (λ (h : Holding). h.table) hs

within_all : (words pages : ℕ) (ks : List ℕ) → words ≡ 256 * pages → AllByRecursion (λ (k : ℕ). k < pages) ks → AllByRecursion (IsWithin words) ks
within_all words pages [] e all = tt
within_all words pages (k ∷ ks) e all = ((let a = all.0 in omega arith), within_all words pages ks e all.1)

pages_below : (pages : ℕ) (hs : List Holding) → AllByRecursion (λ (k : ℕ). k < pages) (pages_in hs) → AllByRecursion (λ (h : Holding). AllByRecursion (λ (k : ℕ). k < pages) h.pages) hs
pages_below pages [] all = tt
pages_below pages (h ∷ hs) all = let s = all_split (λ (k : ℕ). k < pages) h.pages (pages_in hs) all in (s.0, pages_below pages hs s.1)

pub pins_tell : (all : List Holding) (words pages : ℕ) (ps : List Pin) (hs : List Holding) → Once (pages_in all) → AllByRecursion HasPage all → words ≡ 256 * pages
    → AllByRecursion (λ (k : ℕ). k < pages) (pages_in all) → AllByRecursion (Among all) hs → ArePinsOf hs ps → PinsTell all words ps hs
pins_tell all words pages [] [] once some e below there pins = record { pins = tt; tables = refl }
pins_tell all words pages (p ∷ ps) [] once some e below there pins = absurd pins
pins_tell all words pages [] (h ∷ hs) once some e below there pins = absurd pins
pins_tell all words pages (p ∷ ps) (h ∷ hs) once some e below there pins =
    let r = pins_tell all words pages ps hs once some e below there.1 pins.1 in
    let f = table_found all h once there.0 (among_all HasPage all h some there.0) in
    let b = among_all (λ (x : Holding). AllByRecursion (λ (k : ℕ). k < pages) x.pages) all h (pages_below pages all below) there.0 in
    let t : table_in all p.pages.items ≡ h.table = ap (table_in all) pins.0.0 ∙ f.1 in
    record {
      pins = (
        record {
          held = ap (is_held all) pins.0.0 ∙ f.0;
          inside = subst (AllByRecursion (IsWithin words)) (sym pins.0.0) (within_all words pages h.pages e b);
          parts = pins.0.1 ∙ ap layout_of (sym t);
        },
        r.pins,
      );
      tables = λ i. t i ∷ r.tables i;
    }

-- The pins of a live descriptor tell of the tables of its chain.
pub desc_tells : (pages n words : ℕ) (log : Deeds) (d : Desc) (ps : List Pin) → IsOrdered pages (held_by pages n log) → words ≡ 256 * pages → IsIn d (live_of n log)
    → ArePinsOf (parts_for (places pages log) d.modules) ps → PinsTell (parts_of (held_by pages n log)) words ps (parts_for (places pages log) d.modules)
desc_tells pages n words log d ps o e live pins =
    let xs : List Placed = held_by pages n log in
    let same = all_parts_pages xs o.fits in
    pins_tell (parts_of xs) words pages ps (parts_for (places pages log) d.modules) (subst Once (sym same) o.once) (all_some xs o.fits) e
    (subst (AllByRecursion (λ (k : ℕ). k < pages)) (sym same) o.below) (parts_held pages n log d d.modules live (module_among d.modules)) pins

-- The pins of a descriptor tell of the tables that it converts by.
pub record OwnedTells (gr : Ground) (log : History Noted) (n words number : ℕ) (ps : List Pin) : Type 0 where
  pub pins : ArePins (holdings gr log n) words ps
  pub tables : tables_of (holdings gr log n) ps ≡ desc_tables gr.setting.pages (deeds_of log) number

pub owned_tells : (gr : Ground) (log : History Noted) (n words number : ℕ) (d : Desc) (ps qs : List Pin) → qs ≡ ps → IsHistory gr log → words ≡ 256 * gr.setting.pages → IsIn d (live_of n (deeds_of log))
    → desc_at number (openings 0 (deeds_of log)) ≡ Some d → ArePinsOf (parts_for (places gr.setting.pages (deeds_of log)) d.modules) ps → OwnedTells gr log n words number qs
owned_tells gr log n words number d ps qs same legal room live found own =
    let t = desc_tells gr.setting.pages n words (deeds_of log) d ps (ordered_held gr log n legal) room live own in
    record {
      pins = subst (ArePins (holdings gr log n) words) (sym same) t.pins;
      tables = ap (tables_of (holdings gr log n)) same ∙ (t.tables ∙ sym (ap (tables_by (places gr.setting.pages (deeds_of log))) found));
    }
