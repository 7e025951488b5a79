-- The pins of a chain are those of the tables of its modules.
use Rattle.std.proofs.Common.{◌≡◌, ℕ, suc, zero, ◌+◌, ◌<◌, eqb, eqb-true, Bool, true, false, ◌||◌, cond, List, [], ◌∷◌, ◌++◌, length, map, take, drop, Option, Some, None, sym, refl, ap, ◌∙◌, subst, ⊎_elim, true≢false, arith, append_assoc, append-nil, get_or}
use Rattle.std.specs.List.{AllByRecursion}
use Rattle.std.specs.Option.{option_map}
use Rattle.std.specs.declared.vec.Vec.{Vec}
use Rattle.std.specs.declared.alloc.Global.{Global}
use Rattle.std.proofs.lemmas.List.{map-append, drop_more}
use Rattle.code_pairs.specs.Tables.{Table}
use Rattle.code_table.specs.Images.{page_count}
use Rattle.code_table.specs.declared.layout.Layout.{Layout}
use Rattle.module_counts.specs.Counting.{Booked}
use Rattle.module_counts.specs.Stocks.{lists, places_for}
use Rattle.page_store.specs.Holdings.{Holding}
use Rattle.page_store.specs.declared.pin.Pin.{Pin}
use Rattle.runtime_histories.specs.declared.loads.Load.{Load}
use Rattle.runtime_histories.specs.Deeds.{Loaded, marks}
use Rattle.runtime_histories.specs.Entries.{deeds, loaded_of}
use Rattle.runtime_histories.specs.Legal.{loaded_modules}
use Rattle.runtime_histories.specs.Places.{Placed, among, pages_for, pages_of, placed_at, place_loads, places}
use Rattle.runtime_histories.specs.Residence.{resident}
use Rattle.code_table.specs.Layouts.{layout_of}
use Rattle.runtime_room.specs.Desks.{layouts_at, IsLaidOut}
use Rattle.runtime_room.specs.Rooms.{parts}
use Rattle.desk_openings.specs.Layouts.{KeepsLayouts, AreKept}
use Rattle.desk_openings.specs.Parts.{place_of, parts_at, parts_for, IsThere, AreThere, ArePinsOf}
use Rattle.desk_openings.specs.Pinning.{Shown, shown, layout_pages, cut_pins, given_to, or_pages, chosen_pages, pins_for, CanPin}
use Rattle.module_counts.proofs.Tidying.{length-places_for}
use Rattle.desk_openings.proofs.Keeping.{length-loaded}
use Rattle.desk_openings.proofs.Lists.{or_false, cases}

-- What the pin of a held table says.
abbrev pub shown_of : Holding → Shown
shown_of h = record { pages = h.pages; layout = layout_of h.table }

-- Pages cut by the images of tables are the pages of these.
pub cut_are : (ts : List Table) (pages : List ℕ) → cut_pins (map layout_of ts) pages ≡ map shown_of (parts ts pages)
cut_are [] pages = refl
cut_are (t ∷ ts) pages = ap (λ (z : List Shown). record { pages = take (page_count t) pages; layout = layout_of t } ∷ z) (cut_are ts (drop (page_count t) pages))

pub images_pages : (ts : List Table) → layout_pages (map layout_of ts) ≡ pages_for ts
images_pages [] = refl
images_pages (t ∷ ts) = ap (λ (n : ℕ). page_count t + n) (images_pages ts)

abbrev head_or : Shown → List Shown → Shown
head_or d [] = d
head_or d (x ∷ xs) = x

abbrev tail : List Shown → List Shown
tail [] = []
tail (x ∷ xs) = xs

-- Pins that say what the pins of held tables say are these.
pub pins_are : (hs : List Holding) (ps : List Pin) → map shown ps ≡ map shown_of hs → ArePinsOf hs ps
pins_are [] [] e = tt
pins_are [] (p ∷ ps) e = absurd (let n = ap length e in omega arith)
pins_are (h ∷ hs) [] e = absurd (let n = ap length e in omega arith)
pins_are (h ∷ hs) (p ∷ ps) e =
    let z : shown p ≡ shown_of h = ap (head_or (shown p)) e in
    ((ap (λ (s : Shown). s.pages) z, ap (λ (s : Shown). s.layout) z), pins_are hs ps (ap tail e))

-- Loads, each with its pages.
abbrev pub placed_by : List Loaded → List (List ℕ) → List Placed
placed_by [] ps = []
placed_by (l ∷ ls) [] = []
placed_by (l ∷ ls) (p ∷ ps) = record { «module» = l.«module»; tables = l.tables; pages = p } ∷ placed_by ls ps

pub loads_placed : (pages : ℕ) (ls : List Loaded) (held : List Placed) → place_loads pages ls held ≡ held ++ placed_by ls (places_for pages ls held)
loads_placed pages [] held = sym (append-nil held)
loads_placed pages (l ∷ ls) held =
    let y : Placed = placed_at pages held l in
    loads_placed pages ls (held ++ y ∷ []) ∙ append_assoc held (y ∷ []) (placed_by ls (places_for pages ls (held ++ y ∷ [])))

abbrev pub or_place : Option Placed → Option Placed → Option Placed
or_place None o = o
or_place (Some x) o = Some x

pub place-append : (m : ℕ) (xs ys : List Placed) → place_of (xs ++ ys) m ≡ or_place (place_of xs m) (place_of ys m)
place-append m [] ys = refl
place-append m (x ∷ xs) ys = go (eqb x.«module» m) (place-append m xs ys)
  where
    go : (b : Bool) → place_of (xs ++ ys) m ≡ or_place (place_of xs m) (place_of ys m) → cond b (Some x) (place_of (xs ++ ys) m) ≡ or_place (cond b (Some x) (place_of xs m)) (place_of ys m)
    go true e = refl
    go false e = e

-- A module is given the pages that it has among the loads.
pub given_is : (m : ℕ) (loads : List Load) (ps : List (List ℕ)) → given_to m loads ps ≡ option_map (λ (x : Placed). x.pages) (place_of (placed_by (map loaded_of loads) ps) m)
given_is m [] ps = refl
given_is m (l ∷ ls) [] = refl
given_is m (l ∷ ls) (p ∷ ps) = go (eqb l.«module» m) (given_is m ls ps)
  where
    go : (b : Bool) → given_to m ls ps ≡ option_map (λ (x : Placed). x.pages) (place_of (placed_by (map loaded_of ls) ps) m)
        → cond b (Some p) (given_to m ls ps) ≡ option_map (λ (x : Placed). x.pages) (cond b (Some (record { «module» = l.«module»; tables = l.tables.value; pages = p })) (place_of (placed_by (map loaded_of ls) ps) m))
    go true e = refl
    go false e = e

-- What isn't loaded isn't among the loads.
pub none_placed : (m : ℕ) (ls : List Loaded) (ps : List (List ℕ)) → among m (loaded_modules ls) ≡ false → place_of (placed_by ls ps) m ≡ None
none_placed m [] ps e = refl
none_placed m (l ∷ ls) [] e = refl
none_placed m (l ∷ ls) (p ∷ ps) e = let f = or_false (eqb l.«module» m) (among m (loaded_modules ls)) e in
    ap (λ (b : Bool). cond b (Some (record { «module» = l.«module»; tables = l.tables; pages = p })) (place_of (placed_by ls ps) m)) f.0 ∙ none_placed m ls ps f.1

-- What is loaded had no place.
pub none_held : (m : ℕ) (ms : List ℕ) (held : List Placed) → AllByRecursion (λ (x : Placed). among x.«module» ms ≡ false) held → among m ms ≡ true → place_of held m ≡ None
none_held m ms [] all e = refl
none_held m ms (x ∷ xs) all e = go (eqb x.«module» m) refl (none_held m ms xs all.1 e)
  where
    go : (b : Bool) → eqb x.«module» m ≡ b → place_of xs m ≡ None → cond b (Some x) (place_of xs m) ≡ None
    go true f rec = absurd (true≢false (sym e ∙ (ap (λ (k : ℕ). among k ms) (sym (eqb-true x.«module» m f)) ∙ all.0)))
    go false f rec = rec

none_some : (x : Placed) → ◌≡◌ {A = Option Placed} None (Some x) → ⊥
none_some x e = true≢false (ap is_none e)
  where
    is_none : Option Placed → Bool
    is_none None = true
    is_none (Some x) = false

abbrev place_or : Placed → Option Placed → Placed
place_or d None = d
place_or d (Some x) = x

same_place : (x y : Placed) → ◌≡◌ {A = Option Placed} (Some x) (Some y) → x ≡ y
same_place x y e = ap (place_or x) e

module _ (P : Placed → Type 0) where
  -- What all places meet, the place of a module does, and it is of this module.
  pub found_place : (m : ℕ) (xs : List Placed) (x : Placed) → AllByRecursion P xs → place_of xs m ≡ Some x → P x × (x.«module» ≡ m)
  found_place m [] x all e = absurd (none_some x e)
  found_place m (y ∷ ys) x all e = go (eqb y.«module» m) refl e (found_place m ys x all.1)
    where
      go : (b : Bool) → eqb y.«module» m ≡ b → cond b (Some y) (place_of ys m) ≡ Some x → (place_of ys m ≡ Some x → P x × (x.«module» ≡ m)) → P x × (x.«module» ≡ m)
      go true f e rec = let z = same_place y x e in (subst P z all.0, ap (λ (v : Placed). v.«module») (sym z) ∙ eqb-true y.«module» m f)
      go false f e rec = rec e

pub pages_found : (m : ℕ) (xs : List Placed) (x : Placed) → place_of xs m ≡ Some x → pages_of m xs ≡ x.pages
pages_found m [] x e = absurd (none_some x e)
pages_found m (y ∷ ys) x e = go (eqb y.«module» m) e (pages_found m ys x)
  where
    go : (b : Bool) → cond b (Some y) (place_of ys m) ≡ Some x → (place_of ys m ≡ Some x → pages_of m ys ≡ x.pages) → cond b y.pages (pages_of m ys) ≡ x.pages
    go true e rec = ap (λ (v : Placed). v.pages) (same_place y x e)
    go false e rec = rec e

-- The images of a load are kept.
pub kept_found : (layouts : List (Vec Layout Global)) (m : ℕ) (ls : List Loaded) (ps : List (List ℕ)) (x : Placed) → AreKept layouts ls → place_of (placed_by ls ps) m ≡ Some x → layouts_at layouts m ≡ map layout_of x.tables
kept_found layouts m [] ps x kept e = absurd (none_some x e)
kept_found layouts m (l ∷ ls) [] x kept e = absurd (none_some x e)
kept_found layouts m (l ∷ ls) (p ∷ ps) x kept e = go (eqb l.«module» m) refl e (kept_found layouts m ls ps x kept.1)
  where
    go : (b : Bool) → eqb l.«module» m ≡ b → cond b (Some (record { «module» = l.«module»; tables = l.tables; pages = p })) (place_of (placed_by ls ps) m) ≡ Some x
        → (place_of (placed_by ls ps) m ≡ Some x → layouts_at layouts m ≡ map layout_of x.tables) → layouts_at layouts m ≡ map layout_of x.tables
    go true f e rec = ap (layouts_at layouts) (sym (eqb-true l.«module» m f)) ∙ (kept.0 ∙ ap (λ (v : Placed). map layout_of v.tables) (same_place (record { «module» = l.«module»; tables = l.tables; pages = p }) x e))
    go false f e rec = rec e

-- A module has a place, its pages are these, and the parts of its images are kept.
pub record IsPinned (layouts : List (Vec Layout Global)) (pages : List ℕ) (all : List Placed) (m : ℕ) : Type 0 where
  pub place : Placed
  pub there : place_of all m ≡ Some place
  pub pages_are : pages ≡ place.pages
  pub images : layouts_at layouts m ≡ map layout_of place.tables
  pub fits : length place.pages ≡ pages_for place.tables

-- What the pins of such modules say.
pub pinned_pins : (layouts : List (Vec Layout Global)) (pages : ℕ → List ℕ) (all : List Placed) (ms : List ℕ) → AllByRecursion (λ (m : ℕ). IsPinned layouts (pages m) all m) ms
    → pins_for (layouts_at layouts) pages ms ≡ map shown_of (parts_for all ms)
pinned_pins layouts pages all [] h = refl
pinned_pins layouts pages all (m ∷ ms) h =
    let i = h.0 in
    let one : cut_pins (layouts_at layouts m) (pages m) ≡ map shown_of (parts_at (place_of all m)) =
    (λ k. cut_pins (i.images k) (i.pages_are k)) ∙ (cut_are i.place.tables i.place.pages ∙ ap (λ (o : Option Placed). map shown_of (parts_at o)) (sym i.there)) in
    (λ k. one k ++ pinned_pins layouts pages all ms h.1 k) ∙ sym (map-append shown_of (parts_at (place_of all m)) (parts_for all ms))

some_place : (o : Option Placed) → IsThere o → (x : Placed) × (o ≡ Some x)
some_place None h = absurd h
some_place (Some x) h = (x, refl)

module _ (pages : ℕ) (held : List Placed) (loads : List Load) (ps : List (List ℕ)) (old layouts : List (Vec Layout Global))
    (placed : ps ≡ places_for pages (map loaded_of loads) held)
    (absent : AllByRecursion (λ (x : Placed). among x.«module» (loaded_modules (map loaded_of loads)) ≡ false) held)
    (fits : AllByRecursion (λ (x : Placed). length x.pages ≡ pages_for x.tables) (place_loads pages (map loaded_of loads) held))
    (laid : AllByRecursion (IsLaidOut old) held) (kept : AreKept layouts (map loaded_of loads))
    (keeps : KeepsLayouts old layouts (loaded_modules (map loaded_of loads))) where
  abbrev all : List Placed
  all = place_loads pages (map loaded_of loads) held

  abbrev new : List Placed
  new = placed_by (map loaded_of loads) ps

  all_is : (m : ℕ) → place_of all m ≡ or_place (place_of held m) (place_of new m)
  all_is m = ap (λ (xs : List Placed). place_of xs m) (loads_placed pages (map loaded_of loads) held ∙ ap (λ (z : List (List ℕ)). held ++ placed_by (map loaded_of loads) z) (sym placed)) ∙ place-append m held new

  loaded_is : (m : ℕ) (x : Placed) → place_of all m ≡ Some x → among m (loaded_modules (map loaded_of loads)) ≡ true → IsPinned layouts (or_pages (given_to m loads ps) (pages_of m held)) all m
  loaded_is m x e in_loads =
      let none = none_held m (loaded_modules (map loaded_of loads)) held absent in_loads in
      let there : place_of new m ≡ Some x = sym (all_is m ∙ ap (λ (o : Option Placed). or_place o (place_of new m)) none) ∙ e in
      record {
        place = x;
        there = e;
        pages_are = ap (λ (o : Option (List ℕ)). or_pages o (pages_of m held)) (given_is m loads ps ∙ ap (option_map (λ (v : Placed). v.pages)) there);
        images = kept_found layouts m (map loaded_of loads) ps x kept there;
        fits = (found_place (λ (v : Placed). length v.pages ≡ pages_for v.tables) m all x fits e).0;
      }

  or_none : (o : Option Placed) → or_place o None ≡ o
  or_none None = refl
  or_none (Some x) = refl

  held_is : (m : ℕ) (x : Placed) → place_of all m ≡ Some x → among m (loaded_modules (map loaded_of loads)) ≡ false → IsPinned layouts (or_pages (given_to m loads ps) (pages_of m held)) all m
  held_is m x e out =
      let none = none_placed m (map loaded_of loads) ps out in
      let there : place_of held m ≡ Some x = sym (all_is m ∙ (ap (or_place (place_of held m)) none ∙ or_none (place_of held m))) ∙ e in
      let f = found_place (IsLaidOut old) m held x laid there in
      record {
        place = x;
        there = e;
        pages_are = ap (λ (o : Option (List ℕ)). or_pages o (pages_of m held)) (given_is m loads ps ∙ ap (option_map (λ (v : Placed). v.pages)) none) ∙ pages_found m held x there;
        images = keeps m out ∙ (ap (layouts_at old) (sym f.1) ∙ f.0);
        fits = (found_place (λ (v : Placed). length v.pages ≡ pages_for v.tables) m all x fits e).0;
      }

  -- Each module of a chain is pinned.
  pub all_pinned : (ms : List ℕ) → AreThere all ms → AllByRecursion (λ (m : ℕ). IsPinned layouts (or_pages (given_to m loads ps) (pages_of m held)) all m) ms
  all_pinned [] there = tt
  all_pinned (m ∷ ms) there = let s = some_place (place_of all m) there.0 in
      (⊎_elim (λ z. loaded_is m s.0 s.1 z) (λ z. held_is m s.0 s.1 z) (cases (among m (loaded_modules (map loaded_of loads)))), all_pinned ms there.1)

no_pages : (pages : List ℕ) → ◌≡◌ {A = Option (List ℕ)} (Some pages) None → ⊥
no_pages pages e = true≢false (ap is_some e)
  where
    is_some : Option (List ℕ) → Bool
    is_some None = false
    is_some (Some x) = true

-- A module that is loaded is given pages.
given_some : (m : ℕ) (loads : List Load) (ps : List (List ℕ)) → length ps ≡ length loads → given_to m loads ps ≡ None → among m (loaded_modules (map loaded_of loads)) ≡ false
given_some m [] ps same e = refl
given_some m (l ∷ ls) [] same e = absurd (omega arith)
given_some m (l ∷ ls) (p ∷ ps) same e = go (eqb l.«module» m) e (given_some m ls ps (omega arith))
  where
    go : (b : Bool) → cond b (Some p) (given_to m ls ps) ≡ None → (given_to m ls ps ≡ None → among m (loaded_modules (map loaded_of ls)) ≡ false) → (b || among m (loaded_modules (map loaded_of ls))) ≡ false
    go true e rec = absurd (no_pages p e)
    go false e rec = rec e

-- Such modules can be pinned.
pub can_pins : (layouts : List (Vec Layout Global)) (c : Booked) (loads : List Load) (ps : List (List ℕ)) (all : List Placed) (ms : List ℕ) → length ps ≡ length loads
    → AllByRecursion (λ (m : ℕ). among m (loaded_modules (map loaded_of loads)) ≡ false → resident (marks (deeds c.journal)) m ≡ true) ms
    → AllByRecursion (λ (m : ℕ). IsPinned layouts (chosen_pages c loads ps m) all m) ms → AllByRecursion (CanPin layouts c loads ps) ms
can_pins layouts c loads ps all [] same res h = tt
can_pins layouts c loads ps all (m ∷ ms) same res h =
    let i = h.0 in (
      record {
        there = λ e. res.0 (given_some m loads ps same e);
        enough = (let a : layout_pages (layouts_at layouts m) ≡ pages_for i.place.tables = ap layout_pages i.images ∙ images_pages i.place.tables in
            let b : length (chosen_pages c loads ps m) ≡ length i.place.pages = ap length i.pages_are in let f = i.fits in omega arith);
      },
      can_pins layouts c loads ps all ms same res.1 h.1,
    )

lists_here : (vs : List (Vec ℕ Global)) (k : ℕ) (v : Vec ℕ Global) → k < length vs → get_or vs k v ≡ v → drop k (lists vs) ≡ v.items ∷ drop (k + 1) (lists vs)
lists_here [] k v lt e = absurd (omega arith)
lists_here (w ∷ vs) zero v lt e = ap (λ (z : Vec ℕ Global). z.items ∷ lists vs) e
lists_here (w ∷ vs) (suc k) v lt e = let z : suc (k + 1) ≡ suc k + 1 = omega arith in lists_here vs k v (omega arith) e ∙ ap (λ (n : ℕ). v.items ∷ drop n (lists (w ∷ vs))) z

-- What a module is given by the loads from one on.
pub given_at : (m k : ℕ) (loads : List Load) (places : List (Vec ℕ Global)) (x : Load) (v : Vec ℕ Global) → length places ≡ length loads → k < length loads → x ≡ get_or loads k x → v ≡ get_or places k v
    → given_to m (drop k loads) (drop k (lists places)) ≡ cond (eqb x.«module» m) (Some v.items) (given_to m (drop (k + 1) loads) (drop (k + 1) (lists places)))
given_at m k loads places x v same lt a b =
    let l : drop k loads ≡ x ∷ drop (k + 1) loads = drop_more loads k x lt ∙ ap (λ (z : Load). z ∷ drop (k + 1) loads) (sym a) in
    let p : drop k (lists places) ≡ v.items ∷ drop (k + 1) (lists places) = lists_here places k v (omega arith) (sym b) in
    λ i. given_to m (l i) (p i)

pub length-lists : (vs : List (Vec ℕ Global)) → length (lists vs) ≡ length vs
length-lists [] = refl
length-lists (v ∷ vs) = let r = length-lists vs in omega arith

-- Another load gives it nothing.
pub given_other : (m k : ℕ) (loads : List Load) (places : List (Vec ℕ Global)) (x : Load) → length places ≡ length loads → k < length loads → x ≡ get_or loads k x → eqb x.«module» m ≡ false
    → given_to m (drop k loads) (drop k (lists places)) ≡ given_to m (drop (k + 1) loads) (drop (k + 1) (lists places))
given_other m k loads places x same lt a other =
    let ps : List (List ℕ) = lists places in
    let l : drop k loads ≡ x ∷ drop (k + 1) loads = drop_more loads k x lt ∙ ap (λ (z : Load). z ∷ drop (k + 1) loads) (sym a) in
    let p : drop k ps ≡ get_or ps k [] ∷ drop (k + 1) ps = drop_more ps k [] (let n = length-lists places in omega arith) in
    (λ i. given_to m (l i) (p i)) ∙ ap (λ (b : Bool). cond b (Some (get_or ps k [])) (given_to m (drop (k + 1) loads) (drop (k + 1) ps))) other

-- Each load has its list of pages.
pub same_lengths : (pages : ℕ) (held : List Placed) (loads : List Load) (places : List (Vec ℕ Global)) → lists places ≡ places_for pages (map loaded_of loads) held → length places ≡ length loads
same_lengths pages held loads places e = sym (length-lists places) ∙ (ap length e ∙ (length-places_for pages (map loaded_of loads) held ∙ length-loaded loads))
