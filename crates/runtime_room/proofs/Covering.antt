-- What is pinned after an entry was pinned before it, or was put into pages that nobody had pinned.
use Rattle.std.proofs.Common.{◌≡◌, ◌⊎◌, ℕ, zero, suc, ◌+◌, ◌*◌, ◌/◌, ◌%◌, ◌<◌, ◌≤◌, eqb, Bool, true, false, cond, List, [], ◌∷◌, ◌++◌, length, take, drop, map, Option, Some, None, sym, refl, ap, ◌∙◌, subst, arith, inl, inr, ⊎_elim, true≢false, ne_eqb, append_assoc, append-nil, get_or-take, get_or-drop, get_or-append-add, length-drop}
use Rattle.std.proofs.lemmas.List.{get_or_append_left}
use mathlib.Core.Logic.{dite}
use native.Mathlib.Decide.{ℕ_discrete}
use Rattle.std.specs.Prelude.{slice_index}
use Rattle.std.specs.List.{filter, position_from, AllByRecursion}
use Rattle.std.specs.Option.{option_map}
use Rattle.code_pairs.specs.Tables.{Table, Tables}
use Rattle.code_table.specs.Images.{page_count, image}
use Rattle.code_table.proofs.ImageLaws.{length-image}
use Rattle.history_core.specs.Rule.{last_fill}
use Rattle.module_counts.specs.Stocks.{Once, places_for}
use Rattle.module_counts.proofs.Tidying.{length-lowest}
use Rattle.runtime_histories.specs.declared.entries.Entry.{Entry}
use Rattle.runtime_histories.specs.Deeds.{Loaded, Act, act, Deed, opens, closes, rests, Deeds, marks, IsIn}
use Rattle.runtime_histories.specs.Entries.{deed_of, deeds}
use Rattle.runtime_histories.specs.Legal.{load_pages, Next}
use Rattle.runtime_histories.specs.Pins.{words_of, word_in, or_word, word_among, holds, held_by, pinned}
use Rattle.runtime_histories.specs.Places.{Placed, among, pages_for, all_pages, all_needs, placed_at, place_loads, place_deed, places}
use Rattle.runtime_histories.specs.Residence.{resident}
use Rattle.runtime_histories.specs.Settings.{Setting}
use Rattle.runtime_histories.proofs.Basics.{In-append, In-filter}
use Rattle.runtime_histories.proofs.Legality.{deeds-snoc}
use Rattle.runtime_histories.proofs.Pinning.{places-snoc}
use Rattle.runtime_room.specs.Apart.{Share, IsOrdered, AreGood, can_next, ordered_deed, ordered_more, ordered_loads, once_split, all_split, all_pages-append, among_filtered, share_flip}
use Rattle.runtime_room.specs.Puts.{IsPut, all_parts, Fit, joined}
use Rattle.runtime_room.specs.Rooms.{LoadsPoints, parts}
use Rattle.runtime_room.specs.Words.{no_words, word_found, word_some, all_in}

take-index : (n : ℕ) (xs : List ℕ) (i : ℕ) → i < n → slice_index (take n xs) i ≡ slice_index xs i
take-index n xs i lt = get_or-take n xs i _ lt

drop-index : (n : ℕ) (xs : List ℕ) (i : ℕ) → slice_index (drop n xs) i ≡ slice_index xs (n + i)
drop-index n xs i = get_or-drop n xs i _

left-index : (xs ys : List ℕ) (i : ℕ) → i < length xs → slice_index (xs ++ ys) i ≡ slice_index xs i
left-index xs ys i lt = get_or_append_left xs ys _ i lt

right-index : (xs ys : List ℕ) (i : ℕ) → slice_index (xs ++ ys) (length xs + i) ≡ slice_index ys i
right-index xs ys i = get_or-append-add xs ys i _

record Cut (c k : ℕ) : Type 0 where
  pub behind : ℕ
  pub is : k ≡ c + behind

cut_at : (c k : ℕ) → (k < c) ⊎ Cut c k
cut_at c k = dite (native.Mathlib.Decide.dec_le c k) (λ le. inr (behind c k le)) (λ n. inl (turned c k n))
  where
    turned : (a b : ℕ) → (a ≤ b → ⊥) → b < a
    turned a b n = omega arith

    behind : (c k : ℕ) → c ≤ k → Cut c k
    behind zero k le = record { behind = k; is = omega arith }
    behind (suc c) zero le = absurd (omega arith)
    behind (suc c) (suc k) le = let r = behind c k (omega arith) in record { behind = r.behind; is = (let e = r.is in omega arith) }

-- Each word of parts that were put was written last.
pub put_at : (ts : List Table) (pages : List ℕ) (fills : List (ℕ × ℕ)) (k place : ℕ) → length pages ≡ pages_for ts → place < 256 → k < length pages → AllByRecursion (IsPut fills) (parts ts pages)
    → last_fill (256 * slice_index pages k + place) fills ≡ Some (slice_index (words_of ts) (256 * k + place))
put_at [] pages fills k place fits small lt put = absurd (omega arith)
put_at (t ∷ ts) pages fills k place fits small lt put = ⊎_elim
    (λ (few : k < page_count t). ap (λ (n : ℕ). last_fill (256 * n + place) fills) (sym (take-index (page_count t) pages k few)) ∙ (put.0 k place few small
    ∙ ap (λ (w : ℕ). Some w) (sym (left-index (image t) (words_of ts) (256 * k + place) (let l = length-image t in omega arith)))))
    (λ (r : Cut (page_count t) k). let e = r.is in let d = length-drop (page_count t) pages in let l = length-image t in
    let z : length (image t) + (256 * r.behind + place) ≡ 256 * k + place = omega arith in
    ap (λ (n : ℕ). last_fill (256 * n + place) fills) (ap (slice_index pages) r.is ∙ sym (drop-index (page_count t) pages r.behind))
    ∙ (put_at ts (drop (page_count t) pages) fills r.behind place (omega arith) small (omega arith) put.1
    ∙ ap (λ (w : ℕ). Some w) (sym (right-index (image t) (words_of ts) (256 * r.behind + place)) ∙ ap (slice_index (image t ++ words_of ts)) z)))
    (cut_at (page_count t) k)

-- where a page was found
record IsFound (v i : ℕ) (xs : List ℕ) (k : ℕ) : Type 0 where
  pub at : ℕ
  pub is : k ≡ i + at
  pub few : at < length xs
  pub page : slice_index xs at ≡ v

eqb_is : (x k : ℕ) → eqb x k ≡ true → x ≡ k
eqb_is x k e = dite (ℕ_discrete x k) (λ z. z) (λ ne. absurd (true≢false (sym e ∙ ne_eqb x k ne)))

abbrev some_or : ℕ → Option ℕ → ℕ
some_or d None = d
some_or d (Some x) = x

none_some : (x : ℕ) → ◌≡◌ {A = Option ℕ} None (Some x) → ⊥
none_some x e = true≢false (ap is_none e)
  where
    is_none : Option ℕ → Bool
    is_none None = true
    is_none (Some x) = false

found : (v i : ℕ) (xs : List ℕ) (k : ℕ) → position_from (λ page. eqb page v) i xs ≡ Some k → IsFound v i xs k
found v i [] k e = absurd (none_some k e)
found v i (x ∷ xs) k e = go (eqb x v) refl e (found v (i + 1) xs k)
  where
    go : (b : Bool) → eqb x v ≡ b → cond b (Some i) (position_from (λ page. eqb page v) (i + 1) xs) ≡ Some k
        → (position_from (λ page. eqb page v) (i + 1) xs ≡ Some k → IsFound v (i + 1) xs k) → IsFound v i (x ∷ xs) k
    go true f e rec = let z : i ≡ k = ap (some_or 0) e in record { at = 0; is = (omega arith); few = omega arith; page = eqb_is x v f }
    go false f e rec = let r = rec e in record { at = suc r.at; is = (let z = r.is in omega arith); few = (let z = r.few in omega arith); page = r.page }

whole_place : (p : ℕ) → 256 * (p / 256) + p % 256 ≡ p
whole_place p = omega arith

small_place : (p : ℕ) → p % 256 < 256
small_place p = omega arith

-- What a module has at a place was written last there, where its parts were put.
pub word_put : (x : Placed) (fills : List (ℕ × ℕ)) (p w : ℕ) → length x.pages ≡ pages_for x.tables → AllByRecursion (IsPut fills) (parts x.tables x.pages) → word_in x p ≡ Some w → last_fill p fills ≡ Some w
word_put x fills p w fits put e = go (position_from (λ page. eqb page (p / 256)) 0 x.pages) refl e
  where
    go : (o : Option ℕ) → position_from (λ page. eqb page (p / 256)) 0 x.pages ≡ o → option_map (λ k. slice_index (words_of x.tables) (256 * k + p % 256)) o ≡ Some w → last_fill p fills ≡ Some w
    go None f e = absurd (none_some w e)
    go (Some k) f e = let r = found (p / 256) 0 x.pages k f in let z : r.at ≡ k = (let q = r.is in omega arith) in
        ap (λ (n : ℕ). last_fill n fills) (sym (whole_place p) ∙ ap (λ (n : ℕ). 256 * n + p % 256) (sym r.page))
        ∙ (put_at x.tables x.pages fills r.at (p % 256) fits (small_place p) r.few put
        ∙ (ap (λ (n : ℕ). Some (slice_index (words_of x.tables) (256 * n + p % 256))) z ∙ e))

-- the tables of loads
abbrev pub tables_in : List Loaded → List Tables
tables_in ls = map (λ (l : Loaded). l.tables) ls

-- A module that has a place after loads had it before, or its parts were put.
pub loads_put : (pages : ℕ) (ls : List Loaded) (held : List Placed) (fills : List (ℕ × ℕ)) (x : Placed) → AllByRecursion (IsPut fills) (all_parts (tables_in ls) (places_for pages ls held))
    → IsIn x (place_loads pages ls held) → IsIn x held ⊎ AllByRecursion (IsPut fills) (parts x.tables x.pages)
loads_put pages [] held fills x put there = inl there
loads_put pages (l ∷ ls) held fills x put there =
    let y : Placed = placed_at pages held l in
    let s = all_split (IsPut fills) (parts l.tables y.pages) (all_parts (tables_in ls) (places_for pages ls (held ++ y ∷ []))) put in
    ⊎_elim (λ z. ⊎_elim (λ q. inl q) (λ q. ⊎_elim (λ (e : y ≡ x). inr (subst (λ (v : Placed). AllByRecursion (IsPut fills) (parts v.tables v.pages)) e s.0)) (λ q. absurd q) q) (In-append x held (y ∷ []) z))
    (λ z. inr z) (loads_put pages ls (held ++ y ∷ []) fills x s.1 there)

-- What a deed loads was put.
abbrev pub DeedPut : ℕ → List Placed → List (ℕ × ℕ) → Deed → Type 0
DeedPut pages held fills (opens p ms l) = AllByRecursion (IsPut fills) (all_parts (tables_in l) (places_for pages l held))
DeedPut pages held fills (closes k) = Unit {0}
DeedPut pages held fills rests = Unit {0}

deed_put : (pages : ℕ) (held : List Placed) (fills : List (ℕ × ℕ)) (v : Deed) (x : Placed) → DeedPut pages held fills v → IsIn x (place_deed pages v held) → IsIn x held ⊎ AllByRecursion (IsPut fills) (parts x.tables x.pages)
deed_put pages held fills (opens p ms l) x put there = loads_put pages l held fills x put there
deed_put pages held fills (closes k) x put there = inl there
deed_put pages held fills rests x put there = inl there

all_kept : (xs : List Placed) (p : ℕ) → word_among (filter (λ (x : Placed). true) xs) p ≡ word_among xs p
all_kept [] p = refl
all_kept (x ∷ xs) p = ap (or_word (word_in x p)) (all_kept xs p)

-- Each word that a number has pinned after one entry more was pinned before by all resident modules, or was
-- written last.
pub covered_next : (s : Setting) (b : List Entry) (e : Entry) (fills : List (ℕ × ℕ)) → IsOrdered s.pages (places s.pages (deeds b)) → Next s b e → LoadsPoints (deed_of e.event)
    → DeedPut s.pages (places s.pages (deeds b)) fills (deed_of e.event) → (n p w : ℕ) → pinned s.pages (deeds (b ++ e ∷ [])) n p ≡ Some w
    → (pinned s.pages (deeds b) 0 p ≡ Some w) ⊎ (last_fill p fills ≡ Some w)
covered_next s b e fills o next points put n p w is =
    let held : List Placed = places s.pages (deeds b) in
    let v : Deed = deed_of e.event in
    let log' : Deeds = deeds (b ++ e ∷ []) in
    let a : Act = act e.caller v in
    let h = word_some (held_by s.pages n log') p w is in
    let x : Placed = h.place in
    let in_places : IsIn x (places s.pages log') = (In-filter (λ (y : Placed). holds n log' y.«module») x (places s.pages log') h.there).0 in
    let in_still = subst (IsIn x) (ap (places s.pages) (deeds-snoc b e) ∙ places-snoc s.pages (deeds b) a) in_places in
    let in_deed : IsIn x (place_deed s.pages v held) = (In-filter (λ (y : Placed). resident (marks (deeds b ++ a ∷ [])) y.«module») x (place_deed s.pages v held) in_still).0 in
    let o' = ordered_deed s.pages held v o (can_next s b e.caller e.event o next points) in
    let fits = all_in (λ (y : Placed). length y.pages ≡ pages_for y.tables) (place_deed s.pages v held) x o'.fits in_deed in
    ⊎_elim (λ z. inl (all_kept held p ∙ word_found held x p w o.once z h.word)) (λ z. inr (word_put x fills p w fits z h.word)) (deed_put s.pages held fills v x put in_deed)

-- The pages of places with loads are those of the places and the new ones.
pub loads_pages : (pages : ℕ) (ls : List Loaded) (held : List Placed) → all_pages (place_loads pages ls held) ≡ all_pages held ++ joined (places_for pages ls held)
loads_pages pages [] held = sym (append-nil (all_pages held))
loads_pages pages (l ∷ ls) held = let y : Placed = placed_at pages held l in let rest : List ℕ = joined (places_for pages ls (held ++ y ∷ [])) in
    loads_pages pages ls (held ++ y ∷ []) ∙ (ap (λ (z : List ℕ). z ++ rest) (all_pages-append held (y ∷ []) ∙ ap (λ (z : List ℕ). all_pages held ++ z) (append-nil y.pages))
    ∙ append_assoc (all_pages held) y.pages rest)

-- The new pages: none stands twice, each lies in the store, and none is that of a module with a place.
pub record AreNew (pages : ℕ) (held : List Placed) (new : List ℕ) : Type 0 where
  pub once : Once new
  pub below : AllByRecursion (λ (k : ℕ). k < pages) new
  pub free : Share new (all_pages held)

pub new_pages : (pages : ℕ) (ls : List Loaded) (held : List Placed) → IsOrdered pages held → all_needs held + load_pages ls ≤ pages → AreGood ls → AreNew pages held (joined (places_for pages ls held))
new_pages pages ls held o room good =
    let o' = ordered_loads pages ls held o room good in
    let new : List ℕ = joined (places_for pages ls held) in
    let s = once_split (all_pages held) new (subst Once (loads_pages pages ls held) o'.once) in
    record {
      once = s.1;
      below = (all_split (λ (k : ℕ). k < pages) (all_pages held) new (subst (AllByRecursion (λ (k : ℕ). k < pages)) (loads_pages pages ls held) o'.below)).1;
      free = share_flip new (all_pages held) s.2;
    }

page_of : (k place : ℕ) → place < 256 → (256 * k + place) / 256 ≡ k
page_of k place lt = omega arith

-- Nobody has a place of such a page pinned.
pub none_pinned : (pages : ℕ) (log : Deeds) (k place n : ℕ) → place < 256 → among k (all_pages (places pages log)) ≡ false → pinned pages log n (256 * k + place) ≡ None
none_pinned pages log k place n lt e = no_words (held_by pages n log) (256 * k + place)
    (ap (λ (m : ℕ). among m (all_pages (held_by pages n log))) (page_of k place lt) ∙ among_filtered (λ (x : Placed). holds n log x.«module») k (places pages log) e)

-- The new places fit the tables.
pub new_fit : (pages : ℕ) (ls : List Loaded) (held : List Placed) → IsOrdered pages held → all_needs held + load_pages ls ≤ pages → AreGood ls → Fit (tables_in ls) (places_for pages ls held)
new_fit pages [] held o room good = tt
new_fit pages (l ∷ ls) held o room good =
    let y : Placed = placed_at pages held l in
    let n = needs_more held y in
    (length-lowest pages (pages_for l.tables) held o.fits (omega arith), new_fit pages ls (held ++ y ∷ []) (ordered_more pages held l o (omega arith) good.0) (omega arith) good.1)
  where
    needs_more : (xs : List Placed) (y : Placed) → all_needs (xs ++ y ∷ []) ≡ all_needs xs + pages_for y.tables
    needs_more [] y = omega arith
    needs_more (x ∷ xs) y = let h = needs_more xs y in omega arith
