-- Tables that are put into pages, one after another.
use Rattle.std.proofs.Common.{◌≡◌, ◌≢◌, ℕ, zero, suc, ◌+◌, ◌*◌, ◌/◌, ◌<◌, ◌≤◌, eqb, Bool, true, false, ◌||◌, List, [], ◌∷◌, ◌++◌, length, take, drop, sym, refl, ap, ◌∙◌, subst, arith, append_assoc, append-nil, true≢false, eq-eqb, length-drop, get_or}
use Rattle.std.specs.declared.vec.Vec.{Vec}
use Rattle.std.specs.declared.alloc.Global.{Global}
use Rattle.std.proofs.lemmas.List.{length-take-le, take-append-drop}
use Rattle.std.specs.Prelude.{slice_index}
use Rattle.std.specs.List.{AllByRecursion}
use Rattle.code_pairs.specs.Tables.{Table, Tables}
use Rattle.code_table.specs.Images.{page_count}
use Rattle.history_core.specs.Rule.{last_fill}
use Rattle.history_core.specs.Tokens.{front}
use Rattle.history_core.specs.declared.story.Story.{Ghosts}
use Rattle.history_core.specs.declared.tokens.Hall.{Hall}
use Rattle.history_core.specs.declared.tokens.Pass.{Pass}
use Rattle.history_core.specs.declared.tokens.Turn.{Turn}
use Rattle.module_counts.specs.Stocks.{Once, lists}
use Rattle.page_store.specs.Holdings.{Holding, AreApart, side}
use Rattle.runtime_histories.specs.Places.{among, pages_for}
use Rattle.runtime_room.specs.Apart.{Share, once_split, all_split, all_join, all_map, among_both}
use Rattle.runtime_room.specs.Puts.{IsPut, all_parts, Fit, joined, KeepsElse, IsFreePage, CanPut}
use Rattle.runtime_room.specs.Rooms.{parts}

-- A number that stands at a place stands in the list.
pub stands : (xs : List ℕ) (j k : ℕ) → j < length xs → slice_index xs j ≡ k → among k xs ≡ true
stands [] j k lt e = absurd (omega arith)
stands (y ∷ ys) zero k lt e = ap (λ (b : Bool). b || among k ys) (eq-eqb y k e)
stands (y ∷ ys) (suc j) k lt e = either (eqb y k) (among k ys) (stands ys j k (omega arith) e)
  where
    either : (a b : Bool) → b ≡ true → (a || b) ≡ true
    either true b e = refl
    either false b e = e

page_of : (k place : ℕ) → place < 256 → (256 * k + place) / 256 ≡ k
page_of k place lt = omega arith

-- Pages of which none stands twice are apart.
pub once_apart : (xs : List ℕ) → Once xs → AreApart xs
once_apart [] once i j lt few e = absurd (omega arith)
once_apart (x ∷ xs) once zero zero lt few e = refl
once_apart (x ∷ xs) once zero (suc j) lt few e = absurd (true≢false (sym (stands xs j x (omega arith) (sym e)) ∙ once.0))
once_apart (x ∷ xs) once (suc i) zero lt few e = absurd (true≢false (sym (stands xs i x (omega arith) e) ∙ once.0))
once_apart (x ∷ xs) once (suc i) (suc j) lt few e = let r = once_apart xs once.1 i j (omega arith) (omega arith) e in ap suc r

-- A place of a page that isn't among some lies at none of their places.
pub not_side : (pages : List ℕ) (place k j : ℕ) → among (place / 256) pages ≡ false → k < length pages → j < 256 → place ≢ side pages k j
not_side pages place k j e lt few z = true≢false
    (sym (stands pages k (place / 256) lt (sym (ap (λ (n : ℕ). n / 256) z ∙ page_of (slice_index pages k) j few))) ∙ e)

-- What stays of everything that lies at none of the places stays of what lies in none of the pages.
pub keeps : (pages : List ℕ) (old new : List (ℕ × ℕ)) → ((place : ℕ) → ((k j : ℕ) → k < length pages → j < 256 → place ≢ side pages k j) → last_fill place new ≡ last_fill place old) → KeepsElse pages old new
keeps pages old new h place e = h place (λ k j lt few. not_side pages place k j e lt few)

-- A part that was put, and whose pages are away from others.
pub record IsDone (rest : List ℕ) (fills : List (ℕ × ℕ)) (h : Holding) : Type 0 where
  pub count : length h.pages ≡ page_count h.table
  pub away : Share h.pages rest
  pub put : IsPut fills h

share_at : (xs ys : List ℕ) (k d : ℕ) → Share xs ys → k < length xs → among (slice_index xs k) ys ≡ false
share_at [] ys k d s lt = absurd (omega arith)
share_at (x ∷ xs) ys zero d s lt = s.0
share_at (x ∷ xs) ys (suc k) d s lt = share_at xs ys k d s.1 (omega arith)

-- It stays put while others of those pages are written.
pub done_kept : (rest part behind : List ℕ) (old new : List (ℕ × ℕ)) (h : Holding) → ((k : ℕ) → among k rest ≡ false → among k part ≡ false) → ((k : ℕ) → among k rest ≡ false → among k behind ≡ false)
    → KeepsElse part old new → IsDone rest old h → IsDone behind new h
done_kept rest part behind old new h in_part in_behind kept d = record {
  count = d.count;
  away = all_map (λ (k : ℕ). among k rest ≡ false) (λ (k : ℕ). among k behind ≡ false) h.pages in_behind d.away;
  put = λ page place lt few.
      kept (side h.pages page place) (ap (λ (n : ℕ). among n part) (page_of (slice_index h.pages page) place few) ∙ in_part (slice_index h.pages page) (share_at h.pages rest page 0 d.away (let c = d.count in omega arith)))
      ∙ d.put page place lt few;
}

pub done_all : (rest part behind : List ℕ) (old new : List (ℕ × ℕ)) (hs : List Holding) → ((k : ℕ) → among k rest ≡ false → among k part ≡ false) → ((k : ℕ) → among k rest ≡ false → among k behind ≡ false)
    → KeepsElse part old new → AllByRecursion (IsDone rest old) hs → AllByRecursion (IsDone behind new) hs
done_all rest part behind old new [] p b kept all = tt
done_all rest part behind old new (h ∷ hs) p b kept all = (done_kept rest part behind old new h p b kept all.0, done_all rest part behind old new hs p b kept all.1)

pub among-take : (n k : ℕ) (xs : List ℕ) → among k xs ≡ false → among k (take n xs) ≡ false
among-take n k xs e = (among_both k (take n xs) (drop n xs) (ap (among k) (take-append-drop n xs) ∙ e)).0

pub among-drop : (n k : ℕ) (xs : List ℕ) → among k xs ≡ false → among k (drop n xs) ≡ false
among-drop n k xs e = (among_both k (take n xs) (drop n xs) (ap (among k) (take-append-drop n xs) ∙ e)).1

pub once_cut : (n : ℕ) (xs : List ℕ) → Once xs → Once (take n xs) × Once (drop n xs) × Share (take n xs) (drop n xs)
once_cut n xs once = once_split (take n xs) (drop n xs) (subst Once (sym (take-append-drop n xs)) once)

-- So many tables are put, and the rest of the pages is for the others.
pub record IsPutting (tables : List Table) (pages : List ℕ) (k : ℕ) (rest : List ℕ) (fills : List (ℕ × ℕ)) : Type 0 where
  pub n : ℕ
  pub rest_is : rest ≡ drop n pages
  pub fits : length rest ≡ pages_for (drop k tables)
  pub done : List Holding
  pub whole : parts tables pages ≡ done ++ parts (drop k tables) rest
  pub put : AllByRecursion (IsDone rest fills) done

pub putting_first : (tables : List Table) (pages : List ℕ) (fills : List (ℕ × ℕ)) → length pages ≡ pages_for tables → IsPutting tables pages 0 pages fills
putting_first tables pages fills fits = record { n = 0; rest_is = refl; fits = fits; done = []; whole = refl; put = tt }

drop_here : {A : Type 0} (xs : List A) (k : ℕ) (d : A) → k < length xs → drop k xs ≡ get_or xs k d ∷ drop (k + 1) xs
drop_here [] k d lt = absurd (omega arith)
drop_here (x ∷ xs) zero d lt = refl
drop_here (x ∷ xs) (suc k) d lt = let e : suc (k + 1) ≡ suc k + 1 = omega arith in drop_here xs k d (omega arith) ∙ ap (λ (n : ℕ). get_or xs k d ∷ drop n (x ∷ xs)) e

drop-drop : (a b : ℕ) (xs : List ℕ) → drop a (drop b xs) ≡ drop (b + a) xs
drop-drop a zero xs = let e : 0 + a ≡ a = omega arith in ap (λ (n : ℕ). drop n xs) (sym e)
drop-drop a (suc b) [] = nothing a ∙ sym (nothing (suc b + a))
  where
    nothing : (n : ℕ) → drop {A = ℕ} n [] ≡ []
    nothing zero = refl
    nothing (suc n) = refl
drop-drop a (suc b) (x ∷ xs) = let e : suc (b + a) ≡ suc b + a = omega arith in drop-drop a b xs ∙ ap (λ (n : ℕ). drop n (x ∷ xs)) e

pub putting_next : (tables : List Table) (pages : List ℕ) (k : ℕ) (rest : List ℕ) (old new : List (ℕ × ℕ)) (t : Table) → IsPutting tables pages k rest old → k < length tables → get_or tables k t ≡ t → Once rest
    → IsPut new (record { table = t; pages = take (page_count t) rest }) → KeepsElse (take (page_count t) rest) old new → IsPutting tables pages (k + 1) (drop (page_count t) rest) new
putting_next tables pages k rest old new t p lt at once put kept =
    let here : drop k tables ≡ t ∷ drop (k + 1) tables = drop_here tables k t lt ∙ ap (λ (x : Table). x ∷ drop (k + 1) tables) at in
    let fit : length rest ≡ page_count t + pages_for (drop (k + 1) tables) = p.fits ∙ ap pages_for here in
    let h : Holding = record { table = t; pages = take (page_count t) rest } in
    let c = once_cut (page_count t) rest once in
    record {
      n = p.n + page_count t;
      rest_is = ap (drop (page_count t)) p.rest_is ∙ drop-drop (page_count t) p.n pages;
      fits = (let d = length-drop (page_count t) rest in omega arith);
      done = p.done ++ h ∷ [];
      whole = p.whole ∙ (ap (λ (ts : List Table). p.done ++ parts ts rest) here ∙ sym (append_assoc p.done (h ∷ []) (parts (drop (k + 1) tables) (drop (page_count t) rest))));
      put = all_join (IsDone (drop (page_count t) rest) new) p.done (h ∷ [])
          (done_all rest (take (page_count t) rest) (drop (page_count t) rest) old new p.done (λ n e. among-take (page_count t) n rest e) (λ n e. among-drop (page_count t) n rest e) kept p.put)
          (record { count = length-take-le (page_count t) rest (omega arith); away = c.2; put = put }, tt);
    }

done_put : (rest : List ℕ) (fills : List (ℕ × ℕ)) (hs : List Holding) → AllByRecursion (IsDone rest fills) hs → AllByRecursion (IsPut fills) hs
done_put rest fills [] all = tt
done_put rest fills (h ∷ hs) all = (all.0.put, done_put rest fills hs all.1)

drop_end : {A : Type 0} (xs : List A) (k : ℕ) → length xs ≤ k → drop k xs ≡ []
drop_end [] zero le = refl
drop_end [] (suc k) le = refl
drop_end (x ∷ xs) zero le = absurd (omega arith)
drop_end (x ∷ xs) (suc k) le = drop_end xs k (omega arith)

pub putting_all : (tables : List Table) (pages : List ℕ) (k : ℕ) (rest : List ℕ) (fills : List (ℕ × ℕ)) → IsPutting tables pages k rest fills → length tables ≤ k → AllByRecursion (IsPut fills) (parts tables pages)
putting_all tables pages k rest fills p le = subst (AllByRecursion (IsPut fills))
    (sym (p.whole ∙ (ap (λ (ts : List Table). p.done ++ parts ts rest) (drop_end tables k le) ∙ append-nil p.done))) (done_put rest fills p.done p.put)

-- there is a page for the next table
pub enough_next : (tables : List Table) (k : ℕ) (t : Table) (n : ℕ) → k < length tables → get_or tables k t ≡ t → n ≡ pages_for (drop k tables) → page_count t ≤ n
enough_next tables k t n lt at e = let z : n ≡ page_count t + pages_for (drop (k + 1) tables) = e ∙ ap pages_for (drop_here tables k t lt ∙ ap (λ (x : Table). x ∷ drop (k + 1) tables) at) in omega arith

module _ {S V E T : Type 0} {g : Ghosts S V E T} where
  -- Some of the pages can be filled as well.
  pub can_cut : (hall : Hall S V E T) (pass : Pass S V E T g) (pages rest : List ℕ) (n : ℕ) → CanPut hall pass pages → rest ≡ drop n pages → CanPut hall pass rest
  can_cut hall pass pages rest n can e = subst (CanPut hall pass) (sym e) (record {
    once = (once_cut n pages can.once).1;
    free = (all_split (IsFreePage hall pass) (take n pages) (drop n pages) (subst (AllByRecursion (IsFreePage hall pass)) (sym (take-append-drop n pages)) can.free)).1;
  })

  can_same : (hall : Hall S V E T) (pass after : Pass S V E T g) (pages : List ℕ) → front after ≡ front pass → CanPut hall pass pages → CanPut hall after pages
  can_same hall pass after pages e can = record {
    once = can.once;
    free = all_map (IsFreePage hall pass) (IsFreePage hall after) pages (λ k f. record {
      inside = f.inside;
      free = λ place lt n. ap (λ log. g.pinned (g.setting hall.table.shared.key.value.value) log n (256 * k + place)) e ∙ f.free place lt n;
    }) can.free;
  }

  -- They can be filled later in the turn.
  pub can_later : (before after : Turn S V E T g) (pages : List ℕ) → after.hall ≡ before.hall → front after.pass.now ≡ front before.pass.now
      → CanPut before.hall.now before.pass.now pages → CanPut after.hall.now after.pass.now pages
  can_later before after pages h e can = subst (λ x. CanPut x.now after.pass.now pages) (sym h) (can_same before.hall.now before.pass.now after.pass.now pages e can)

  -- The pages lie in the hall and are free.
  pub can_inside : (hall : Hall S V E T) (pass : Pass S V E T g) (pages : List ℕ) (k : ℕ) → CanPut hall pass pages → k < length pages → IsFreePage hall pass (slice_index pages k)
  can_inside hall pass pages k can lt = at pages k can.free lt
    where
      at : (xs : List ℕ) (k : ℕ) → AllByRecursion (IsFreePage hall pass) xs → k < length xs → IsFreePage hall pass (slice_index xs k)
      at [] k all lt = absurd (omega arith)
      at (x ∷ xs) zero all lt = all.0
      at (x ∷ xs) (suc k) all lt = at xs k all.1 (omega arith)

pub fit_length : (ts : List Tables) (ps : List (List ℕ)) → Fit ts ps → length ts ≡ length ps
fit_length [] [] f = refl
fit_length [] (p ∷ ps) f = absurd f
fit_length (t ∷ ts) [] f = absurd f
fit_length (t ∷ ts) (p ∷ ps) f = let r = fit_length ts ps f.1 in omega arith

lists_here : (vs : List (Vec ℕ Global)) (k : ℕ) (v : Vec ℕ Global) → k < length vs → get_or vs k v ≡ v → drop k (lists vs) ≡ v.items ∷ drop (k + 1) (lists vs)
lists_here [] k v lt e = absurd (omega arith)
lists_here (w ∷ vs) zero v lt e = ap (λ (z : Vec ℕ Global). z.items ∷ lists vs) e
lists_here (w ∷ vs) (suc k) v lt e = let z : suc (k + 1) ≡ suc k + 1 = omega arith in lists_here vs k v (omega arith) e ∙ ap (λ (n : ℕ). v.items ∷ drop n (lists (w ∷ vs))) z

-- each part of a module that was put is away from other pages
parts_done : (ts : List Table) (pages rest : List ℕ) (fills : List (ℕ × ℕ)) → length pages ≡ pages_for ts → Share pages rest → AllByRecursion (IsPut fills) (parts ts pages) → AllByRecursion (IsDone rest fills) (parts ts pages)
parts_done [] pages rest fills fits away put = tt
parts_done (t ∷ ts) pages rest fills fits away put =
    let d = length-drop (page_count t) pages in
    let s = all_split (λ (k : ℕ). among k rest ≡ false) (take (page_count t) pages) (drop (page_count t) pages)
    (subst (AllByRecursion (λ (k : ℕ). among k rest ≡ false)) (sym (take-append-drop (page_count t) pages)) away) in (
      record { count = length-take-le (page_count t) pages (omega arith); away = s.0; put = put.0 },
      parts_done ts (drop (page_count t) pages) rest fills (omega arith) s.1 put.1,
    )

-- So many modules are put.
pub record IsPuttingAll (all : List Tables) (places : List (List ℕ)) (k : ℕ) (fills : List (ℕ × ℕ)) : Type 0 where
  pub n : ℕ
  pub rest_is : joined (drop k places) ≡ drop n (joined places)
  pub fits : Fit (drop k all) (drop k places)
  pub done : List Holding
  pub whole : all_parts all places ≡ done ++ all_parts (drop k all) (drop k places)
  pub put : AllByRecursion (IsDone (joined (drop k places)) fills) done

pub putting_all_first : (all : List Tables) (places : List (List ℕ)) (fills : List (ℕ × ℕ)) → Fit all places → IsPuttingAll all places 0 fills
putting_all_first all places fills fits = record { n = 0; rest_is = refl; fits = fits; done = []; whole = refl; put = tt }

drop_length : (xs ys : List ℕ) → drop (length xs) (xs ++ ys) ≡ ys
drop_length [] ys = refl
drop_length (x ∷ xs) ys = drop_length xs ys

-- the next module with its pages
pub record IsNextModule (all : List Tables) (vs : List (Vec ℕ Global)) (k : ℕ) (t : Tables) (v : Vec ℕ Global) : Type 0 where
  pub modules : drop k all ≡ t ∷ drop (k + 1) all
  pub places : drop k (lists vs) ≡ v.items ∷ drop (k + 1) (lists vs)

length-lists : (vs : List (Vec ℕ Global)) → length (lists vs) ≡ length vs
length-lists [] = refl
length-lists (v ∷ vs) = let r = length-lists vs in omega arith

pub next_module : (all : List Tables) (vs : List (Vec ℕ Global)) (k : ℕ) (t : Tables) (v : Vec ℕ Global) → Fit all (lists vs) → k < length all → get_or all k t ≡ t → get_or vs k v ≡ v → IsNextModule all vs k t v
next_module all vs k t v fits lt a b = record {
  modules = drop_here all k t lt ∙ ap (λ (x : Tables). x ∷ drop (k + 1) all) a;
  places = lists_here vs k v (let l = fit_length all (lists vs) fits in let m = length-lists vs in omega arith) b;
}

-- its pages fit
pub fits_next : (all : List Tables) (vs : List (Vec ℕ Global)) (k : ℕ) (t : Tables) (v : Vec ℕ Global) → IsNextModule all vs k t v → Fit (drop k all) (drop k (lists vs)) → (length v.items ≡ pages_for t) × Fit (drop (k + 1) all) (drop (k + 1) (lists vs))
fits_next all vs k t v n f = subst (λ (ts : List Tables). Fit ts (v.items ∷ drop (k + 1) (lists vs))) n.modules (subst (Fit (drop k all)) n.places f)

pub putting_all_next : (all : List Tables) (vs : List (Vec ℕ Global)) (k : ℕ) (old new : List (ℕ × ℕ)) (t : Tables) (v : Vec ℕ Global) → IsPuttingAll all (lists vs) k old → IsNextModule all vs k t v
    → Once (joined (drop k (lists vs))) → AllByRecursion (IsPut new) (parts t v.items) → KeepsElse v.items old new → IsPuttingAll all (lists vs) (k + 1) new
putting_all_next all vs k old new t v p n once put kept =
    let ps : List (List ℕ) = lists vs in
    let rest : joined (drop k ps) ≡ v.items ++ joined (drop (k + 1) ps) = ap joined n.places in
    let s = once_split v.items (joined (drop (k + 1) ps)) (subst Once rest once) in
    let f = fits_next all vs k t v n p.fits in
    record {
      n = p.n + length v.items;
      rest_is = sym (drop_length v.items (joined (drop (k + 1) ps))) ∙ (ap (drop (length v.items)) (sym rest ∙ p.rest_is) ∙ drop-drop (length v.items) p.n (joined ps));
      fits = f.1;
      done = p.done ++ parts t v.items;
      whole = p.whole ∙ ((λ i. p.done ++ all_parts (n.modules i) (n.places i)) ∙ sym (append_assoc p.done (parts t v.items) (all_parts (drop (k + 1) all) (drop (k + 1) ps))));
      put = all_join (IsDone (joined (drop (k + 1) ps)) new) p.done (parts t v.items)
          (done_all (joined (drop k ps)) v.items (joined (drop (k + 1) ps)) old new p.done
          (λ q e. (among_both q v.items (joined (drop (k + 1) ps)) (ap (among q) (sym rest) ∙ e)).0) (λ q e. (among_both q v.items (joined (drop (k + 1) ps)) (ap (among q) (sym rest) ∙ e)).1) kept p.put)
          (parts_done t v.items (joined (drop (k + 1) ps)) new f.0 s.2 put);
    }

pub putting_all_done : (all : List Tables) (places : List (List ℕ)) (k : ℕ) (fills : List (ℕ × ℕ)) → IsPuttingAll all places k fills → length all ≤ k → AllByRecursion (IsPut fills) (all_parts all places)
putting_all_done all places k fills p le = subst (AllByRecursion (IsPut fills))
    (sym (p.whole ∙ (ap (λ (ts : List Tables). p.done ++ all_parts ts (drop k places)) (drop_end all k le) ∙ append-nil p.done))) (done_put (joined (drop k places)) fills p.done p.put)

module _ {S V E T : Type 0} {g : Ghosts S V E T} where
  -- The pages of the next module can be filled.
  pub can_first : (hall : Hall S V E T) (pass : Pass S V E T g) (pages v rest : List ℕ) → CanPut hall pass pages → pages ≡ v ++ rest → CanPut hall pass v
  can_first hall pass pages v rest can e =
      let once = once_split v rest (subst Once e can.once) in
      record { once = once.0; free = (all_split (IsFreePage hall pass) v rest (subst (AllByRecursion (IsFreePage hall pass)) e can.free)).0 }
