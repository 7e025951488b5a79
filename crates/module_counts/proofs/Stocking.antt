-- What one entry more does to the stock.
use Rattle.std.proofs.Common.{◌≡◌, ◌⊎◌, ℕ, ◌+◌, ◌*◌, ◌^◌, ◌<◌, ◌≤◌, eqb, Bool, true, false, not, ◌||◌, cond, List, [], ◌∷◌, ◌++◌, length, map, get_or, vec_capacity, sym, refl, ap, ◌∙◌, subst, arith, Option, Some, None, length-append, true≢false, inl, inr, ⊎_elim, eq-eqb, ne_eqb}
use mathlib.Core.Logic.{dite}
use native.Mathlib.Decide.{ℕ_discrete}
use Rattle.std.specs.List.{filter, cons_option, AllByRecursion, list_any}
use Rattle.module_graph.specs.declared.edge.Edge.{Edge}
use Rattle.module_graph.specs.Graph.{Shape}
use Rattle.module_graph.specs.Numbers.{with_new}
use Rattle.runtime_histories.specs.declared.loads.Load.{Load}
use Rattle.module_counts.specs.declared.homes.Homes.{Homes}
use Rattle.module_counts.specs.declared.lives.Live.{Live}
use Rattle.module_counts.specs.declared.stock.Stock.{Stock}
use Rattle.runtime_histories.specs.Deeds.{Act, act, opens, closes, rests, Deeds, Desc, Loaded, live, closed, pair_live, Mark, uses, releases, marks, IsIn, IsLive}
use Rattle.runtime_histories.specs.Residence.{resident}
use Rattle.module_counts.specs.Tracking.{IsTracking, IsWithin, is_kept}
use Rattle.runtime_histories.specs.Places.{Placed, among, place_loads, place_deed, still, places}
use Rattle.module_counts.specs.Stocks.{seat_in, seat_of, seated, lists, IsSettled, Settles, IsHomes, Once, placed_modules, IsTidy}
use Rattle.runtime_histories.specs.Entries.{loaded_of}
use Rattle.runtime_histories.specs.Settings.{module_at, modules_of}
use Rattle.runtime_histories.specs.Legal.{absent_among, loaded_modules}
use Rattle.module_counts.specs.Admitting.{Success, CanOpen}
use Rattle.runtime_histories.specs.Sound.{IsSound}
use Rattle.module_counts.specs.Counting.{shown, IsKnown, IsStock}
use Rattle.runtime_histories.proofs.Basics.{In-append, In-filter}
use Rattle.runtime_histories.proofs.Pinning.{places-snoc, absent_not_resident}
use Rattle.runtime_histories.proofs.Legality.{sound_opens, sound_rests, sound_closes}
use Rattle.module_counts.proofs.Living.{live_is_opens, live_rests, live_is_closes, marks_opens, marks_rests, marks_closes}
use Rattle.module_counts.proofs.Tidying.{tidy_filter, tidy_loads, seats-loads, modules-loads, seats-modules, length-places_for, length-tidy, kept-resident, AreNew}
use Rattle.module_counts.proofs.Homing.{all_behind, length-lists, seats_settled, homes_settled}
use Rattle.module_counts.proofs.Residing.{before_opening, before_closing, kept_before, filter-weaker}
use Rattle.std.proofs.lemmas.List.{length-map}

pub all_from_in : {A : Type 0} (P : A → Type 0) (xs : List A) → ((x : A) → IsIn x xs → P x) → AllByRecursion P xs
all_from_in P [] h = tt
all_from_in P (x ∷ xs) h = (h x (inl refl), all_from_in P xs (λ y z. h y (inr z)))

-- the modules of a chain are known
pub in_modules : (edges : List Edge) (n : ℕ) → ((o m : ℕ) → module_at edges o ≡ Some m → m < n) → (os : List ℕ) (m : ℕ) → IsIn m (modules_of edges os) → m < n
in_modules edges n known [] m h = absurd h
in_modules edges n known (o ∷ os) m h = go (λ z. in_modules edges n known os m z) (module_at edges o) refl h
  where
    go : (IsIn m (modules_of edges os) → m < n) → (x : Option ℕ) → module_at edges o ≡ x → IsIn m (cons_option x (modules_of edges os)) → m < n
    go rec None e z = rec z
    go rec (Some k) e z = ⊎_elim (λ (q : k ≡ m). subst (λ (y : ℕ). y < n) q (known o k e)) (λ y. rec y) z

new_in : (seen xs : List ℕ) (m : ℕ) → IsIn m (with_new (λ a b. eqb a b) seen xs) → IsIn m seen ⊎ IsIn m xs
new_in seen [] m h = inl h
new_in seen (x ∷ xs) m h = go (list_any (λ b. eqb x b) seen) (new_in (cond (list_any (λ b. eqb x b) seen) seen (seen ++ x ∷ [])) xs m h)
  where
    go : (b : Bool) → IsIn m (cond b seen (seen ++ x ∷ [])) ⊎ IsIn m xs → IsIn m seen ⊎ IsIn m (x ∷ xs)
    go true r = ⊎_elim (λ z. inl z) (λ z. inr (inr z)) r
    go false r = ⊎_elim (λ z. ⊎_elim (λ y. inl y) (λ y. inr (inl (⊎_elim (λ v. v) (λ v. absurd v) y))) (In-append m seen (x ∷ []) z)) (λ z. inr (inr z)) r

absent_in : (log : Deeds) (ms : List ℕ) (m : ℕ) → IsIn m (absent_among log ms) → IsIn m ms
absent_in log ms m h = ⊎_elim (λ z. absurd z) (λ z. (In-filter (λ k. not (resident (marks log) k)) m ms z).0) (new_in [] (filter (λ k. not (resident (marks log) k)) ms) m h)

eqb-sym : (a b : ℕ) → eqb a b ≡ eqb b a
eqb-sym a b = dite (ℕ_discrete a b) (λ (e : a ≡ b). eq-eqb a b e ∙ sym (eq-eqb b a (sym e))) (λ ne. ne_eqb a b ne ∙ sym (ne_eqb b a (λ z. ne (sym z))))

among_any : (x : ℕ) (xs : List ℕ) → list_any (λ b. eqb x b) xs ≡ among x xs
among_any x [] = refl
among_any x (y ∷ xs) = (λ i. eqb-sym x y i || among_any x xs i)

once_push : (xs : List ℕ) (y : ℕ) → Once xs → among y xs ≡ false → Once (xs ++ y ∷ [])
once_push [] y h k = (refl, tt)
once_push (x ∷ xs) y h k = go (eqb x y) refl (eqb-sym y x) k (once_push xs y h.1)
  where
    push : (a : ℕ) (xs : List ℕ) (y : ℕ) → among a xs ≡ false → eqb y a ≡ false → among a (xs ++ y ∷ []) ≡ false
    push a [] y e f = ap (λ (b : Bool). b || false) f
    push a (x ∷ xs) y e f = both (eqb x a) e (λ z. push a xs y z f)
      where
        both : (b : Bool) → (b || among a xs) ≡ false → (among a xs ≡ false → among a (xs ++ y ∷ []) ≡ false) → (b || among a (xs ++ y ∷ [])) ≡ false
        both true e r = absurd (true≢false e)
        both false e r = r e

    go : (b : Bool) → eqb x y ≡ b → eqb y x ≡ eqb x y → (eqb x y || among y xs) ≡ false → (among y xs ≡ false → Once (xs ++ y ∷ [])) → Once ((x ∷ xs) ++ y ∷ [])
    go true e s k r = absurd (true≢false (sym (ap (λ (b : Bool). b || among y xs) e) ∙ k))
    go false e s k r = (push x xs y h.0 (s ∙ e), r (sym (ap (λ (b : Bool). b || among y xs) e) ∙ k))

once_new : (seen xs : List ℕ) → Once seen → Once (with_new (λ a b. eqb a b) seen xs)
once_new seen [] h = h
once_new seen (x ∷ xs) h = once_new (cond (list_any (λ b. eqb x b) seen) seen (seen ++ x ∷ [])) xs (go (list_any (λ b. eqb x b) seen) refl)
  where
    go : (b : Bool) → list_any (λ b. eqb x b) seen ≡ b → Once (cond b seen (seen ++ x ∷ []))
    go true e = h
    go false e = once_push seen x h (sym (among_any x seen) ∙ e)

-- Absent modules stand once.
pub once_absent : (log : Deeds) (ms : List ℕ) → Once (absent_among log ms)
once_absent log ms = once_new [] (filter (λ k. not (resident (marks log) k)) ms) tt

-- a module that isn't resident has no place
not_placed : (log : Deeds) (m : ℕ) (ks : List ℕ) → resident (marks log) m ≡ false → AllByRecursion (λ k. resident (marks log) k ≡ true) ks → among m ks ≡ false
not_placed log m [] e h = refl
not_placed log m (k ∷ ks) e h = dite (ℕ_discrete k m)
    (λ (z : k ≡ m). absurd (true≢false (sym h.0 ∙ (ap (resident (marks log)) z ∙ e))))
    (λ ne. ap (λ (b : Bool). b || among m ks) (ne_eqb k m ne) ∙ not_placed log m ks e h.1)

new_all : (log : Deeds) (held : List Placed) (ls : List Loaded) → AllByRecursion (λ k. resident (marks log) k ≡ true) (placed_modules held) → ((m : ℕ) → IsIn m (loaded_modules ls) → resident (marks log) m ≡ false) → AreNew held ls
new_all log held [] h k = tt
new_all log held (l ∷ ls) h k = (not_placed log l.«module» (placed_modules held) (k l.«module» (inl refl)) h, new_all log held ls h (λ m z. k m (inr z)))

-- The places with an opening's loads are tidy.
pub tidy_open : (g : Shape) (s : Stock) (log : Deeds) (v : Success) (ps : List (List ℕ)) → IsStock g s log → CanOpen g s.pages log v ps
    → IsTidy (length s.ages.held.items) s.pages (place_loads s.pages (map loaded_of v.loads) (places s.pages log))
tidy_open g s log v ps h can =
    let ls = map loaded_of v.loads in
    tidy_loads (length s.ages.held.items) s.pages ls (places s.pages log) h.tidy
    (all_from_in (λ m. m < length s.ages.held.items) (loaded_modules ls) (λ m z. in_modules g.edges (length s.ages.held.items) h.known v.ordinals m
    (subst (IsIn m) can.steps (absent_in log v.modules m (subst (IsIn m) can.absent z)))))
    (subst Once (sym can.absent) (once_absent log v.modules))
    (new_all log (places s.pages log) ls h.fresh (λ m z. absent_not_resident log v.modules m (subst (IsIn m) can.absent z)))
    (let r = can.room in let w = h.tidy.within in omega arith)

fresh_filter : (log : Deeds) (xs : List Placed) → AllByRecursion (λ m. resident (marks log) m ≡ true) (placed_modules (filter (λ (x : Placed). resident (marks log) x.«module») xs))
fresh_filter log [] = tt
fresh_filter log (x ∷ xs) = go (resident (marks log) x.«module») refl (fresh_filter log xs)
  where
    go : (b : Bool) → resident (marks log) x.«module» ≡ b → AllByRecursion (λ m. resident (marks log) m ≡ true) (placed_modules (filter (λ (x : Placed). resident (marks log) x.«module») xs))
        → AllByRecursion (λ m. resident (marks log) m ≡ true) (placed_modules (cond b (x ∷ filter (λ (x : Placed). resident (marks log) x.«module») xs) (filter (λ (x : Placed). resident (marks log) x.«module») xs)))
    go true e r = (e, r)
    go false e r = r

length-snoc : (log : Deeds) (e : Act) → length (log ++ e ∷ []) ≡ length log + 1
length-snoc log e = length-append log (e ∷ [])

-- what all three kinds of deeds share: the counters track the new marks, the places are those before with loads
stock_after : (g : Shape) (s t : Stock) (log : Deeds) (e : Act) (ks : List ℕ) → IsStock g s log
    → IsTracking t.ages (marks (log ++ e ∷ [])) → IsWithin t.ages (length (log ++ e ∷ []) * 2 ^ 64)
    → t.live.items ≡ map shown (live (log ++ e ∷ [])) → t.live.slots ≡ s.live.slots + 1
    → map (seat_in (lists t.homes.rows.items)) ks ≡ map seat_of (place_deed s.pages e.deed (places s.pages log))
    → filter (is_kept t.ages) t.homes.order.items ≡ filter (is_kept t.ages) ks → IsHomes (length s.ages.held.items) t.homes
    → IsTidy (length s.ages.held.items) s.pages (place_deed s.pages e.deed (places s.pages log))
    → IsSound g (log ++ e ∷ []) → length t.ages.held.items ≡ length s.ages.held.items → t.pages ≡ s.pages → vec_capacity s.homes.order ≤ vec_capacity t.homes.order
    → IsStock g t (log ++ e ∷ [])
stock_after g s t log e ks h tracking within live_is slots seats kept homes tidy sound len pages room =
    let log' = log ++ e ∷ [] in
    let at : places t.pages log' ≡ still log' (place_deed s.pages e.deed (places s.pages log)) = ap (λ (z : ℕ). places z log') pages ∙ places-snoc s.pages log e in
    record {
      tracking = tracking;
      within = within;
      live_is = live_is;
      slots_is = (let a = h.slots_is in let b = length-snoc log e in omega arith);
      placed_is = ap (map (seat_in (lists t.homes.rows.items))) kept ∙ (kept-resident t.ages (marks log') (lists t.homes.rows.items) ks (place_deed s.pages e.deed (places s.pages log)) tracking seats
          (subst (λ (z : ℕ). AllByRecursion (λ m. m < z) (placed_modules (place_deed s.pages e.deed (places s.pages log)))) (sym len) tidy.known) ∙ ap (map seat_of) (sym at));
      homes = subst (λ (n : ℕ). IsHomes n t.homes) (sym len) homes;
      sound = sound;
      tidy = subst (λ (z : List Placed). IsTidy (length t.ages.held.items) t.pages z) (sym at)
          (subst (λ (n : ℕ). IsTidy n t.pages (still log' (place_deed s.pages e.deed (places s.pages log)))) (sym len)
          (subst (λ (n : ℕ). IsTidy (length s.ages.held.items) n (still log' (place_deed s.pages e.deed (places s.pages log)))) (sym pages)
          (tidy_filter (length s.ages.held.items) s.pages (λ m. resident (marks log') m) (place_deed s.pages e.deed (places s.pages log)) tidy)));
      known = subst (IsKnown g) (sym len) h.known;
      fresh = subst (λ (z : List Placed). AllByRecursion (λ m. resident (marks log') m ≡ true) (placed_modules z)) (sym at) (fresh_filter log' (place_deed s.pages e.deed (places s.pages log)));
      room = (let r = h.room in omega arith);
    }

-- A deed that loads nothing and makes no module resident leaves the homes.
stock_stays : (g : Shape) (s t : Stock) (log : Deeds) (e : Act) → IsStock g s log
    → IsTracking t.ages (marks (log ++ e ∷ [])) → IsWithin t.ages (length (log ++ e ∷ []) * 2 ^ 64)
    → t.live.items ≡ map shown (live (log ++ e ∷ [])) → t.live.slots ≡ s.live.slots + 1
    → t.homes ≡ s.homes → place_deed s.pages e.deed (places s.pages log) ≡ places s.pages log
    → ((m : ℕ) → resident (marks (log ++ e ∷ [])) m ≡ true → resident (marks log) m ≡ true)
    → IsSound g (log ++ e ∷ []) → length t.ages.held.items ≡ length s.ages.held.items → t.pages ≡ s.pages
    → IsStock g t (log ++ e ∷ [])
stock_stays g s t log e h tracking within live_is slots homes same before sound len pages =
    stock_after g s t log e (filter (is_kept s.ages) s.homes.order.items) h tracking within live_is slots
    (ap (λ (z : Homes). map (seat_in (lists z.rows.items)) (filter (is_kept s.ages) s.homes.order.items)) homes ∙ (h.placed_is ∙ ap (map seat_of) (sym same)))
    (ap (λ (z : Homes). filter (is_kept t.ages) z.order.items) homes
    ∙ sym (filter-weaker (is_kept t.ages) (is_kept s.ages) s.homes.order.items (kept_before s.ages t.ages (marks log) (marks (log ++ e ∷ [])) h.tracking tracking len before)))
    (subst (IsHomes (length s.ages.held.items)) (sym homes) h.homes)
    (subst (IsTidy (length s.ages.held.items) s.pages) (sym same) h.tidy) sound len pages
    (let r : vec_capacity s.homes.order ≡ vec_capacity t.homes.order = ap (λ (z : Homes). vec_capacity z.order) (sym homes) in omega arith)

map_loaded : (ls : List Load) → loaded_modules (map loaded_of ls) ≡ map (λ (l : Load). l.«module») ls
map_loaded [] = refl
map_loaded (l ∷ ls) = ap (λ (z : List ℕ). l.«module» ∷ z) (map_loaded ls)

-- What is kept is placed.
placed_are : (g : Shape) (s : Stock) (log : Deeds) → IsStock g s log → filter (is_kept s.ages) s.homes.order.items ≡ placed_modules (places s.pages log)
placed_are g s log h = seats-modules (lists s.homes.rows.items) (filter (is_kept s.ages) s.homes.order.items) (places s.pages log) h.placed_is

-- The modules that are kept, and behind them those that are loaded.
placed_with : (g : Shape) (s : Stock) (log : Deeds) (v : Success) → IsStock g s log
    → placed_modules (place_loads s.pages (map loaded_of v.loads) (places s.pages log)) ≡ filter (is_kept s.ages) s.homes.order.items ++ map (λ (l : Load). l.«module») v.loads
placed_with g s log v h = modules-loads s.pages (map loaded_of v.loads) (places s.pages log) ∙ (λ i. sym (placed_are g s log h) i ++ map_loaded v.loads i)

-- An opening has as many places as loads.
pub open_places : (g : Shape) (pages : ℕ) (log : Deeds) (v : Success) (ps : List (List ℕ)) → CanOpen g pages log v ps → length ps ≡ length v.loads
open_places g pages log v ps can = ap length can.places ∙ (length-places_for pages (map loaded_of v.loads) (places pages log) ∙ length-map v.loads loaded_of)

-- An opening that loads.
seats_opened : (g : Shape) (s : Stock) (new : Homes) (log : Deeds) (v : Success) (ps : List (List ℕ)) → IsStock g s log → CanOpen g s.pages log v ps → IsSettled s.ages s.homes new (map (λ (l : Load). l.«module») v.loads) ps
    → map (seat_in (lists new.rows.items)) new.order.items ≡ map seat_of (place_loads s.pages (map loaded_of v.loads) (places s.pages log))
seats_opened g s new log v ps h can st =
    let ls = map loaded_of v.loads in let ms = map (λ (l : Load). l.«module») v.loads in
    let rows = lists s.homes.rows.items in let p : ℕ → Bool = is_kept s.ages in let order = s.homes.order.items in
    let tidy = tidy_open g s log v ps h can in
    let all : length rows ≡ length s.ages.held.items = length-lists s.homes.rows.items ∙ h.homes.count in
    (λ i. map (seat_in (st.rows_are i)) (st.order_is i))
    ∙ (seats_settled p rows order ms ps (subst Once (placed_with g s log v h) tidy.once)
    (subst (λ (n : ℕ). AllByRecursion (λ m. m < n) (filter p order ++ ms)) (sym all) (subst (AllByRecursion (λ m. m < length s.ages.held.items)) (placed_with g s log v h) tidy.known))
    (open_places g s.pages log v ps can ∙ sym (length-map v.loads (λ (l : Load). l.«module»)))
    ∙ ((λ i. h.placed_is i ++ seated (sym (map_loaded v.loads) i) (can.places i)) ∙ sym (seats-loads s.pages ls (places s.pages log))))

-- An opening that was answered by a chain.
pub stock_opens : (g : Shape) (s t : Stock) (log : Deeds) (c n : ℕ) (v : Success) (ps : List (List ℕ)) → IsStock g s log → CanOpen g s.pages log v ps
    → ((ms : List Mark) → IsTracking s.ages ms → IsTracking t.ages (ms ++ cond (pair_live log v.pair) [] (map uses v.modules)))
    → ((m : ℕ) → get_or t.ages.held.items m 0 ≤ get_or s.ages.held.items m 0 + 2 ^ 64) → t.ages.clock ≡ s.ages.clock → length t.ages.held.items ≡ length s.ages.held.items
    → n ≡ length log → t.live.items ≡ s.live.items ++ record { number = n; caller = c; generation = v.pair.generation; from = v.pair.from; to = v.pair.to } ∷ [] → t.live.slots ≡ s.live.slots + 1
    → Settles s.ages s.homes t.homes (map (λ (l : Load). l.«module») v.loads) ps → t.pages ≡ s.pages
    → IsStock g t (log ++ act c (opens v.pair v.modules (map loaded_of v.loads)) ∷ [])
stock_opens g s t log c n v ps h can tracks more clock len number live_is slots settles pages = go v.loads refl
  where
    at : List Load → Act
    at ls = act c (opens v.pair v.modules (map loaded_of ls))

    tracking : (ls : List Load) → IsTracking t.ages (marks (log ++ at ls ∷ []))
    tracking ls = subst (IsTracking t.ages) (sym (marks_opens log c v.pair v.modules (map loaded_of ls))) (tracks (marks log) h.tracking)

    within : (ls : List Load) → IsWithin t.ages (length (log ++ at ls ∷ []) * 2 ^ 64)
    within ls = record { clock = (let k = h.within.clock in let z = length-snoc log (at ls) in omega arith); held = λ m. let k = h.within.held m in let z = length-snoc log (at ls) in let y = more m in omega arith }

    lives : (ls : List Load) → t.live.items ≡ map shown (live (log ++ at ls ∷ []))
    lives ls = live_is ∙ (ap (λ (z : List Live). z ++ record { number = n; caller = c; generation = v.pair.generation; from = v.pair.from; to = v.pair.to } ∷ []) h.live_is ∙ sym (live_is_opens log h.sound.balanced c v.pair n v.modules (map loaded_of ls) number))

    sound : (ls : List Load) → IsSound g (log ++ at ls ∷ [])
    sound ls = sound_opens g log c v.pair v.modules (map loaded_of ls) (record { ordinals = v.ordinals; cost = v.cost }) h.sound can.leads can.steps

    go : (ls : List Load) → v.loads ≡ ls → IsStock g t (log ++ at v.loads ∷ [])
    go [] e =
        let same : t.homes ≡ s.homes = subst (λ (z : List Load). Settles s.ages s.homes t.homes (map (λ (l : Load). l.«module») z) ps) e settles in
        let none : absent_among log v.modules ≡ [] = sym can.absent ∙ ap (λ (z : List Load). loaded_modules (map loaded_of z)) e in
        subst (λ (z : List Load). IsStock g t (log ++ at z ∷ [])) (sym e)
        (stock_stays g s t log (at []) h (tracking []) (within []) (lives []) slots same refl (before_opening log c v.pair v.modules [] none) (sound []) len pages)
    go (l ∷ ls) e =
        let st : IsSettled s.ages s.homes t.homes (map (λ (l : Load). l.«module») v.loads) ps =
        subst (λ (z : List Load). IsSettled s.ages s.homes t.homes (map (λ (l : Load). l.«module») z) ps) (sym e) (subst (λ (z : List Load). Settles s.ages s.homes t.homes (map (λ (l : Load). l.«module») z) ps) e settles) in
        stock_after g s t log (at v.loads) t.homes.order.items h (tracking v.loads) (within v.loads) (lives v.loads) slots
        (seats_opened g s t.homes log v ps h can st) refl
        (homes_settled (length s.ages.held.items) s.ages s.homes t.homes (map (λ (l : Load). l.«module») v.loads) ps h.homes st)
        (tidy_open g s log v ps h can) (sound v.loads) len pages st.room

-- A refused opening leaves all but its slot.
pub stock_rested : (g : Shape) (s t : Stock) (log : Deeds) (c : ℕ) → IsStock g s log → t.ages ≡ s.ages → t.live.items ≡ s.live.items → t.live.slots ≡ s.live.slots + 1 → t.homes ≡ s.homes → t.pages ≡ s.pages
    → IsStock g t (log ++ act c rests ∷ [])
stock_rested g s t log c h ages live_is slots homes pages = let e : Act = act c rests in
    stock_stays g s t log e h
    (subst (λ z. IsTracking z (marks (log ++ e ∷ []))) (sym ages) (subst (IsTracking s.ages) (sym (marks_rests log c)) h.tracking))
    (subst (λ z. IsWithin z (length (log ++ e ∷ []) * 2 ^ 64)) (sym ages) (record { clock = (let k = h.within.clock in let z = length-snoc log e in omega arith); held = λ m. let k = h.within.held m in let z = length-snoc log e in omega arith }))
    (live_is ∙ (h.live_is ∙ ap (map shown) (sym (live_rests log h.sound.balanced c)))) slots
    homes refl (λ m z. sym (ap (λ (y : List Mark). resident y m) (marks_rests log c)) ∙ z) (sound_rests g log c h.sound) (ap (λ z. length z.held.items) ages) pages

-- A closing.
pub stock_closes : (g : Shape) (s t : Stock) (log : Deeds) (c n : ℕ) (d : Desc) → IsStock g s log → (k : IsLive log c n) → d ≡ k.desc
    → ((ms : List Mark) → IsTracking s.ages ms → IsTracking t.ages (ms ++ cond (pair_live (log ++ act c (closes n) ∷ []) d.pair) [] (map releases d.modules)))
    → ((m : ℕ) → get_or t.ages.held.items m 0 ≤ get_or s.ages.held.items m 0) → t.ages.clock ≤ s.ages.clock + 2 ^ 64 → length t.ages.held.items ≡ length s.ages.held.items
    → t.live.items ≡ filter (λ (x : Live). not (eqb x.number n)) s.live.items → t.live.slots ≡ s.live.slots + 1
    → t.homes ≡ s.homes → t.pages ≡ s.pages
    → IsStock g t (log ++ act c (closes n) ∷ [])
stock_closes g s t log c n d h k is tracks less clock len live_is slots homes pages = let e : Act = act c (closes n) in
    let mk : marks (log ++ e ∷ []) ≡ marks log ++ cond (pair_live (log ++ e ∷ []) d.pair) [] (map releases d.modules) =
    subst (λ (y : Desc). marks (log ++ e ∷ []) ≡ marks log ++ cond (pair_live (log ++ e ∷ []) y.pair) [] (map releases y.modules)) (sym is)
    (subst (λ (z : ℕ). marks (log ++ act c (closes z) ∷ []) ≡ marks log ++ cond (pair_live (log ++ act c (closes z) ∷ []) k.desc.pair) [] (map releases k.desc.modules)) k.number_is (marks_closes log h.sound.balanced c k.desc k.there)) in
    let before : (m : ℕ) → resident (marks (log ++ e ∷ [])) m ≡ true → resident (marks log) m ≡ true =
    subst (λ (z : ℕ). (m : ℕ) → resident (marks (log ++ act c (closes z) ∷ [])) m ≡ true → resident (marks log) m ≡ true) k.number_is
    (before_closing log h.sound.balanced c k.desc k.there (ap (λ (z : ℕ). closed z log) k.number_is ∙ k.unclosed)) in
    stock_stays g s t log e h
    (subst (IsTracking t.ages) (sym mk) (tracks (marks log) h.tracking))
    (record { clock = (let q = h.within.clock in let z = length-snoc log e in omega arith); held = λ m. let q = h.within.held m in let z = length-snoc log e in let y = less m in omega arith })
    (live_is ∙ (ap (filter (λ (x : Live). not (eqb x.number n))) h.live_is ∙ sym (live_is_closes log c n))) slots
    homes refl before (sound_closes g log c n h.sound k) len pages

-- There is room for an opening's places.
pub open_room : (g : Shape) (s : Stock) (log : Deeds) (v : Success) (ps : List (List ℕ)) → IsStock g s log → CanOpen g s.pages log v ps
    → length (filter (is_kept s.ages) s.homes.order.items) + length v.loads ≤ vec_capacity s.homes.order
open_room g s log v ps h can =
    let ls = map loaded_of v.loads in
    let t = length-tidy (length s.ages.held.items) s.pages (place_loads s.pages ls (places s.pages log)) (tidy_open g s log v ps h can) in
    let a = ap length (placed_with g s log v h) in
    let b = length-append (filter (is_kept s.ages) s.homes.order.items) (map (λ (l : Load). l.«module») v.loads) in
    let d = length-map v.loads (λ (l : Load). l.«module») in
    let r = h.room in omega arith

all_of_map : (n : ℕ) (ls : List Load) → AllByRecursion (λ m. m < n) (map (λ (l : Load). l.«module») ls) → AllByRecursion (λ (l : Load). l.«module» < n) ls
all_of_map n [] h = tt
all_of_map n (l ∷ ls) h = (h.0, all_of_map n ls h.1)

-- Each module that an opening loads has a row.
pub open_known : (g : Shape) (s : Stock) (log : Deeds) (v : Success) (ps : List (List ℕ)) → IsStock g s log → CanOpen g s.pages log v ps → AllByRecursion (λ (l : Load). l.«module» < length s.homes.rows.items) v.loads
open_known g s log v ps h can = all_of_map (length s.homes.rows.items) v.loads
    (subst (λ (n : ℕ). AllByRecursion (λ m. m < n) (map (λ (l : Load). l.«module») v.loads)) (sym h.homes.count)
    (all_behind (λ m. m < length s.ages.held.items) (filter (is_kept s.ages) s.homes.order.items) (map (λ (l : Load). l.«module») v.loads)
    (subst (AllByRecursion (λ m. m < length s.ages.held.items)) (placed_with g s log v h) (tidy_open g s log v ps h can).known)))
