-- What a caller has pinned stays while others act.
use Rattle.std.proofs.Common.{◌≡◌, ◌≢◌, ◌⊎◌, ℕ, zero, suc, ◌+◌, ◌<◌, eqb, Bool, true, false, not, ◌&&◌, ◌||◌, cond, List, [], ◌∷◌, ◌++◌, length, map, sym, refl, ap, ◌∙◌, subst, arith, inl, inr, ⊎_elim, append-nil, append_assoc, true≢false, ne_eqb}
use mathlib.Core.Logic.{dite}
use native.Mathlib.Decide.{ℕ_discrete}
use Rattle.std.specs.List.{list_any, filter, AllByRecursion}
use Rattle.std.proofs.lemmas.Bool.{lt-ltb}
use Rattle.module_graph.specs.Numbers.{with_new}
use Rattle.runtime_histories.specs.declared.refusals.Asked.{Asked}
use Rattle.runtime_histories.specs.declared.refusals.Asked.TheVariants.{Good, Bad}
use Rattle.runtime_histories.specs.declared.entries.Reply.{Reply}
use Rattle.runtime_histories.specs.declared.entries.Reply.TheVariants.{Opened, Refused}
use Rattle.runtime_histories.specs.declared.entries.Event.{Event}
use Rattle.runtime_histories.specs.declared.entries.Event.TheVariants.{Opening, Closing}
use Rattle.runtime_histories.specs.declared.entries.Entry.{Entry}
use Rattle.runtime_histories.specs.Deeds.{Pair, Act, act, Deed, opens, closes, rests, Deeds, Desc, openings, closed, IsIn, Loaded, marks}
use Rattle.runtime_histories.specs.Residence.{is_use, is_release, count, is_held, resident}
use Rattle.runtime_histories.specs.Fair.{times, IsBalanced}
use Rattle.runtime_histories.specs.Places.{Placed, among, placed_at, place_loads, place_deed, still, places_from, places}
use Rattle.runtime_histories.specs.Pins.{live_of, holds, held_by, word_among}
use Rattle.runtime_histories.specs.PinLaw.{NoneOf, PinnedStays}
use Rattle.runtime_histories.specs.Entries.{deed_of, opening_of, deeds, loaded_of}
use Rattle.runtime_histories.specs.Settings.{Setting}
use Rattle.runtime_histories.specs.Sound.{IsSound}
use Rattle.runtime_histories.specs.Legal.{absent_among, loaded_modules, IsAnswered, IsNext, Next, LegalFrom}
use Rattle.runtime_histories.proofs.Basics.{In-append, openings-append, filter-append, filter-same, In-filter, number_once}
use Rattle.runtime_histories.proofs.Balance.{no_more, others_stay, held}
use Rattle.runtime_histories.proofs.Legality.{deeds-snoc, LegalFrom-append, sound_next, sound_legal}

and_true : (a b : Bool) → (a && b) ≡ true → (a ≡ true) × (b ≡ true)
and_true true b e = (refl, e)
and_true false b e = absurd (true≢false (sym e))

not_is : (b : Bool) → not b ≡ true → b ≡ false
not_is true e = absurd (true≢false (sym e))
not_is false e = refl

or_true : (a b : Bool) → (a || b) ≡ true → (a ≡ true) ⊎ (b ≡ true)
or_true true b e = inl refl
or_true false b e = inr e

true_or : (a b : Bool) → a ≡ true → (a || b) ≡ true
true_or true b e = refl
true_or false b e = absurd (true≢false (sym e))

not_true : (b : Bool) → (b ≡ true → ⊥) → b ≡ false
not_true true h = absurd (h refl)
not_true false h = refl

-- places of one deed more
places_from-snoc : (n : ℕ) (before : Deeds) (held : List Placed) (es : Deeds) (e : Act) → places_from n before held (es ++ e ∷ []) ≡ still (before ++ (es ++ e ∷ [])) (place_deed n e.deed (places_from n before held es))
places_from-snoc n before held [] e = refl
places_from-snoc n before held (x ∷ es) e = places_from-snoc n (before ++ x ∷ []) (still (before ++ x ∷ []) (place_deed n x.deed held)) es e
    ∙ ap (λ (z : Deeds). still z (place_deed n e.deed (places_from n (before ++ x ∷ []) (still (before ++ x ∷ []) (place_deed n x.deed held)) es))) (append_assoc before (x ∷ []) (es ++ e ∷ []))

-- The modules with their pages after one deed more.
pub places-snoc : (n : ℕ) (b : Deeds) (e : Act) → places n (b ++ e ∷ []) ≡ still (b ++ e ∷ []) (place_deed n e.deed (places n b))
places-snoc n b e = places_from-snoc n [] [] b e

-- the caller's own descriptors
mine : ℕ → Deeds → Desc → Bool
mine n log d = eqb d.caller n && not (closed d.number log)

live_rests : (b : Deeds) (n c : ℕ) (h : IsBalanced b) → live_of n (b ++ act c rests ∷ []) ≡ live_of n b
unfolding mine
live_rests b n c h = let e : Act = act c rests in
    ap (filter (mine n (b ++ e ∷ []))) (openings-append 0 b (e ∷ []) ∙ append-nil (openings 0 b))
    ∙ filter-same (mine n (b ++ e ∷ [])) (mine n b) (openings 0 b) (λ x _. ap (λ (z : Bool). eqb x.caller n && not z) (no_more h.route b h.fair e (λ k. refl) x.number))

live_opens_other : (b : Deeds) (n c : ℕ) (p : Pair) (ms : List ℕ) (l : List Loaded) (h : IsBalanced b) → c ≢ n → live_of n (b ++ act c (opens p ms l) ∷ []) ≡ live_of n b
unfolding mine
live_opens_other b n c p ms l h ne = let e : Act = act c (opens p ms l) in let d : Desc = record { number = 0 + length b; caller = c; pair = p; modules = ms } in
    ap (filter (mine n (b ++ e ∷ []))) (openings-append 0 b (e ∷ [])) ∙ (filter-append (mine n (b ++ e ∷ [])) (openings 0 b) (d ∷ []) ∙
    ((λ i. filter-same (mine n (b ++ e ∷ [])) (mine n b) (openings 0 b) (λ x _. ap (λ (z : Bool). eqb x.caller n && not z) (no_more h.route b h.fair e (λ k. refl) x.number)) i
    ++ cond (ap (λ (z : Bool). z && not (closed (0 + length b) (b ++ e ∷ []))) (ne_eqb c n ne) i) (d ∷ []) []) ∙ append-nil (filter (mine n b) (openings 0 b))))

pub live_closes_other : (b : Deeds) (n c : ℕ) (d : Desc) (h : IsBalanced b) → IsIn d (openings 0 b) → d.caller ≢ n → live_of n (b ++ act c (closes d.number) ∷ []) ≡ live_of n b
unfolding mine
live_closes_other b n c d h in_d ne = let e : Act = act c (closes d.number) in
    ap (filter (mine n (b ++ e ∷ []))) (openings-append 0 b (e ∷ []) ∙ append-nil (openings 0 b)) ∙ filter-same (mine n (b ++ e ∷ [])) (mine n b) (openings 0 b)
    (λ x in_x. dite (ℕ_discrete x.number d.number)
    (λ (z : x.number ≡ d.number). let same : x ≡ d = number_once x d 0 b in_x in_d z in let y : eqb x.caller n ≡ false = ne_eqb x.caller n (λ q. ne (ap (λ (v : Desc). v.caller) (sym same) ∙ q)) in
    ap (λ (v : Bool). v && not (closed x.number (b ++ e ∷ []))) y ∙ sym (ap (λ (v : Bool). v && not (closed x.number b)) y))
    (λ z. ap (λ (v : Bool). eqb x.caller n && not v) (others_stay h.route b h.fair c d x in_d in_x z)))

-- a module of a list is counted there
among_times : (m : ℕ) (ms : List ℕ) → among m ms ≡ true → 0 < times m ms
among_times m [] e = absurd (true≢false (sym e))
among_times m (x ∷ ms) e = go (eqb x m) e (among_times m ms)
  where
    go : (b : Bool) → (b || among m ms) ≡ true → (among m ms ≡ true → 0 < times m ms) → 0 < cond b 1 0 + times m ms
    go true e rec = omega arith
    go false e rec = let r = rec e in omega arith

-- a module of one of the caller's live descriptors is held
held_any : (b : Deeds) (h : IsBalanced b) (n m : ℕ) (ds : List Desc) → ((d : Desc) → IsIn d ds → IsIn d (openings 0 b) × (closed d.number b ≡ false)) → list_any (λ d. among m d.modules) ds ≡ true
    → count (is_release m) (marks b) < count (is_use m) (marks b)
held_any b h n m [] all e = absurd (true≢false (sym e))
held_any b h n m (d ∷ ds) all e = ⊎_elim
    (λ z. let there = all d (inl refl) in let k = held h.route b h.fair d m there.0 there.1 in let t = among_times m d.modules z in omega arith)
    (λ z. held_any b h n m ds (λ x y. all x (inr y)) z)
    (or_true (among m d.modules) (list_any (λ d. among m d.modules) ds) e)

-- What a caller holds is resident.
pub holds-resident : (b : Deeds) (h : IsBalanced b) (n m : ℕ) → holds (suc n) b m ≡ true → resident (marks b) m ≡ true
unfolding mine
holds-resident b h n m e =
    let more : count (is_release m) (marks b) < count (is_use m) (marks b) = held_any b h n m (live_of (suc n) b)
    (λ d z. let r = In-filter (mine (suc n) b) d (openings 0 b) z in (r.0, not_is (closed d.number b) (and_true (eqb d.caller (suc n)) (not (closed d.number b)) r.1).1)) e in
    true_or (is_held m (marks b)) _ (lt-ltb (count (is_release m) (marks b)) (count (is_use m) (marks b)) more)

-- a filter behind a weaker one
filter-absorb : {A : Type 0} (p q : A → Bool) (xs : List A) → ((x : A) → p x ≡ true → q x ≡ true) → filter p (filter q xs) ≡ filter p xs
filter-absorb p q [] h = refl
filter-absorb p q (x ∷ xs) h = go (q x) refl (p x) refl (filter-absorb p q xs h)
  where
    go : (b : Bool) → q x ≡ b → (c : Bool) → p x ≡ c → filter p (filter q xs) ≡ filter p xs → filter p (cond b (x ∷ filter q xs) (filter q xs)) ≡ cond c (x ∷ filter p xs) (filter p xs)
    go true e c f rec = (λ i. cond (f i) (x ∷ rec i) (rec i))
    go false e true f rec = absurd (true≢false (sym (h x f) ∙ e))
    go false e false f rec = rec

-- loads of modules that fail a test change nothing of what passes it
loads_fail : (pages : ℕ) (p : ℕ → Bool) (ls : List Loaded) (held : List Placed) → AllByRecursion (λ (l : Loaded). p l.«module» ≡ false) ls
    → filter (λ (x : Placed). p x.«module») (place_loads pages ls held) ≡ filter (λ (x : Placed). p x.«module») held
loads_fail pages p [] held all = refl
loads_fail pages p (l ∷ ls) held all = loads_fail pages p ls (held ++ placed_at pages held l ∷ []) all.1
    ∙ (filter-append (λ (x : Placed). p x.«module») held (placed_at pages held l ∷ [])
    ∙ (ap (λ (b : Bool). filter (λ (x : Placed). p x.«module») held ++ cond b (placed_at pages held l ∷ []) []) all.0 ∙ append-nil (filter (λ (x : Placed). p x.«module») held)))

-- what a deed loads isn't resident before it
abbrev LoadsAbsent : Deeds → Deed → Type 0
LoadsAbsent b (opens p ms l) = AllByRecursion (λ (x : Loaded). resident (marks b) x.«module» ≡ false) l
LoadsAbsent b (closes k) = Unit {0}
LoadsAbsent b rests = Unit {0}

fail_all : (b : Deeds) (p : ℕ → Bool) (ls : List Loaded) → ((m : ℕ) → p m ≡ true → resident (marks b) m ≡ true) → AllByRecursion (λ (x : Loaded). resident (marks b) x.«module» ≡ false) ls → AllByRecursion (λ (x : Loaded). p x.«module» ≡ false) ls
fail_all b p [] h all = tt
fail_all b p (l ∷ ls) h all = (not_true (p l.«module») (λ z. true≢false (sym (h l.«module» z) ∙ all.0)), fail_all b p ls h all.1)

placed_stay : (pages : ℕ) (b : Deeds) (v : Deed) (p : ℕ → Bool) → LoadsAbsent b v → ((m : ℕ) → p m ≡ true → resident (marks b) m ≡ true)
    → filter (λ (x : Placed). p x.«module») (place_deed pages v (places pages b)) ≡ filter (λ (x : Placed). p x.«module») (places pages b)
placed_stay pages b (opens q ms l) p all h = loads_fail pages p l (places pages b) (fail_all b p l h all)
placed_stay pages b (closes k) p all h = refl
placed_stay pages b rests p all h = refl

-- one deed of another caller
held_step : (pages n : ℕ) (b : Deeds) (e : Act) → IsBalanced b → IsBalanced (b ++ e ∷ []) → LoadsAbsent b e.deed → live_of (suc n) (b ++ e ∷ []) ≡ live_of (suc n) b
    → held_by pages (suc n) (b ++ e ∷ []) ≡ held_by pages (suc n) b
held_step pages n b e h h' absent same =
    let hs : (m : ℕ) → holds (suc n) (b ++ e ∷ []) m ≡ holds (suc n) b m = λ m. ap (list_any (λ (d : Desc). among m d.modules)) same in
    ap (filter (λ (x : Placed). holds (suc n) (b ++ e ∷ []) x.«module»)) (places-snoc pages b e)
    ∙ (filter-absorb (λ (x : Placed). holds (suc n) (b ++ e ∷ []) x.«module») (λ (x : Placed). resident (marks (b ++ e ∷ [])) x.«module») (place_deed pages e.deed (places pages b))
    (λ x z. holds-resident (b ++ e ∷ []) h' n x.«module» z)
    ∙ (filter-same (λ (x : Placed). holds (suc n) (b ++ e ∷ []) x.«module») (λ (x : Placed). holds (suc n) b x.«module») (place_deed pages e.deed (places pages b)) (λ x _. hs x.«module»)
    ∙ placed_stay pages b e.deed (holds (suc n) b) absent (λ m z. holds-resident b h n m z)))

-- new elements come from the lists
new_from : (seen xs : List ℕ) (m : ℕ) → IsIn m (with_new (λ a b. eqb a b) seen xs) → IsIn m seen ⊎ IsIn m xs
new_from seen [] m h = inl h
new_from seen (x ∷ xs) m h = go (list_any (λ b. eqb x b) seen) (new_from (cond (list_any (λ b. eqb x b) seen) seen (seen ++ x ∷ [])) xs m h)
  where
    go : (b : Bool) → IsIn m (cond b seen (seen ++ x ∷ [])) ⊎ IsIn m xs → IsIn m seen ⊎ IsIn m (x ∷ xs)
    go true r = ⊎_elim (λ z. inl z) (λ z. inr (inr z)) r
    go false r = ⊎_elim (λ z. ⊎_elim (λ y. inl y) (λ y. inr (inl (⊎_elim (λ v. v) (λ v. absurd v) y))) (In-append m seen (x ∷ []) z)) (λ z. inr (inr z)) r

-- What is absent isn't resident.
pub absent_not_resident : (b : Deeds) (ms : List ℕ) (m : ℕ) → IsIn m (absent_among b ms) → resident (marks b) m ≡ false
absent_not_resident b ms m h = ⊎_elim (λ z. absurd z)
    (λ z. not_is (resident (marks b) m) (In-filter (λ k. not (resident (marks b) k)) m ms z).1)
    (new_from [] (filter (λ k. not (resident (marks b) k)) ms) m h)

all_absent : (b : Deeds) (l : List Loaded) (ms : List ℕ) → loaded_modules l ≡ ms → ((m : ℕ) → IsIn m ms → resident (marks b) m ≡ false) → AllByRecursion (λ (x : Loaded). resident (marks b) x.«module» ≡ false) l
all_absent b [] ms e h = tt
all_absent b (l ∷ ls) ms e h = (h l.«module» (subst (IsIn l.«module») e (inl refl)), all_absent b ls (loaded_modules ls) refl (λ m z. h m (subst (IsIn m) e (inr z))))

-- What an entry that is legal next loads isn't resident.
absent_answered : (s : Setting) (b : Deeds) (from to : Asked) (reply : Reply) → IsAnswered s s.first.graph b from to reply → LoadsAbsent b (opening_of 0 from to reply)
absent_answered s b (Bad f) (Bad g) reply k = tt
absent_answered s b (Bad f) (Good to) reply k = tt
absent_answered s b (Good from) (Bad f) reply k = tt
absent_answered s b (Good from) (Good to) (Refused why) k = tt
absent_answered s b (Good from) (Good to) (Opened chain cost loads modules) k =
    let o = k.2 in all_absent b (map loaded_of loads) (absent_among b o.route.modules) (o.absent_is ∙ o.route.missing) (λ m z. absent_not_resident b o.route.modules m z)

pub absent_next : (s : Setting) (b : List Entry) (c : ℕ) (v : Event) → IsNext s b c v → LoadsAbsent (deeds b) (deed_of v)
absent_next s b c (Opening from to reply) k = absent_answered s (deeds b) from to reply k
absent_next s b c (Closing n) k = tt

live_answered : (b : Deeds) (n c : ℕ) (from to : Asked) (reply : Reply) (h : IsBalanced b) → c ≢ n → live_of n (b ++ act c (opening_of 0 from to reply) ∷ []) ≡ live_of n b
live_answered b n c (Bad f) (Bad g) reply h ne = live_rests b n c h
live_answered b n c (Bad f) (Good to) reply h ne = live_rests b n c h
live_answered b n c (Good from) (Bad f) reply h ne = live_rests b n c h
live_answered b n c (Good from) (Good to) (Refused why) h ne = live_rests b n c h
live_answered b n c (Good from) (Good to) (Opened chain cost loads modules) h ne =
    live_opens_other b n c (record { generation = 0; from = from; to = to }) modules.value (map loaded_of loads) h ne

pub live_next : (s : Setting) (b : List Entry) (n c : ℕ) (v : Event) → IsBalanced (deeds b) → c ≢ n → IsNext s b c v → live_of n (deeds b ++ act c (deed_of v) ∷ []) ≡ live_of n (deeds b)
live_next s b n c (Opening from to reply) h ne k = live_answered (deeds b) n c from to reply h ne
live_next s b n c (Closing j) h ne k = subst (λ (z : ℕ). live_of n (deeds b ++ act c (closes z) ∷ []) ≡ live_of n (deeds b)) k.number_is
    (live_closes_other (deeds b) n c k.desc h k.there (λ z. ne (sym k.caller_is ∙ z)))

held_next : (s : Setting) (b : List Entry) (n : ℕ) (e : Entry) → IsSound s.first.graph (deeds b) → e.caller ≢ suc n → Next s b e → held_by s.pages (suc n) (deeds (b ++ e ∷ [])) ≡ held_by s.pages (suc n) (deeds b)
held_next s b n e h ne k =
    ap (held_by s.pages (suc n)) (deeds-snoc b e)
    ∙ held_step s.pages n (deeds b) (act e.caller (deed_of e.event)) h.balanced (subst IsBalanced (deeds-snoc b e) (sound_next s b e h k).balanced)
    (absent_next s b e.caller e.event k) (live_next s b (suc n) e.caller e.event h.balanced ne k)

held_all : (s : Setting) (b es : List Entry) (n : ℕ) → IsSound s.first.graph (deeds b) → LegalFrom s b es → NoneOf (suc n) es → held_by s.pages (suc n) (deeds (b ++ es)) ≡ held_by s.pages (suc n) (deeds b)
held_all s b [] n h k none = ap (λ (z : List Entry). held_by s.pages (suc n) (deeds z)) (append-nil b)
held_all s b (e ∷ es) n h k none = ap (λ (z : List Entry). held_by s.pages (suc n) (deeds z)) (sym (append_assoc b (e ∷ []) es))
    ∙ (held_all s (b ++ e ∷ []) es n (sound_next s b e h k.0) k.1 none.1 ∙ held_next s b n e h none.0 k.0)

-- Where a legal history goes on without entries of a caller, what the caller has pinned stays.
pub pinned-stays : PinnedStays
pinned-stays s front rest zero place pos legal none = absurd (omega arith)
pinned-stays s front rest (suc n) place pos legal none =
    let parts = LegalFrom-append s [] front rest legal in
    ap (λ (z : List Placed). word_among z place) (held_all s front rest n (sound_legal s front parts.0) parts.1 none)
