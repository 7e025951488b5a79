-- What a caller owns stays through every entry that doesn't close it.
use Rattle.std.proofs.Common.{◌≡◌, ℕ, zero, suc, ◌+◌, ◌<◌, eqb, Bool, true, false, not, ◌&&◌, ◌||◌, cond, List, [], ◌∷◌, ◌++◌, length, map, Option, Some, None, sym, refl, ap, ◌∙◌, subst, arith, inl, inr, ⊎_elim, true≢false, eq-eqb, ne_eqb, append-nil, append_assoc}
use mathlib.Core.Logic.{dite}
use native.Mathlib.Decide.{ℕ_discrete}
use Rattle.std.specs.List.{filter, AllByRecursion}
use Rattle.runtime_histories.specs.declared.refusals.Asked.{Asked}
use Rattle.runtime_histories.specs.declared.refusals.Asked.TheVariants.{Good, Bad}
use Rattle.runtime_histories.specs.declared.entries.Reply.{Reply}
use Rattle.runtime_histories.specs.declared.entries.Reply.TheVariants.{Opened, Refused}
use Rattle.runtime_histories.specs.declared.entries.Event.{Event}
use Rattle.runtime_histories.specs.declared.entries.Event.TheVariants.{Opening, Closing}
use Rattle.runtime_histories.specs.declared.entries.Entry.{Entry}
use Rattle.runtime_histories.specs.Deeds.{Act, act, Deed, opens, closes, rests, Deeds, Desc, Loaded, opened, openings, closed, desc_at, IsIn, marks}
use Rattle.runtime_histories.specs.Entries.{deed_of, opening_of, deeds, loaded_of}
use Rattle.runtime_histories.specs.Legal.{IsNext, Next, Legal, LegalFrom}
use Rattle.runtime_histories.specs.PinLaw.{NoneOf}
use Rattle.runtime_histories.specs.Pins.{live_of}
use Rattle.runtime_histories.specs.Places.{Placed, among, placed_at, place_loads, place_deed, places}
use Rattle.runtime_histories.specs.Residence.{resident}
use Rattle.runtime_histories.specs.Settings.{Setting}
use Rattle.runtime_histories.specs.Sound.{IsSound}
use Rattle.runtime_histories.proofs.Basics.{or-false, openings-append, closed-append, In-filter, filter-same, number_range, number_once, pair_found}
use Rattle.runtime_histories.proofs.Legality.{deeds-snoc, deeds-append, LegalFrom-append, sound_next, sound_legal}
use Rattle.runtime_histories.proofs.Pinning.{places-snoc, holds-resident, absent_next, live_next}
use Rattle.gconv_runtime.specs.Looking.{holds_module, module_among}
use Rattle.desk_openings.specs.Parts.{place_of, parts_at, parts_for, IsThere, AreThere}

-- a place among some is that among all, where its module passes
place_filter : (p : ℕ → Bool) (m : ℕ) (xs : List Placed) → p m ≡ true → place_of (filter (λ (x : Placed). p x.«module») xs) m ≡ place_of xs m
place_filter p m [] e = refl
place_filter p m (x ∷ xs) e = go (p x.«module») refl (place_filter p m xs e)
  where
    go : (b : Bool) → p x.«module» ≡ b → place_of (filter (λ (x : Placed). p x.«module») xs) m ≡ place_of xs m
        → place_of (cond b (x ∷ filter (λ (x : Placed). p x.«module») xs) (filter (λ (x : Placed). p x.«module») xs)) m ≡ cond (eqb x.«module» m) (Some x) (place_of xs m)
    go true f rec = ap (λ (z : Option Placed). cond (eqb x.«module» m) (Some x) z) rec
    go false f rec = rec ∙ sym (ap (λ (c : Bool). cond c (Some x) (place_of xs m)) (ne_eqb x.«module» m (λ z. true≢false (sym e ∙ (ap p (sym z) ∙ f)))))

place_behind : (m : ℕ) (xs : List Placed) (y : Placed) → eqb y.«module» m ≡ false → place_of (xs ++ y ∷ []) m ≡ place_of xs m
place_behind m [] y e = ap (λ (c : Bool). cond c (Some y) None) e
place_behind m (x ∷ xs) y e = ap (λ (z : Option Placed). cond (eqb x.«module» m) (Some x) z) (place_behind m xs y e)

place_loaded : (pages m : ℕ) (ls : List Loaded) (held : List Placed) → AllByRecursion (λ (l : Loaded). eqb l.«module» m ≡ false) ls → place_of (place_loads pages ls held) m ≡ place_of held m
place_loaded pages m [] held all = refl
place_loaded pages m (l ∷ ls) held all = place_loaded pages m ls (held ++ placed_at pages held l ∷ []) all.1 ∙ place_behind m held (placed_at pages held l) all.0

others_loaded : (b : Deeds) (m : ℕ) (ls : List Loaded) → resident (marks b) m ≡ true → AllByRecursion (λ (l : Loaded). resident (marks b) l.«module» ≡ false) ls → AllByRecursion (λ (l : Loaded). eqb l.«module» m ≡ false) ls
others_loaded b m [] r all = tt
others_loaded b m (l ∷ ls) r all = (ne_eqb l.«module» m (λ z. true≢false (sym r ∙ (ap (resident (marks b)) (sym z) ∙ all.0))), others_loaded b m ls r all.1)

place_answered : (s : Setting) (b : List Entry) (c m : ℕ) (from to : Asked) (reply : Reply) → IsNext s b c (Opening from to reply) → resident (marks (deeds b)) m ≡ true
    → place_of (place_deed s.pages (opening_of 0 from to reply) (places s.pages (deeds b))) m ≡ place_of (places s.pages (deeds b)) m
place_answered s b c m (Bad f) (Bad g) reply k r = refl
place_answered s b c m (Bad f) (Good to) reply k r = refl
place_answered s b c m (Good from) (Bad f) reply k r = refl
place_answered s b c m (Good from) (Good to) (Refused why) k r = refl
place_answered s b c m (Good from) (Good to) (Opened chain cost loads modules) k r =
    place_loaded s.pages m (map loaded_of loads) (places s.pages (deeds b)) (others_loaded (deeds b) m (map loaded_of loads) r (absent_next s b c (Opening (Good from) (Good to) (Opened chain cost loads modules)) k))

place_next : (s : Setting) (b : List Entry) (c m : ℕ) (v : Event) → IsNext s b c v → resident (marks (deeds b)) m ≡ true
    → place_of (place_deed s.pages (deed_of v) (places s.pages (deeds b))) m ≡ place_of (places s.pages (deeds b)) m
place_next s b c m (Opening from to reply) k r = place_answered s b c m from to reply k r
place_next s b c m (Closing j) k r = refl

-- A module that is resident before and after an entry keeps its place.
place_step : (s : Setting) (b : List Entry) (e : Entry) (m : ℕ) → Next s b e → resident (marks (deeds b)) m ≡ true → resident (marks (deeds (b ++ e ∷ []))) m ≡ true
    → place_of (places s.pages (deeds (b ++ e ∷ []))) m ≡ place_of (places s.pages (deeds b)) m
place_step s b e m k r r' =
    let a : Act = act e.caller (deed_of e.event) in
    ap (λ (z : Deeds). place_of (places s.pages z) m) (deeds-snoc b e)
    ∙ (ap (λ (z : List Placed). place_of z m) (places-snoc s.pages (deeds b) a)
    ∙ (place_filter (resident (marks (deeds b ++ a ∷ []))) m (place_deed s.pages (deed_of e.event) (places s.pages (deeds b))) (ap (λ (z : Deeds). resident (marks z) m) (sym (deeds-snoc b e)) ∙ r')
    ∙ place_next s b e.caller m e.event k r))

-- Modules have the places that they had.
abbrev pub Same : List Placed → List Placed → List ℕ → Type 0
Same old new ms = AllByRecursion (λ (m : ℕ). place_of new m ≡ place_of old m) ms

same_none : (xs : List Placed) (ms : List ℕ) → Same xs xs ms
same_none xs [] = tt
same_none xs (m ∷ ms) = (refl, same_none xs ms)

same_twice : (xs ys zs : List Placed) (ms : List ℕ) → Same xs ys ms → Same ys zs ms → Same xs zs ms
same_twice xs ys zs [] a b = tt
same_twice xs ys zs (m ∷ ms) a b = (b.0 ∙ a.0, same_twice xs ys zs ms a.1 b.1)

pub same_parts : (old new : List Placed) (ms : List ℕ) → Same old new ms → parts_for new ms ≡ parts_for old ms
same_parts old new [] h = refl
same_parts old new (m ∷ ms) h = λ i. parts_at (h.0 i) ++ same_parts old new ms h.1 i

pub same_there : (old new : List Placed) (ms : List ℕ) → Same old new ms → AreThere old ms → AreThere new ms
same_there old new [] h all = tt
same_there old new (m ∷ ms) h all = (subst IsThere (sym h.0) all.0, same_there old new ms h.1 all.1)

and_true : (a b : Bool) → (a && b) ≡ true → (a ≡ true) × (b ≡ true)
and_true true b e = (refl, e)
and_true false b e = absurd (true≢false (sym e))

not_is : (b : Bool) → not b ≡ true → b ≡ false
not_is true e = absurd (true≢false (sym e))
not_is false e = refl

or_false : (a b : Bool) → (a || b) ≡ false → a ≡ false
or_false true b e = absurd (true≢false e)
or_false false b e = refl

eqb_is : (x k : ℕ) → eqb x k ≡ true → x ≡ k
eqb_is x k e = dite (ℕ_discrete x k) (λ z. z) (λ ne. absurd (true≢false (sym e ∙ ne_eqb x k ne)))

-- A descriptor that was opened by a caller and not closed.
pub record IsOpen (n : ℕ) (log : Deeds) (d : Desc) : Type 0 where
  pub there : IsIn d (openings 0 log)
  pub caller_is : eqb d.caller n ≡ true
  pub unclosed : closed d.number log ≡ false

pub open_live : (n : ℕ) (log : Deeds) (d : Desc) → IsIn d (live_of n log) → IsOpen n log d
open_live n log d h =
    let r = In-filter (λ (x : Desc). eqb x.caller n && not (closed x.number log)) d (openings 0 log) h in
    let a = and_true (eqb d.caller n) (not (closed d.number log)) r.1 in
    record { there = r.0; caller_is = a.0; unclosed = not_is (closed d.number log) a.1 }

in_filter : (q : Desc → Bool) (x : Desc) (xs : List Desc) → IsIn x xs → q x ≡ true → IsIn x (filter q xs)
in_filter q x [] h e = absurd h
in_filter q x (y ∷ ys) h e = go (q y) refl (in_filter q x ys)
  where
    go : (b : Bool) → q y ≡ b → (IsIn x ys → q x ≡ true → IsIn x (filter q ys)) → IsIn x (cond b (y ∷ filter q ys) (filter q ys))
    go true f rec = ⊎_elim (λ (z : y ≡ x). inl z) (λ z. inr (rec z e)) h
    go false f rec = ⊎_elim (λ (z : y ≡ x). absurd (true≢false (sym e ∙ (ap q (sym z) ∙ f)))) (λ z. rec z e) h

pub live_open : (n : ℕ) (log : Deeds) (d : Desc) → IsOpen n log d → IsIn d (live_of n log)
live_open n log d o = in_filter (λ (x : Desc). eqb x.caller n && not (closed x.number log)) d (openings 0 log) o.there
    ((λ i. o.caller_is i && not (o.unclosed i)))

In-left : (x : Desc) (xs ys : List Desc) → IsIn x xs → IsIn x (xs ++ ys)
In-left x [] ys h = absurd h
In-left x (y ∷ xs) ys h = ⊎_elim (λ z. inl z) (λ z. inr (In-left x xs ys z)) h

-- It was open before entries under which it stays unclosed, and is open after them.
open_more : (n : ℕ) (b es : List Entry) (d : Desc) → IsOpen n (deeds b) d → closed d.number (deeds (b ++ es)) ≡ false → IsOpen n (deeds (b ++ es)) d
open_more n b es d o e = record {
  there = subst (λ (z : Deeds). IsIn d (openings 0 z)) (sym (deeds-append b es)) (subst (IsIn d) (sym (openings-append 0 (deeds b) (deeds es))) (In-left d (openings 0 (deeds b)) (openings (0 + length (deeds b)) (deeds es)) o.there));
  caller_is = o.caller_is;
  unclosed = e;
}

open_resident : (s : Setting) (b : List Entry) (n m : ℕ) (d : Desc) → IsSound s.first.graph (deeds b) → IsOpen (suc n) (deeds b) d → among m d.modules ≡ true → resident (marks (deeds b)) m ≡ true
open_resident s b n m d sound o e = holds-resident (deeds b) sound.balanced n m (holds_module (suc n) (deeds b) d m (live_open (suc n) (deeds b) d o) e)

same_step : (s : Setting) (b : List Entry) (e : Entry) (n : ℕ) (d : Desc) (ms : List ℕ) → IsSound s.first.graph (deeds b) → Next s b e → IsOpen (suc n) (deeds b) d → IsOpen (suc n) (deeds (b ++ e ∷ [])) d
    → AllByRecursion (λ (m : ℕ). among m d.modules ≡ true) ms → Same (places s.pages (deeds b)) (places s.pages (deeds (b ++ e ∷ []))) ms
same_step s b e n d [] sound k o o' all = tt
same_step s b e n d (m ∷ ms) sound k o o' all =
    (place_step s b e m k (open_resident s b n m d sound o all.0) (open_resident s (b ++ e ∷ []) n m d (sound_next s b e sound k) o' all.0), same_step s b e n d ms sound k o o' all.1)

early : (k : ℕ) (b : List Entry) (e : Entry) (es : List Entry) → closed k (deeds (b ++ e ∷ es)) ≡ false → closed k (deeds (b ++ e ∷ [])) ≡ false
early k b e es h = or_false (closed k (deeds (b ++ e ∷ []))) (closed k (deeds es))
    (sym (closed-append k (deeds (b ++ e ∷ [])) (deeds es)) ∙ (ap (closed k) (sym (deeds-append (b ++ e ∷ []) es) ∙ ap deeds (append_assoc b (e ∷ []) es)) ∙ h))

-- The modules of a descriptor keep their places as long as it isn't closed.
pub same_all : (s : Setting) (b es : List Entry) (n : ℕ) (d : Desc) → IsSound s.first.graph (deeds b) → LegalFrom s b es → IsOpen (suc n) (deeds b) d → closed d.number (deeds (b ++ es)) ≡ false
    → Same (places s.pages (deeds b)) (places s.pages (deeds (b ++ es))) d.modules
same_all s b [] n d sound k o e = subst (λ (z : List Entry). Same (places s.pages (deeds b)) (places s.pages (deeds z)) d.modules) (sym (append-nil b)) (same_none (places s.pages (deeds b)) d.modules)
same_all s b (x ∷ es) n d sound k o e =
    let o' = open_more (suc n) b (x ∷ []) d o (early d.number b x es e) in
    subst (λ (z : List Entry). Same (places s.pages (deeds b)) (places s.pages (deeds z)) d.modules) (append_assoc b (x ∷ []) es)
    (same_twice (places s.pages (deeds b)) (places s.pages (deeds (b ++ x ∷ []))) (places s.pages (deeds ((b ++ x ∷ []) ++ es))) d.modules
    (same_step s b x n d d.modules sound k.0 o o' (module_among d.modules))
    (same_all s (b ++ x ∷ []) es n d (sound_next s b x sound k.0) k.1 o' (ap (λ (z : List Entry). closed d.number (deeds z)) (append_assoc b (x ∷ []) es) ∙ e)))

none_some : (d : Desc) → ◌≡◌ {A = Option Desc} None (Some d) → ⊥
none_some d e = true≢false (ap is_none e)
  where
    is_none : Option Desc → Bool
    is_none None = true
    is_none (Some x) = false

abbrev desc_or : Desc → Option Desc → Desc
desc_or d None = d
desc_or d (Some x) = x

-- The descriptor that is found has the number.
pub at_number : (k : ℕ) (ds : List Desc) (d : Desc) → desc_at k ds ≡ Some d → d.number ≡ k
at_number k [] d e = absurd (none_some d e)
at_number k (x ∷ ds) d e = go (eqb x.number k) refl e (at_number k ds d)
  where
    go : (b : Bool) → eqb x.number k ≡ b → cond b (Some x) (desc_at k ds) ≡ Some d → (desc_at k ds ≡ Some d → d.number ≡ k) → d.number ≡ k
    go true f e rec = sym (ap (λ (z : Option Desc). (desc_or d z).number) e) ∙ eqb_is x.number k f
    go false f e rec = rec e

pub found_open : (n : ℕ) (log : Deeds) (d : Desc) → IsOpen n log d → desc_at d.number (openings 0 log) ≡ Some d
found_open n log d o = pair_found d (openings 0 log) o.there (λ f h e. number_once f d 0 log h o.there e)

-- What stays of a descriptor.
pub record Kept (pages n number : ℕ) (log log' : Deeds) (d : Desc) : Type 0 where
  pub live : IsIn d (live_of n log')
  pub found : desc_at number (openings 0 log') ≡ Some d
  pub same : Same (places pages log) (places pages log') d.modules

-- A live descriptor stays through legal entries that don't close it, with the places of its modules.
pub kept_open : (s : Setting) (b es : List Entry) (n number : ℕ) (d : Desc) → 0 < n → Legal s (b ++ es) → IsIn d (live_of n (deeds b)) → desc_at number (openings 0 (deeds b)) ≡ Some d
    → closed number (deeds (b ++ es)) ≡ false → Kept s.pages n number (deeds b) (deeds (b ++ es)) d
kept_open s b es zero number d pos legal live found e = absurd (omega arith)
kept_open s b es (suc n) number d pos legal live found e =
    let l = LegalFrom-append s [] b es legal in
    let o = open_live (suc n) (deeds b) d live in
    let is : d.number ≡ number = at_number number (openings 0 (deeds b)) d found in
    let u : closed d.number (deeds (b ++ es)) ≡ false = ap (λ (k : ℕ). closed k (deeds (b ++ es))) is ∙ e in
    let o' = open_more (suc n) b es d o u in
    record {
      live = live_open (suc n) (deeds (b ++ es)) d o';
      found = ap (λ (k : ℕ). desc_at k (openings 0 (deeds (b ++ es)))) (sym is) ∙ found_open (suc n) (deeds (b ++ es)) d o';
      same = same_all s b es n d (sound_legal s b l.0) l.1 o u;
    }

-- The live descriptors of a number are the same after entries of others.
pub live_all : (s : Setting) (b es : List Entry) (n : ℕ) → IsSound s.first.graph (deeds b) → LegalFrom s b es → NoneOf n es → live_of n (deeds (b ++ es)) ≡ live_of n (deeds b)
live_all s b [] n h k none = ap (λ (z : List Entry). live_of n (deeds z)) (append-nil b)
live_all s b (e ∷ es) n h k none = ap (λ (z : List Entry). live_of n (deeds z)) (sym (append_assoc b (e ∷ []) es))
    ∙ (live_all s (b ++ e ∷ []) es n (sound_next s b e h k.0) k.1 none.1
    ∙ (ap (live_of n) (deeds-snoc b e) ∙ live_next s b n e.caller e.event h.balanced none.0 k.0))

drop_true : (b : Bool) → (b && true) ≡ b
drop_true true = refl
drop_true false = refl

mine_of_closing : (a c f : Bool) → (a && not (c || f)) ≡ ((a && not c) && not f)
mine_of_closing true true f = refl
mine_of_closing true false f = refl
mine_of_closing false c f = refl

not_in : (j : ℕ) (q : Desc → Bool) (k : ℕ) (xs : Deeds) → j < k → filter (λ (x : Desc). q x && not (eqb j x.number)) (openings k xs) ≡ filter q (openings k xs)
not_in j q k xs lt = filter-same (λ (x : Desc). q x && not (eqb j x.number)) q (openings k xs)
    (λ x h. let r = (number_range x k xs h).0 in ap (λ (z : Bool). q x && not z) (ne_eqb j x.number (λ z. let w = z in omega arith)) ∙ drop_true (q x))

-- a list without the one descriptor of a number that passes is shorter by one
less_one : (j : ℕ) (q : Desc → Bool) (k : ℕ) (xs : Deeds) (d : Desc) → IsIn d (openings k xs) → d.number ≡ j → q d ≡ true
    → length (filter q (openings k xs)) ≡ length (filter (λ (x : Desc). q x && not (eqb j x.number)) (openings k xs)) + 1
less_one j q k [] d h is e = absurd h
less_one j q k (x ∷ xs) d h is e = go x.deed h (λ h. less_one j q (suc k) xs d h is e)
  where
    p : Desc → Bool
    p v = q v && not (eqb j v.number)

    first : (v : Desc) → v.number ≡ k → (v ≡ d) → length (filter q (v ∷ openings (suc k) xs)) ≡ length (filter p (v ∷ openings (suc k) xs)) + 1
    first v n same =
        let qv : q v ≡ true = ap q same ∙ e in
        let jv : eqb j v.number ≡ true = eq-eqb j v.number (sym is ∙ ap (λ (w : Desc). w.number) (sym same)) in
        let small : j < suc k = (let a : j ≡ k = sym is ∙ (ap (λ (w : Desc). w.number) (sym same) ∙ n) in omega arith) in
        ap (λ (b : Bool). length (cond b (v ∷ filter q (openings (suc k) xs)) (filter q (openings (suc k) xs)))) qv
        ∙ ((let z : suc (length (filter p (openings (suc k) xs))) ≡ length (filter p (openings (suc k) xs)) + 1 = omega arith in ap (λ (ds : List Desc). suc (length ds)) (sym (not_in j q (suc k) xs small)) ∙ z)
        ∙ sym (λ i. length (cond (qv i && not (jv i)) (v ∷ filter p (openings (suc k) xs)) (filter p (openings (suc k) xs))) + 1))

    later : (v : Desc) → v.number ≡ k → IsIn d (openings (suc k) xs) → length (filter q (openings (suc k) xs)) ≡ length (filter p (openings (suc k) xs)) + 1
        → length (filter q (v ∷ openings (suc k) xs)) ≡ length (filter p (v ∷ openings (suc k) xs)) + 1
    later v n h rec =
        let r = (number_range d (suc k) xs h).0 in
        let jv : eqb j v.number ≡ false = ne_eqb j v.number (λ z. let a = z in let b = n in let c = is in omega arith) in
        counts (q v) ∙ sym (ap (λ (b : Bool). length (cond b (v ∷ filter p (openings (suc k) xs)) (filter p (openings (suc k) xs))) + 1) ((λ i. q v && not (jv i)) ∙ drop_true (q v)))
      where
        counts : (b : Bool) → length (cond b (v ∷ filter q (openings (suc k) xs)) (filter q (openings (suc k) xs))) ≡ length (cond b (v ∷ filter p (openings (suc k) xs)) (filter p (openings (suc k) xs))) + 1
        counts true = let z = rec in omega arith
        counts false = rec

    go : (v : Deed) → IsIn d (opened k x.caller v ++ openings (suc k) xs) → (IsIn d (openings (suc k) xs) → length (filter q (openings (suc k) xs)) ≡ length (filter p (openings (suc k) xs)) + 1)
        → length (filter q (opened k x.caller v ++ openings (suc k) xs)) ≡ length (filter p (opened k x.caller v ++ openings (suc k) xs)) + 1
    go (opens pair ms l) h rec = ⊎_elim (λ z. first (record { number = k; caller = x.caller; pair = pair; modules = ms }) refl z)
        (λ z. later (record { number = k; caller = x.caller; pair = pair; modules = ms }) refl z (rec z)) h
    go (closes i) h rec = rec h
    go rests h rec = rec h

-- A closing leaves its caller one live descriptor less.
pub live_less : (b : Deeds) (n : ℕ) (d : Desc) → IsOpen n b d → length (live_of n b) ≡ length (live_of n (b ++ act n (closes d.number) ∷ [])) + 1
live_less b n d o =
    let e : Act = act n (closes d.number) in
    less_one d.number (λ (x : Desc). eqb x.caller n && not (closed x.number b)) 0 b d o.there refl (λ i. o.caller_is i && not (o.unclosed i))
    ∙ ap (λ (ds : List Desc). length ds + 1) (sym (ap (filter (λ (x : Desc). eqb x.caller n && not (closed x.number (b ++ e ∷ [])))) (openings-append 0 b (e ∷ []) ∙ append-nil (openings 0 b))
    ∙ filter-same (λ (x : Desc). eqb x.caller n && not (closed x.number (b ++ e ∷ []))) (λ (x : Desc). (eqb x.caller n && not (closed x.number b)) && not (eqb d.number x.number)) (openings 0 b)
    (λ x _. ap (λ (z : Bool). eqb x.caller n && not z) (closed-append x.number b (e ∷ []) ∙ ap (λ (z : Bool). closed x.number b || z) (or-false (eqb d.number x.number)))
    ∙ mine_of_closing (eqb x.caller n) (closed x.number b) (eqb d.number x.number))))
