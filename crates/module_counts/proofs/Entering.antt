-- Entries, what they say, and the descriptors that they open.
use Rattle.std.proofs.Common.{◌≡◌, ◌⊎◌, ℕ, zero, suc, ◌+◌, ◌<◌, ◌≤◌, eqb, Bool, true, false, not, cond, List, [], ◌∷◌, length, map, get_or, sym, refl, ap, ◌∙◌, subst, arith, Option, Some, None, inl, inr, ⊎_elim, true≢false, eq-eqb, ne_eqb, IsSomeAnd}
use mathlib.Core.Logic.{dite}
use native.Mathlib.Decide.{ℕ_discrete}
use Rattle.std.specs.List.{filter}
use Rattle.module_graph.specs.Graph.{Shape}
use Rattle.runtime_histories.specs.declared.refusals.Asked.{Asked}
use Rattle.runtime_histories.specs.declared.refusals.Asked.TheVariants.{Good, Bad}
use Rattle.runtime_histories.specs.declared.entries.Reply.{Reply}
use Rattle.runtime_histories.specs.declared.entries.Reply.TheVariants.{Opened, Refused}
use Rattle.runtime_histories.specs.declared.entries.Event.{Event}
use Rattle.runtime_histories.specs.declared.entries.Event.TheVariants.{Opening, Closing}
use Rattle.runtime_histories.specs.declared.entries.Entry.{Entry}
use Rattle.module_counts.specs.declared.lives.Live.{Live}
use Rattle.module_counts.specs.declared.stock.Stock.{Stock}
use Rattle.runtime_histories.specs.Deeds.{Deeds, Desc, opened, openings, closed, live, IsIn, IsLive}
use Rattle.runtime_histories.specs.Fair.{times}
use Rattle.runtime_histories.specs.Entries.{deed_of, opening_of, deeds}
use Rattle.runtime_histories.specs.Settings.{modules_of}
use Rattle.module_counts.specs.Admitting.{Success, success_of, success_by, deed_by, IsOpening, IsStepped, AreStepped}
use Rattle.module_counts.specs.Counting.{shown, IsStock}
use Rattle.runtime_histories.proofs.Basics.{In-append, number_range}
use Rattle.runtime_histories.proofs.Balance.{held}

-- The deed of an opening is by what it says.
pub deed_is : (v : Event) → IsOpening v → deed_of v ≡ deed_by (success_of v)
deed_is (Closing n) h = absurd h
deed_is (Opening from to reply) h = go from to reply
  where
    go : (from to : Asked) (reply : Reply) → opening_of 0 from to reply ≡ deed_by (success_by 0 from to reply)
    go (Bad f) to reply = refl
    go (Good a) (Bad f) reply = refl
    go (Good a) (Good b) (Refused why) = refl
    go (Good a) (Good b) (Opened chain cost loads modules) = refl

-- The entry of a descriptor says its pair and its modules.
pub record IsEntryOf (g : Shape) (d : Desc) (e : Event) : Type 0 where
  pub value : Success
  pub is : success_of e ≡ Some value
  pub pair_is : value.pair ≡ d.pair
  pub modules_is : modules_of g.edges value.ordinals ≡ d.modules

first_opened : (g : Shape) (d : Desc) (k c : ℕ) (from to : Asked) (reply : Reply) → IsStepped g (success_by 0 from to reply) → IsIn d (opened k c (opening_of 0 from to reply))
    → IsEntryOf g d (Opening from to reply) × (d.number ≡ k)
first_opened g d k c (Bad f) to reply st h = absurd h
first_opened g d k c (Good a) (Bad f) reply st h = absurd h
first_opened g d k c (Good a) (Good b) (Refused why) st h = absurd h
first_opened g d k c (Good a) (Good b) (Opened chain cost loads modules) st h = ⊎_elim
    (λ (e : record { number = k; caller = c; pair = record { generation = 0; from = a; to = b }; modules = modules.value } ≡ d). (
      record { value = record { pair = record { generation = 0; from = a; to = b }; ordinals = chain; cost = cost; loads = loads; modules = modules.value }; is = refl; pair_is = ap (λ (y : Desc). y.pair) e; modules_is = sym st ∙ ap (λ (y : Desc). y.modules) e },
      sym (ap (λ (y : Desc). y.number) e),
    ))
    (λ z. absurd z) h

first_entry : (g : Shape) (d : Desc) (k c : ℕ) (v : Event) → IsStepped g (success_of v) → IsIn d (opened k c (deed_of v)) → IsEntryOf g d v × (d.number ≡ k)
first_entry g d k c (Closing j) st h = absurd h
first_entry g d k c (Opening from to reply) st h = first_opened g d k c from to reply st h

pub entry_of : (g : Shape) (d : Desc) (js : List Entry) (k i : ℕ) (x : Entry) → AreStepped g js → IsIn d (openings k (deeds js)) → d.number ≡ k + i → IsEntryOf g d (get_or js i x).event
entry_of g d [] k i x st h e = absurd h
entry_of g d (j ∷ js) k zero x st h e = ⊎_elim (λ z. (first_entry g d k j.caller j.event st.0 z).0) (λ z. let r = number_range d (suc k) (deeds js) z in absurd (let q = r.0 in omega arith))
    (In-append d (opened k j.caller (deed_of j.event)) (openings (suc k) (deeds js)) h)
entry_of g d (j ∷ js) k (suc i) x st h e = ⊎_elim (λ z. let r = first_entry g d k j.caller j.event st.0 z in absurd (let q = r.1 in omega arith)) (λ z. entry_of g d js (suc k) i x st.1 z (omega arith))
    (In-append d (opened k j.caller (deed_of j.event)) (openings (suc k) (deeds js)) h)

-- A value that is there.
pub is_by : {A : Type 0} (P : A → Type 0) (o : Option A) (v : A) → o ≡ Some v → IsSomeAnd o P → P v
is_by P o v e h = subst (λ (z : Option _). IsSomeAnd z P) e h

pub some_is : {A : Type 0} (P : A → Type 0) (o : Option A) → IsSomeAnd o P → (v : A) × (o ≡ Some v) × P v
some_is P None h = absurd h
some_is P (Some v) h = (v, refl, h)

times_in : (m : ℕ) (xs : List ℕ) → 0 < times m xs → IsIn m xs
times_in m [] h = absurd (omega arith)
times_in m (x ∷ xs) h = dite (ℕ_discrete x m) (λ (z : x ≡ m). inl z)
    (λ ne. inr (times_in m xs (let k : 0 < 0 + times m xs = subst (λ (b : Bool). 0 < cond b 1 0 + times m xs) (ne_eqb x m ne) h in omega arith)))

-- The modules of a live descriptor can be released.
pub close_enough : (g : Shape) (s : Stock) (log : Deeds) (c n : ℕ) → IsStock g s log → (k : IsLive log c n) → (xs : List ℕ) → xs ≡ k.desc.modules → ((m : ℕ) → IsIn m xs → m < length s.ages.held.items)
    → (m : ℕ) → times m xs ≤ get_or s.ages.held.items m 0
close_enough g s log c n h k xs is known m = go (times m xs) refl
  where
    go : (t : ℕ) → times m xs ≡ t → times m xs ≤ get_or s.ages.held.items m 0
    go zero e = omega arith
    go (suc t) e =
        let lt = known m (times_in m xs (omega arith)) in
        let un : closed k.desc.number log ≡ false = ap (λ (z : ℕ). closed z log) k.number_is ∙ k.unclosed in
        let a = held h.sound.balanced.route log h.sound.balanced.fair k.desc m k.there un in
        let b = h.tracking.kept m lt in
        let d : times m xs ≡ times m k.desc.modules = ap (times m) is in omega arith

filter_least : (n : ℕ) (xs : List Live) → length (filter (λ (x : Live). not (eqb x.number n)) xs) ≤ length xs
filter_least n [] = omega arith
filter_least n (x ∷ xs) = go (not (eqb x.number n)) (filter_least n xs)
  where
    go : (b : Bool) → length (filter (λ (x : Live). not (eqb x.number n)) xs) ≤ length xs → length (cond b (x ∷ filter (λ (x : Live). not (eqb x.number n)) xs) (filter (λ (x : Live). not (eqb x.number n)) xs)) ≤ suc (length xs)
    go true r = omega arith
    go false r = omega arith

drops : (n : ℕ) (ds : List Desc) (d : Desc) → IsIn d ds → d.number ≡ n → length (filter (λ (x : Live). not (eqb x.number n)) (map shown ds)) + 1 ≤ length (map shown ds)
drops n [] d h e = absurd h
drops n (x ∷ ds) d h e = ⊎_elim
    (λ (z : x ≡ d). let b : eqb x.number n ≡ true = eq-eqb x.number n (ap (λ (y : Desc). y.number) z ∙ e) in
    let f = filter_least n (map shown ds) in
    let c : length (filter (λ (x : Live). not (eqb x.number n)) (map shown (x ∷ ds))) ≡ length (filter (λ (x : Live). not (eqb x.number n)) (map shown ds)) =
    ap (λ (y : Bool). length (cond (not y) (shown x ∷ filter (λ (x : Live). not (eqb x.number n)) (map shown ds)) (filter (λ (x : Live). not (eqb x.number n)) (map shown ds)))) b in omega arith)
    (λ z. let r = drops n ds d z e in go (not (eqb x.number n)) r) h
  where
    go : (b : Bool) → length (filter (λ (x : Live). not (eqb x.number n)) (map shown ds)) + 1 ≤ length (map shown ds)
        → length (cond b (shown x ∷ filter (λ (x : Live). not (eqb x.number n)) (map shown ds)) (filter (λ (x : Live). not (eqb x.number n)) (map shown ds))) + 1 ≤ suc (length (map shown ds))
    go true r = omega arith
    go false r = omega arith

in_kept : {A : Type 0} (p : A → Bool) (x : A) (xs : List A) → IsIn x xs → p x ≡ true → IsIn x (filter p xs)
in_kept p x [] h e = absurd h
in_kept p x (y ∷ xs) h e = go (λ z. in_kept p x xs z e) (p y) refl h
  where
    go : (IsIn x xs → IsIn x (filter p xs)) → (b : Bool) → p y ≡ b → (y ≡ x) ⊎ IsIn x xs → IsIn x (cond b (y ∷ filter p xs) (filter p xs))
    go rec true f k = ⊎_elim (λ z. inl z) (λ z. inr (rec z)) k
    go rec false f k = ⊎_elim (λ (z : y ≡ x). absurd (true≢false (sym e ∙ (ap p (sym z) ∙ f)))) (λ z. rec z) k

-- A closing leaves out a descriptor.
pub one_less : (log : Deeds) (c n : ℕ) → IsLive log c n → length (filter (λ (x : Live). not (eqb x.number n)) (map shown (live log))) + 1 ≤ length (map shown (live log))
one_less log c n k = drops n (live log) k.desc (in_kept (λ (d : Desc). not (closed d.number log)) k.desc (openings 0 log) k.there (ap not (ap (λ (z : ℕ). closed z log) k.number_is ∙ k.unclosed))) k.number_is
