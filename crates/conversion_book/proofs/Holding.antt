-- Descriptors by their numbers.
use Rattle.std.proofs.Common.{◌≡◌, ℕ, zero, suc, ◌+◌, ◌<◌, eqb, Bool, true, false, not, cond, List, [], ◌∷◌, ◌++◌, length, map, take, get_or, sym, refl, ap, ◌∙◌, subst, arith, Option, Some, None, ◌⊎◌, ◌||◌, inl, inr, ⊎_elim, true≢false, eq-eqb}
use Rattle.std.proofs.Math.ListN.{set}
use Rattle.std.proofs.lemmas.List.{map-append}
use Rattle.std.specs.Prelude.{IsSome}
use Rattle.std.specs.List.{filter, list_any, position, position_from}
use Rattle.std.proofs.lemmas.List.Quantifiers.{position-Some}
use Rattle.std.proofs.lemmas.Iterator.Adapters.{position_from-zero}
use Rattle.chain_steps.specs.Machine.{Machine}
use Rattle.chain_steps.specs.Chains.{CanRun}
use Rattle.runtime_histories.specs.Deeds.{Deeds, Desc, Pair, Loaded, act, opens, closes, openings, closed, live, IsIn, IsLive}
use Rattle.runtime_histories.specs.Fair.{IsBalanced}
use Rattle.module_counts.proofs.Living.{live_is_opens, live_is_closes}
use Rattle.module_counts.specs.Counting.{shown}
use Rattle.module_counts.specs.declared.lives.Live.{Live}
use Rattle.conversion_book.specs.declared.descriptor.Descriptor.{Descriptor}
use Rattle.conversion_book.specs.Descriptors.{held_as, IsRunnable, AllRun}
use Rattle.conversion_book.specs.Runtime.{Held, held_at, moved, without}

-- The descriptor at a place is the first of its number.
abbrev IsFirst : ℕ → List Descriptor → ℕ → Descriptor → Type 0
IsFirst n ds at d = (eqb (get_or ds at d).number n ≡ true) × ((k : ℕ) → k < at → eqb (get_or ds k d).number n ≡ false)

find_first : (n : ℕ) (ds : List Descriptor) (at : ℕ) (d : Descriptor) → at < length ds → IsFirst n ds at d → held_at n (map held_as ds) ≡ Some (held_as (get_or ds at d))
find_first n [] at d lt first = absurd (omega (arith, lt))
find_first n (x ∷ xs) zero d lt first = ap (λ (b : Bool). cond b (Some (held_as x)) (held_at n (map held_as xs))) first.0
find_first n (x ∷ xs) (suc at) d lt first = ap (λ (b : Bool). cond b (Some (held_as x)) (held_at n (map held_as xs))) (first.1 0 (omega arith))
    ∙ find_first n xs at d (omega (arith, lt)) (first.0, λ k z. first.1 (suc k) (omega (arith, z)))

move_first : (n : ℕ) (m : Machine) (ds : List Descriptor) (at : ℕ) (d e : Descriptor) → at < length ds → IsFirst n ds at d
    → held_as e ≡ record (held_as (get_or ds at d)) { machine = m } → map held_as (set ds at e) ≡ moved n m (map held_as ds)
move_first n m [] at d e lt first is = absurd (omega (arith, lt))
move_first n m (x ∷ xs) zero d e lt first is = ap (λ (z : Held). z ∷ map held_as xs) is
    ∙ sym (ap (λ (b : Bool). cond b (record (held_as x) { machine = m } ∷ map held_as xs) (held_as x ∷ moved n m (map held_as xs))) first.0)
move_first n m (x ∷ xs) (suc at) d e lt first is = ap (λ (z : List Held). held_as x ∷ z) (move_first n m xs at d e (omega (arith, lt)) (first.0, λ k z. first.1 (suc k) (omega (arith, z))) is)
    ∙ sym (ap (λ (b : Bool). cond b (record (held_as x) { machine = m } ∷ map held_as xs) (held_as x ∷ moved n m (map held_as xs))) (first.1 0 (omega arith)))

-- The descriptor of a number is found at its place.
pub found_at : (n : ℕ) (ds : List Descriptor) (at : ℕ) (d : Descriptor) → position (λ (x : Descriptor). eqb x.number n) ds ≡ Some at
    → held_at n (map held_as ds) ≡ Some (held_as (get_or ds at d))
found_at n ds at d e = let p = position-Some (λ (x : Descriptor). eqb x.number n) ds at d e in find_first n ds at d p.0 (p.1, p.2)

-- It has come to another machine.
pub moved_at : (n : ℕ) (m : Machine) (ds : List Descriptor) (at : ℕ) (d e : Descriptor) → position (λ (x : Descriptor). eqb x.number n) ds ≡ Some at
    → held_as e ≡ record (held_as (get_or ds at d)) { machine = m } → map held_as (set ds at e) ≡ moved n m (map held_as ds)
moved_at n m ds at d e is there = let p = position-Some (λ (x : Descriptor). eqb x.number n) ds at d is in move_first n m ds at d e p.0 (p.1, p.2) there

no_number : (k : ℕ) → Some k ≡ None → ⊥
no_number k h = let P : Option ℕ → Type 0 = λ o. elim o [ Some _ ↦ Unit {0} | None ↦ ⊥ ] in subst P h tt

no_held : (h : Held) → None ≡ Some h → ⊥
no_held h e = let P : Option Held → Type 0 = λ o. elim o [ Some _ ↦ ⊥ | None ↦ Unit {0} ] in subst P e tt

same_held : (a b : Held) → Some a ≡ Some b → a ≡ b
same_held a b e = let P : Option Held → Type 0 = λ o. elim o [ Some c ↦ a ≡ c | None ↦ ⊥ ] in subst P e refl

none_from : (n i : ℕ) (ds : List Descriptor) → position_from (λ (x : Descriptor). eqb x.number n) i ds ≡ None → held_at n (map held_as ds) ≡ None
none_from n i [] e = refl
none_from n i (x ∷ xs) e = go (eqb x.number n) (λ h. none_from n (i + 1) xs h) e
  where
    go : (b : Bool) → (position_from (λ (x : Descriptor). eqb x.number n) (i + 1) xs ≡ None → held_at n (map held_as xs) ≡ None) → cond b (Some i) (position_from (λ (x : Descriptor). eqb x.number n) (i + 1) xs) ≡ None → cond b (Some (held_as x)) (held_at n (map held_as xs)) ≡ None
    go true rec h = absurd (no_number i h)
    go false rec h = rec h

-- A number that has no place is none of a descriptor.
pub found_none : (n : ℕ) (ds : List Descriptor) → position (λ (x : Descriptor). eqb x.number n) ds ≡ None → held_at n (map held_as ds) ≡ None
found_none n ds e = none_from n 0 ds (sym (position_from-zero (λ (x : Descriptor). eqb x.number n) ds) ∙ e)

-- A descriptor is one of those that can run.
pub run_at : (n : ℕ) (hs : List Held) (h : Held) → AllRun hs → held_at n hs ≡ Some h → IsRunnable h
run_at n [] h all e = absurd (no_held h e)
run_at n (x ∷ xs) h all e = go (eqb x.number n) (λ z. run_at n xs h all.1 z) e
  where
    go : (b : Bool) → (held_at n xs ≡ Some h → IsRunnable h) → cond b (Some x) (held_at n xs) ≡ Some h → IsRunnable h
    go true rec z = subst IsRunnable (same_held x h z) all.0
    go false rec z = rec z

-- Descriptors can run where one of them has come to another machine of its recipe.
pub run_moved : (n : ℕ) (m : Machine) (hs : List Held) → ((h : Held) → held_at n hs ≡ Some h → m.recipe ≡ h.machine.recipe) → AllRun hs → AllRun (moved n m hs)
run_moved n m [] same all = tt
run_moved n m (x ∷ xs) same all = go (eqb x.number n) refl (λ s. run_moved n m xs s all.1)
  where
    go : (b : Bool) → eqb x.number n ≡ b → (((h : Held) → held_at n xs ≡ Some h → m.recipe ≡ h.machine.recipe) → AllRun (moved n m xs)) → AllRun (cond b (record x { machine = m } ∷ xs) (x ∷ moved n m xs))
    go true e rec = (
      record {
        can_run = subst (λ z. CanRun x.tables z) (sym (same x (ap (λ (b : Bool). cond b (Some x) (held_at n xs)) e))) all.0.can_run;
        well_formed = all.0.well_formed;
      },
      all.1,
    )
    go false e rec = (all.0, rec (λ h z. same h (ap (λ (b : Bool). cond b (Some x) (held_at n xs)) e ∙ z)))

-- A machine that moves changes no number.
pub numbers_moved : (n : ℕ) (m : Machine) (hs : List Held) → map (λ (h : Held). h.number) (moved n m hs) ≡ map (λ (h : Held). h.number) hs
numbers_moved n m [] = refl
numbers_moved n m (x ∷ xs) = go (eqb x.number n) (numbers_moved n m xs)
  where
    go : (b : Bool) → map (λ (h : Held). h.number) (moved n m xs) ≡ map (λ (h : Held). h.number) xs → map (λ (h : Held). h.number) (cond b (record x { machine = m } ∷ xs) (x ∷ moved n m xs)) ≡ x.number ∷ map (λ (h : Held). h.number) xs
    go true e = refl
    go false e = ap (λ (z : List ℕ). x.number ∷ z) e

-- One descriptor is left out of the kept ones.
pub without_is : (n : ℕ) (ds : List Descriptor) → map held_as (filter (λ (d : Descriptor). not (eqb d.number n)) ds) ≡ without n (map held_as ds)
without_is n [] = refl
without_is n (d ∷ ds) = go (not (eqb d.number n)) (without_is n ds)
  where
    go : (b : Bool) → map held_as (filter (λ (d : Descriptor). not (eqb d.number n)) ds) ≡ without n (map held_as ds)
        → map held_as (cond b (d ∷ filter (λ (d : Descriptor). not (eqb d.number n)) ds) (filter (λ (d : Descriptor). not (eqb d.number n)) ds)) ≡ cond b (held_as d ∷ without n (map held_as ds)) (without n (map held_as ds))
    go true e = ap (λ (z : List Held). held_as d ∷ z) e
    go false e = e

-- The others can run.
pub run_without : (n : ℕ) (hs : List Held) → AllRun hs → AllRun (without n hs)
run_without n [] all = tt
run_without n (h ∷ hs) all = go (not (eqb h.number n)) (run_without n hs all.1)
  where
    go : (b : Bool) → AllRun (without n hs) → AllRun (cond b (h ∷ without n hs) (without n hs))
    go true r = (all.0, r)
    go false r = r

-- So they can with one more.
pub run_more : (hs : List Held) (h : Held) → AllRun hs → IsRunnable h → AllRun (hs ++ h ∷ [])
run_more [] h all r = (r, tt)
run_more (x ∷ xs) h all r = (all.0, run_more xs h all.1 r)

numbers_without : (n : ℕ) (hs : List Held) → map (λ (h : Held). h.number) (without n hs) ≡ filter (λ k. not (eqb k n)) (map (λ (h : Held). h.number) hs)
numbers_without n [] = refl
numbers_without n (h ∷ hs) = go (not (eqb h.number n)) (numbers_without n hs)
  where
    go : (b : Bool) → map (λ (h : Held). h.number) (without n hs) ≡ filter (λ k. not (eqb k n)) (map (λ (h : Held). h.number) hs)
        → map (λ (h : Held). h.number) (cond b (h ∷ without n hs) (without n hs)) ≡ cond b (h.number ∷ filter (λ k. not (eqb k n)) (map (λ (h : Held). h.number) hs)) (filter (λ k. not (eqb k n)) (map (λ (h : Held). h.number) hs))
    go true e = ap (λ (z : List ℕ). h.number ∷ z) e
    go false e = e

lives_without : (n : ℕ) (xs : List Live) → map (λ (x : Live). x.number) (filter (λ (x : Live). not (eqb x.number n)) xs) ≡ filter (λ k. not (eqb k n)) (map (λ (x : Live). x.number) xs)
lives_without n [] = refl
lives_without n (h ∷ hs) = go (not (eqb h.number n)) (lives_without n hs)
  where
    go : (b : Bool) → map (λ (x : Live). x.number) (filter (λ (x : Live). not (eqb x.number n)) hs) ≡ filter (λ k. not (eqb k n)) (map (λ (x : Live). x.number) hs)
        → map (λ (x : Live). x.number) (cond b (h ∷ filter (λ (x : Live). not (eqb x.number n)) hs) (filter (λ (x : Live). not (eqb x.number n)) hs)) ≡ cond b (h.number ∷ filter (λ k. not (eqb k n)) (map (λ (x : Live). x.number) hs)) (filter (λ k. not (eqb k n)) (map (λ (x : Live). x.number) hs))
    go true e = ap (λ (z : List ℕ). h.number ∷ z) e
    go false e = e

lives_number : (ds : List Desc) → map (λ (x : Live). x.number) (map shown ds) ≡ map (λ (d : Desc). d.number) ds
lives_number [] = refl
lives_number (d ∷ ds) = ap (λ (z : List ℕ). d.number ∷ z) (lives_number ds)

-- The numbers of the live descriptors.
abbrev pub live_numbers : Deeds → List ℕ
live_numbers log = map (λ (d : Desc). d.number) (live log)

-- The numbers after an opening.
pub numbers_opens : (b : Deeds) → IsBalanced b → (c : ℕ) (p : Pair) (n : ℕ) (ms : List ℕ) (l : List Loaded) → n ≡ length b → (hs : List Held) (h : Held)
    → h.number ≡ n → map (λ (h : Held). h.number) hs ≡ live_numbers b → map (λ (h : Held). h.number) (hs ++ h ∷ []) ≡ live_numbers (b ++ act c (opens p ms l) ∷ [])
numbers_opens b bal c p n ms l is hs h number e =
    map-append (λ (h : Held). h.number) hs (h ∷ [])
    ∙ ((λ i. e i ++ number i ∷ [])
    ∙ (ap (λ (z : List ℕ). z ++ n ∷ []) (sym (lives_number (live b)))
    ∙ (sym (map-append (λ (x : Live). x.number) (map shown (live b)) (record { number = n; caller = c; generation = p.generation; from = p.from; to = p.to } ∷ []))
    ∙ (sym (ap (map (λ (x : Live). x.number)) (live_is_opens b bal c p n ms l is)) ∙ lives_number (live (b ++ act c (opens p ms l) ∷ []))))))

-- The numbers after a closing.
pub numbers_closes : (b : Deeds) (c n : ℕ) (hs : List Held) → map (λ (h : Held). h.number) hs ≡ live_numbers b → map (λ (h : Held). h.number) (without n hs) ≡ live_numbers (b ++ act c (closes n) ∷ [])
numbers_closes b c n hs e =
    numbers_without n hs ∙ (ap (filter (λ k. not (eqb k n))) e ∙ (sym (ap (filter (λ k. not (eqb k n))) (lives_number (live b)))
    ∙ (sym (lives_without n (map shown (live b))) ∙ (sym (ap (map (λ (x : Live). x.number)) (live_is_closes b c n)) ∙ lives_number (live (b ++ act c (closes n) ∷ []))))))

in_filtered : (p : Desc → Bool) (d : Desc) (ds : List Desc) → IsIn d ds → p d ≡ true → IsIn d (filter p ds)
in_filtered p d [] h e = absurd h
in_filtered p d (x ∷ xs) h e = go (p x) refl (λ z. in_filtered p d xs z e) h
  where
    go : (b : Bool) → p x ≡ b → (IsIn d xs → IsIn d (filter p xs)) → (x ≡ d) ⊎ IsIn d xs → IsIn d (cond b (x ∷ filter p xs) (filter p xs))
    go true f rec k = ⊎_elim (λ z. inl z) (λ z. inr (rec z)) k
    go false f rec k = ⊎_elim (λ (z : x ≡ d). absurd (true≢false (sym e ∙ (sym (ap p z) ∙ f)))) (λ z. rec z) k

in_numbers : (d : Desc) (ds : List Desc) → IsIn d ds → list_any (λ k. eqb k d.number) (map (λ (d : Desc). d.number) ds) ≡ true
in_numbers d [] h = absurd h
in_numbers d (x ∷ xs) h = ⊎_elim
    (λ (z : x ≡ d). ap (λ (b : Bool). b || list_any (λ k. eqb k d.number) (map (λ (d : Desc). d.number) xs)) (eq-eqb x.number d.number (ap (λ (y : Desc). y.number) z)))
    (λ z. or_right (eqb x.number d.number) (list_any (λ k. eqb k d.number) (map (λ (d : Desc). d.number) xs)) (in_numbers d xs z)) h
  where
    or_right : (a b : Bool) → b ≡ true → (a || b) ≡ true
    or_right true b e = refl
    or_right false b e = e

any_held : (n : ℕ) (hs : List Held) → list_any (λ k. eqb k n) (map (λ (h : Held). h.number) hs) ≡ true → IsSome (held_at n hs)
any_held n [] e = e
any_held n (h ∷ hs) e = go (eqb h.number n) (λ z. any_held n hs z) e
  where
    go : (b : Bool) → (list_any (λ k. eqb k n) (map (λ (h : Held). h.number) hs) ≡ true → IsSome (held_at n hs)) → (b || list_any (λ k. eqb k n) (map (λ (h : Held). h.number) hs)) ≡ true → IsSome (cond b (Some h) (held_at n hs))
    go true rec z = refl
    go false rec z = rec z

-- A live number is that of a descriptor.
pub live_held : (log : Deeds) (c n : ℕ) (hs : List Held) → map (λ (h : Held). h.number) hs ≡ live_numbers log → IsLive log c n → IsSome (held_at n hs)
live_held log c n hs e l =
    let d : Desc = l.desc in
    let unclosed : closed d.number log ≡ false = ap (λ (z : ℕ). closed z log) l.number_is ∙ l.unclosed in
    let there : IsIn d (live log) = in_filtered (λ x. not (closed x.number log)) d (openings 0 log) l.there (ap not unclosed) in
    let any : list_any (λ k. eqb k n) (map (λ (h : Held). h.number) hs) ≡ true =
    ap (list_any (λ k. eqb k n)) e ∙ (ap (λ (z : ℕ). list_any (λ k. eqb k z) (live_numbers log)) (sym l.number_is) ∙ in_numbers d (live log) there) in
    any_held n hs any

-- A slice of a whole list that was changed is the list.
pub whole_slice : (ys zs : List Descriptor) (n : ℕ) → n ≡ length ys → take n (ys ++ zs) ≡ ys
whole_slice ys zs n e = ap (λ (k : ℕ). take k (ys ++ zs)) e ∙ front ys zs
  where
    front : (ys zs : List Descriptor) → take (length ys) (ys ++ zs) ≡ ys
    front [] zs = refl
    front (y ∷ ys) zs = ap (λ (z : List Descriptor). y ∷ z) (front ys zs)
