-- The live descriptors of a caller after one entry more.
use Rattle.std.proofs.Common.{◌≡◌, ℕ, zero, suc, ◌+◌, ◌<◌, eqb, Bool, true, false, not, ◌&&◌, ◌||◌, cond, List, [], ◌∷◌, ◌++◌, length, Some, sym, refl, ap, ◌∙◌, subst, arith, inl, inr, eq-eqb, append-nil, length-append}
use Rattle.std.specs.List.{filter, AllByRecursion}
use Rattle.runtime_histories.specs.Deeds.{Act, act, opens, rests, Deeds, Desc, Pair, Loaded, openings, closed, names, desc_at, marks, IsIn}
use Rattle.runtime_histories.specs.Fair.{IsBalanced}
use Rattle.runtime_histories.specs.Pins.{live_of}
use Rattle.runtime_histories.specs.Places.{Placed, among, place_deed, places}
use Rattle.runtime_histories.specs.Residence.{resident}
use Rattle.runtime_histories.proofs.Basics.{or-false, openings-append, closed-append, filter-append, filter-same, any-in, number_once, pair_found}
use Rattle.runtime_histories.proofs.Pinning.{places-snoc, holds-resident}
use Rattle.desk_openings.specs.Parts.{place_of, parts_at, parts_for, IsThere, AreThere}
use Rattle.desk_openings.proofs.Lists.{or_left, or_right, place_filter}

not_true : (b : Bool) → (b ≡ true → ⊥) → b ≡ false
not_true true h = absurd (h refl)
not_true false h = refl

-- An entry that closes nothing leaves open what was open.
pub closed_same : (b : Deeds) (e : Act) (k : ℕ) → names k e.deed ≡ false → closed k (b ++ e ∷ []) ≡ closed k b
closed_same b e k none = closed-append k b (e ∷ []) ∙ (ap (λ (z : Bool). closed k b || (z || false)) none ∙ or-false (closed k b))

old_same : (n : ℕ) (b : Deeds) (e : Act) → ((k : ℕ) → names k e.deed ≡ false)
    → filter (λ (d : Desc). eqb d.caller n && not (closed d.number (b ++ e ∷ []))) (openings 0 b) ≡ live_of n b
old_same n b e none = filter-same (λ (d : Desc). eqb d.caller n && not (closed d.number (b ++ e ∷ []))) (λ (d : Desc). eqb d.caller n && not (closed d.number b)) (openings 0 b)
    (λ x _. ap (λ (z : Bool). eqb x.caller n && not z) (closed_same b e x.number (none x.number)))

-- An entry that does nothing leaves the live descriptors.
pub live_rested : (n c : ℕ) (b : Deeds) → live_of n (b ++ act c rests ∷ []) ≡ live_of n b
live_rested n c b = ap (filter (λ (d : Desc). eqb d.caller n && not (closed d.number (b ++ act c rests ∷ [])))) (openings-append 0 b (act c rests ∷ []) ∙ append-nil (openings 0 b))
    ∙ old_same n b (act c rests) (λ k. refl)

In-last : {A : Type 0} (x : A) (xs : List A) → IsIn x (xs ++ x ∷ [])
In-last x [] = inl refl
In-last x (y ∷ ys) = inr (In-last x ys)

module _ (b : Deeds) (h : IsBalanced b) (n : ℕ) (p : Pair) (ms : List ℕ) (l : List Loaded) where
  abbrev e : Act
  e = act n (opens p ms l)

  -- The descriptor that is opened.
  abbrev pub new_desc : Desc
  new_desc = record { number = 0 + length b; caller = n; pair = p; modules = ms }

  -- It is one live descriptor more.
  pub live_opened : live_of n (b ++ e ∷ []) ≡ live_of n b ++ new_desc ∷ []
  live_opened =
      let fresh : closed (0 + length b) b ≡ false = not_true (closed (0 + length b) b) (λ z. let k = h.fair.low (0 + length b) z in omega arith) in
      let gone : closed (0 + length b) (b ++ e ∷ []) ≡ false = closed_same b e (0 + length b) refl ∙ fresh in
      ap (filter (λ (d : Desc). eqb d.caller n && not (closed d.number (b ++ e ∷ [])))) (openings-append 0 b (e ∷ []))
      ∙ (filter-append (λ (d : Desc). eqb d.caller n && not (closed d.number (b ++ e ∷ []))) (openings 0 b) (new_desc ∷ [])
      ∙ (λ i. old_same n b e (λ k. refl) i ++ cond (eq-eqb n n refl i && not (gone i)) (new_desc ∷ []) []))

  pub new_live : IsIn new_desc (live_of n (b ++ e ∷ []))
  new_live = subst (IsIn new_desc) (sym live_opened) (In-last new_desc (live_of n b))

  pub new_count : length (live_of n (b ++ e ∷ [])) ≡ length (live_of n b) + 1
  new_count = ap length live_opened ∙ length-append (live_of n b) (new_desc ∷ [])

  there : IsIn new_desc (openings 0 (b ++ e ∷ []))
  there = subst (IsIn new_desc) (sym (openings-append 0 b (e ∷ []))) (In-last new_desc (openings 0 b))

  -- It is found by its number.
  pub new_found : (number : ℕ) → number ≡ length b → desc_at number (openings 0 (b ++ e ∷ [])) ≡ Some new_desc
  new_found number is = let z : number ≡ 0 + length b = omega arith in
      ap (λ (k : ℕ). desc_at k (openings 0 (b ++ e ∷ []))) z ∙ pair_found new_desc (openings 0 (b ++ e ∷ [])) there (λ f k q. number_once f new_desc 0 (b ++ e ∷ []) k there q)

-- Each module of a list stands in it.
pub module_among : (ms : List ℕ) → AllByRecursion (λ (m : ℕ). among m ms ≡ true) ms
module_among [] = tt
module_among (m ∷ ms) = (or_left (eqb m m) (among m ms) (eq-eqb m m refl), more ms (module_among ms))
  where
    more : (xs : List ℕ) → AllByRecursion (λ (k : ℕ). among k ms ≡ true) xs → AllByRecursion (λ (k : ℕ). among k (m ∷ ms) ≡ true) xs
    more [] all = tt
    more (x ∷ xs) all = (or_right (eqb m x) (among x ms) all.0, more xs all.1)

pub all_from : (P Q : ℕ → Type 0) (ms : List ℕ) → ((m : ℕ) → P m → Q m) → AllByRecursion P ms → AllByRecursion Q ms
all_from P Q [] f all = tt
all_from P Q (m ∷ ms) f all = (f m all.0, all_from P Q ms f all.1)

-- The modules of a live descriptor of a caller are resident.
pub live_resident : (log : Deeds) → IsBalanced log → (n : ℕ) (d : Desc) → 0 < n → IsIn d (live_of n log) → (m : ℕ) → among m d.modules ≡ true → resident (marks log) m ≡ true
live_resident log h zero d some live m e = absurd (omega arith)
live_resident log h (suc n) d some live m e = holds-resident log h n m (any-in (λ (x : Desc). among m x.modules) d (live_of (suc n) log) live e)

-- Modules that are resident after a deed have the places that it gave.
abbrev pub HaveSame : List Placed → List Placed → List ℕ → Type 0
HaveSame old new ms = AllByRecursion (λ (m : ℕ). place_of new m ≡ place_of old m) ms

pub places_same : (pages : ℕ) (b : Deeds) (e : Act) (ms : List ℕ) → AllByRecursion (λ (m : ℕ). resident (marks (b ++ e ∷ [])) m ≡ true) ms
    → HaveSame (place_deed pages e.deed (places pages b)) (places pages (b ++ e ∷ [])) ms
places_same pages b e ms all = all_from (λ m. resident (marks (b ++ e ∷ [])) m ≡ true) (λ m. place_of (places pages (b ++ e ∷ [])) m ≡ place_of (place_deed pages e.deed (places pages b)) m) ms
    (λ m r. ap (λ (xs : List Placed). place_of xs m) (places-snoc pages b e) ∙ place_filter (resident (marks (b ++ e ∷ []))) m (place_deed pages e.deed (places pages b)) r) all

pub parts_same : (old new : List Placed) (ms : List ℕ) → HaveSame old new ms → parts_for new ms ≡ parts_for old ms
parts_same old new [] h = refl
parts_same old new (m ∷ ms) h = λ i. parts_at (h.0 i) ++ parts_same old new ms h.1 i

pub there_same : (old new : List Placed) (ms : List ℕ) → HaveSame old new ms → AreThere old ms → AreThere new ms
there_same old new [] h all = tt
there_same old new (m ∷ ms) h all = (subst IsThere (sym h.0) all.0, there_same old new ms h.1 all.1)
