-- Descriptors that are live in a journal.
use Rattle.std.proofs.Common.{◌≡◌, ◌⊎◌, ◌∙◌, ℕ, suc, ◌+◌, ◌<◌, ◌≤◌, Bool, true, false, not, ◌||◌, cond, List, [], ◌∷◌, ◌++◌, length, ap, sym, subst, refl, arith, inl, inr, length-append}
use Rattle.std.specs.List.{filter}
use Rattle.runtime_histories.specs.declared.entries.Entry.{Entry}
use Rattle.runtime_histories.specs.Deeds.{Deeds, Deed, Desc, Loaded, Pair, act, opens, closes, rests, opened, openings, closed, live, IsIn, IsLive}
use Rattle.runtime_histories.specs.Entries.{deeds, deed_of}
use Rattle.runtime_histories.specs.Settings.{Setting}
use Rattle.runtime_histories.specs.Legal.{Legal}
use Rattle.runtime_histories.proofs.Basics.{openings-append, closed-append, or-false}
use Rattle.runtime_histories.proofs.Legality.{deeds-snoc, length-deeds, sound_legal}

filter_few : (p : Desc → Bool) (xs : List Desc) → length (filter p xs) ≤ length xs
filter_few p [] = omega arith
filter_few p (x ∷ xs) = go (p x) (filter_few p xs)
  where
    go : (b : Bool) → length (filter p xs) ≤ length xs → length (cond b (x ∷ filter p xs) (filter p xs)) ≤ length (x ∷ xs)
    go true h = omega (arith, h)
    go false h = omega (arith, h)

opened_few : (k c : ℕ) (d : Deed) → length (opened k c d) ≤ 1
opened_few k c (opens p ms l) = omega arith
opened_few k c (closes j) = omega arith
opened_few k c rests = omega arith

openings_few : (k : ℕ) (log : Deeds) → length (openings k log) ≤ length log
openings_few k [] = omega arith
openings_few k (e ∷ es) =
    let one = opened_few k e.caller e.deed in
    let more = openings_few (suc k) es in
    let both = length-append (opened k e.caller e.deed) (openings (suc k) es) in
    omega (arith, one, more, both)

-- At most as many descriptors are live as there are entries.
pub live_few : (j : List Entry) → length (live (deeds j)) ≤ length j
live_few j =
    let a = filter_few (λ d. not (closed d.number (deeds j))) (openings 0 (deeds j)) in
    let b = openings_few 0 (deeds j) in
    let c = length-deeds j in
    omega (arith, a, b, c)

in_right : (x : Desc) (xs ys : List Desc) → IsIn x ys → IsIn x (xs ++ ys)
in_right x [] ys h = h
in_right x (z ∷ xs) ys h = inr (in_right x xs ys h)

not_closed : (s : Setting) (j : List Entry) → Legal s j → closed (0 + length (deeds j)) (deeds j) ≡ false
not_closed s j legal = go (closed (0 + length (deeds j)) (deeds j)) refl
  where
    go : (b : Bool) → closed (0 + length (deeds j)) (deeds j) ≡ b → b ≡ false
    go false e = refl
    go true e = let low : 0 + length (deeds j) < length (deeds j) = (sound_legal s j legal).balanced.fair.low (0 + length (deeds j)) e in absurd (omega (arith, low))

abbrev new_desc : Deeds → ℕ → Pair → List ℕ → Desc
new_desc b c p ms = record { number = 0 + length b; caller = c; pair = p; modules = ms }

-- A descriptor that was opened behind a legal history is live.
pub live_after : (s : Setting) (j : List Entry) (e : Entry) (p : Pair) (ms : List ℕ) (l : List Loaded) → Legal s j → deed_of e.event ≡ opens p ms l
    → IsLive (deeds (j ++ e ∷ [])) e.caller (length j)
live_after s j e p ms l legal is =
    let b : Deeds = deeds j in
    let log : Deeds = b ++ act e.caller (opens p ms l) ∷ [] in
    let same : deeds (j ++ e ∷ []) ≡ log = deeds-snoc j e ∙ ap (λ (d : Deed). b ++ act e.caller d ∷ []) is in
    let n : ℕ = 0 + length b in
    let number : n ≡ length j = let h = length-deeds j in omega (arith, h) in
    let there : IsIn (new_desc b e.caller p ms) (openings 0 log) =
    subst (λ (z : List Desc). IsIn (new_desc b e.caller p ms) z) (sym (openings-append 0 b (act e.caller (opens p ms l) ∷ [])))
    (in_right (new_desc b e.caller p ms) (openings 0 b) (new_desc b e.caller p ms ∷ []) (inl refl)) in
    let open_still : closed n log ≡ false = closed-append n b (act e.caller (opens p ms l) ∷ []) ∙ or-false (closed n b) ∙ not_closed s j legal in
    subst (λ (z : Deeds). IsLive z e.caller (length j)) (sym same) (record {
      desc = new_desc b e.caller p ms;
      there = there;
      number_is = number;
      caller_is = refl;
      unclosed = ap (λ (k : ℕ). closed k log) (sym number) ∙ open_still;
    })
