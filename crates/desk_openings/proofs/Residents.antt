-- After a legal history each resident module has a place.
use Rattle.std.proofs.Common.{◌≡◌, ◌⊎◌, ℕ, true, List, [], ◌∷◌, ◌++◌, map, sym, refl, ap, ◌∙◌, subst, inl, inr, ⊎_elim, true≢false}
use Rattle.runtime_histories.specs.declared.entries.Entry.{Entry}
use Rattle.runtime_histories.specs.declared.entries.Event.{Event}
use Rattle.runtime_histories.specs.declared.entries.Event.TheVariants.{Opening, Closing}
use Rattle.runtime_histories.specs.declared.entries.Reply.TheVariants.{Opened, Refused}
use Rattle.runtime_histories.specs.declared.refusals.Asked.TheVariants.{Good, Bad}
use Rattle.runtime_histories.specs.Deeds.{Deeds, Act, Mark, act, opens, closes, rests, Pair, Loaded, marks}
use Rattle.runtime_histories.specs.Entries.{deeds, deed_of, loaded_of}
use Rattle.runtime_histories.specs.Legal.{IsNext, Legal, LegalFrom, absent_among, loaded_modules}
use Rattle.runtime_histories.specs.Places.{Placed, among, place_loads, place_deed, places}
use Rattle.runtime_histories.specs.Residence.{resident}
use Rattle.runtime_histories.specs.Settings.{Setting}
use Rattle.runtime_histories.specs.Sound.{IsSound}
use Rattle.runtime_histories.proofs.Legality.{deeds-snoc, sound_first, sound_next}
use Rattle.runtime_histories.proofs.Pinning.{places-snoc}
use Rattle.module_counts.proofs.Living.{marks_rests}
use Rattle.conversion_book.proofs.Residing.{resident_opens, resident_closes}
use Rattle.desk_openings.specs.Parts.{place_of, IsThere}
use Rattle.desk_openings.proofs.Lists.{cases, absent_there, place_filter, there_loads}

-- Each resident module has a place.
abbrev pub HasPlaces : ℕ → Deeds → Type 0
HasPlaces pages log = (m : ℕ) → resident (marks log) m ≡ true → IsThere (place_of (places pages log) m)

-- A deed leaves places where what becomes resident has one before residence is asked for.
step : (pages : ℕ) (b : Deeds) (a : Act) → ((m : ℕ) → resident (marks (b ++ a ∷ [])) m ≡ true → IsThere (place_of (place_deed pages a.deed (places pages b)) m)) → HasPlaces pages (b ++ a ∷ [])
step pages b a h m r = subst (λ (xs : List Placed). IsThere (place_of xs m)) (sym (places-snoc pages b a))
    (subst IsThere (sym (place_filter (resident (marks (b ++ a ∷ []))) m (place_deed pages a.deed (places pages b)) r)) (h m r))

-- So it is behind an opening that loads what is absent.
pub opens_there : (pages : ℕ) (b : Deeds) (ms : List ℕ) (l : List Loaded) → HasPlaces pages b → loaded_modules l ≡ absent_among b ms → (m : ℕ) → (among m ms ≡ true) ⊎ (resident (marks b) m ≡ true)
    → IsThere (place_of (place_loads pages l (places pages b)) m)
opens_there pages b ms l has is m h = ⊎_elim
    (λ r. there_loads pages m l (places pages b) (inl (has m r)))
    (λ r. ⊎_elim (λ e. there_loads pages m l (places pages b) (inr (ap (among m) is ∙ absent_there b m ms e r)))
    (λ e. absurd (true≢false (sym e ∙ r))) h)
    (cases (resident (marks b) m))

next : (s : Setting) (b : List Entry) (c : ℕ) (v : Event) → IsSound s.first.graph (deeds b) → IsNext s b c v → HasPlaces s.pages (deeds b) → HasPlaces s.pages (deeds b ++ act c (deed_of v) ∷ [])
next s b c (Opening (Bad f) (Bad g) reply) sound k has = step s.pages (deeds b) (act c rests) (λ m r. has m (ap (λ (z : List Mark). resident z m) (sym (marks_rests (deeds b) c)) ∙ r))
next s b c (Opening (Bad f) (Good to) reply) sound k has = step s.pages (deeds b) (act c rests) (λ m r. has m (ap (λ (z : List Mark). resident z m) (sym (marks_rests (deeds b) c)) ∙ r))
next s b c (Opening (Good from) (Bad f) reply) sound k has = step s.pages (deeds b) (act c rests) (λ m r. has m (ap (λ (z : List Mark). resident z m) (sym (marks_rests (deeds b) c)) ∙ r))
next s b c (Opening (Good from) (Good to) (Refused why)) sound k has = step s.pages (deeds b) (act c rests) (λ m r. has m (ap (λ (z : List Mark). resident z m) (sym (marks_rests (deeds b) c)) ∙ r))
next s b c (Opening (Good from) (Good to) (Opened chain cost loads modules)) sound k has =
    let p : Pair = record { generation = 0; from = from; to = to } in
    let o = k.2 in
    step s.pages (deeds b) (act c (opens p modules.value (map loaded_of loads)))
    (λ m r. opens_there s.pages (deeds b) modules.value (map loaded_of loads) has (o.absent_is ∙ (o.route.missing ∙ ap (absent_among (deeds b)) (sym o.modules_is))) m
    (resident_opens (deeds b) c p modules.value (map loaded_of loads) m r))
next s b c (Closing n) sound k has = step s.pages (deeds b) (act c (closes n)) (λ m r. has m (resident_closes (deeds b) sound.balanced c n k m r))

from : (s : Setting) (b es : List Entry) → IsSound s.first.graph (deeds b) → LegalFrom s b es → HasPlaces s.pages (deeds b) → HasPlaces s.pages (deeds (b ++ es))
from s b [] sound k has = subst (λ (z : List Entry). HasPlaces s.pages (deeds z)) (sym (nil b)) has
  where
    nil : (xs : List Entry) → xs ++ [] ≡ xs
    nil [] = refl
    nil (x ∷ xs) = ap (λ (z : List Entry). x ∷ z) (nil xs)
from s b (e ∷ es) sound k has =
    subst (λ (z : List Entry). HasPlaces s.pages (deeds z)) (assoc b)
    (from s (b ++ e ∷ []) es (sound_next s b e sound k.0) k.1 (subst (HasPlaces s.pages) (sym (deeds-snoc b e)) (next s b e.caller e.event sound k.0 has)))
  where
    assoc : (xs : List Entry) → (xs ++ e ∷ []) ++ es ≡ xs ++ e ∷ es
    assoc [] = refl
    assoc (x ∷ xs) = ap (λ (z : List Entry). x ∷ z) (assoc xs)

-- After a legal history each resident module has a place.
pub legal_places : (s : Setting) (es : List Entry) → Legal s es → HasPlaces s.pages (deeds es)
legal_places s es k = from s [] es (sound_first s.first.graph) k (λ m e. absurd (true≢false (sym e)))
