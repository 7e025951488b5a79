-- Openings follow a journal.
use Rattle.std.proofs.Common.{◌≡◌, ℕ, List, [], None, map, refl, sym, ap, ◌∙◌, subst}
use Rattle.runtime_histories.specs.declared.entries.Reply.{Reply}
use Rattle.runtime_histories.specs.declared.entries.Reply.TheVariants.{Opened, Refused}
use Rattle.runtime_histories.specs.declared.refusals.Asked.{Asked}
use Rattle.runtime_histories.specs.declared.refusals.Asked.TheVariants.{Good, Bad}
use Rattle.runtime_histories.specs.declared.refusals.Refusal.{Refusal}
use Rattle.runtime_histories.specs.Entries.{deeds, loaded_of}
use Rattle.runtime_histories.specs.Places.{places}
use Rattle.module_counts.specs.Admitting.{success_by, places_of}
use Rattle.module_counts.specs.Counting.{Booked, Follows}
use Rattle.module_counts.specs.Stocks.{places_for}
use Rattle.pair_openings.specs.Answers.{reply_of}
use Rattle.pair_openings.specs.Entered.{entry_of, IsNextIn}
use Rattle.pair_openings.specs.declared.planning.Opening.{Opening}

no_success : (from to : Asked) (why : Refusal) → success_by 0 from to (Refused why) ≡ None
no_success (Good from) (Good to) why = refl
no_success (Good from) (Bad f) why = refl
no_success (Bad f) to why = refl

-- A refusal that is legal next may be entered, and has no places.
pub refusal_follows : (c : Booked) (caller : ℕ) (from to : Asked) (why : Refusal) (ps : List (List ℕ)) → ps ≡ [] → IsNextIn c from to (Refused why) → Follows c (entry_of caller from to (Refused why)) ps
refusal_follows c caller from to why ps none h = record {
  opening = tt;
  setting = h.setting;
  of = h.of;
  next = h.answered;
  placed = none ∙ ap (places_of c.pages (deeds c.journal)) (sym (no_success from to why));
}

-- what is a chain's reply
abbrev IsChain : Reply → Type 0
IsChain (Opened chain cost loads modules) = Unit {0}
IsChain (Refused why) = ⊥

opening_places : (c : Booked) (from to : Asked) (o : Opening) (ps : List (List ℕ)) → (h : IsNextIn c from to (reply_of o)) → ps ≡ places_for c.pages (map loaded_of o.loads.items) (places c.pages (deeds c.journal))
    → ps ≡ places_of c.pages (deeds c.journal) (success_by 0 from to (reply_of o))
opening_places c (Good from) (Good to) o ps h e = e
opening_places c (Good from) (Bad f) o ps h e = absurd (subst IsChain h.answered.2 tt)
opening_places c (Bad f) (Good to) o ps h e = absurd (subst IsChain h.answered.2 tt)
opening_places c (Bad f) (Bad g) o ps h e = absurd (subst IsChain h.answered.2 tt)

-- An opening that is legal next may be entered with its places.
pub opening_follows : (c : Booked) (caller : ℕ) (from to : Asked) (o : Opening) (ps : List (List ℕ)) → (h : IsNextIn c from to (reply_of o)) → ps ≡ places_for c.pages (map loaded_of o.loads.items) (places c.pages (deeds c.journal))
    → Follows c (entry_of caller from to (reply_of o)) ps
opening_follows c caller from to o ps h e = record {
  opening = tt;
  setting = h.setting;
  of = h.of;
  next = h.answered;
  placed = opening_places c from to o ps h e;
}
