-- What is handed out at the end.
use Rattle.std.proofs.Common.{◌≡◌, ◌⊎◌, ℕ, ◌+◌, Bool, List, [], ◌∷◌, ◌++◌, Option, Some, None, sym, refl, ap, ◌∙◌, subst, arith, inl, inr, ⊎_elim}
use Rattle.std.specs.List.{AllByRecursion}
use Rattle.std.specs.Option.{option_map}
use Rattle.history_core.specs.History.{History, EachNumber, EachEnd, Ends, HasEnd, AreEnded, Grows}
use Rattle.outside.specs.Faults.{RoseBy}
use Rattle.outside.specs.Moments.{Holdings}
use Rattle.runtime_histories.specs.declared.entries.Entry.{Entry}
use Rattle.runtime_histories.specs.declared.entries.Event.{Event}
use Rattle.runtime_histories.specs.declared.entries.Event.TheVariants.{Opening, Closing}
use Rattle.runtime_histories.specs.declared.entries.Reply.{Reply}
use Rattle.runtime_histories.specs.declared.entries.Reply.TheVariants.{Opened, Refused}
use Rattle.runtime_histories.specs.declared.refusals.Refusal.{Refusal}
use Rattle.runtime_histories.specs.declared.refusals.Refusal.TheVariants.{BadName, NoConversion, LibraryFault, NoCharmap, BadCharmap, StoreFull, JournalFull, Memory}
use Rattle.runtime_histories.specs.Fetches.{FetchesLoose}
use Rattle.runtime_histories.specs.Legal.{Legal}
use Rattle.runtime_room.specs.Desks.{HasAsked, blame, blamed_in, blames}
use Rattle.runtime_room.specs.Grounds.{Ground}
use Rattle.runtime_room.specs.Rooms.{IsHistory, IsOwn, entries_of}
use Rattle.runtime_room.specs.declared.desk.Noted.{Noted}
use Rattle.batch_jobs.specs.Jobs.{Text}
use Rattle.batch_runs.specs.Histories.{told_fault, told_faults, refusal_in}
use Rattle.batch_runs.specs.Meanings.{AskedSince, library_fault}
use Rattle.batch_workers.specs.Parts as parts
use Rattle.batch_workers.specs.Parts.{Part, HasNumber, AreOf, HaveOwn}
use Rattle.batch_gconv.specs.Callers.{base_at, parts_at}
use Rattle.batch_gconv.proofs.Own.{own_grown}

-- A refusal blames the library as often as it tells a fault of it.
blames_told : (why : Refusal) → blames why ≡ library_fault why
blames_told (BadName which f) = refl
blames_told NoConversion = refl
blames_told (LibraryFault m w) = refl
blames_told (NoCharmap m w) = refl
blames_told (BadCharmap m w f) = refl
blames_told (StoreFull n l) = refl
blames_told (JournalFull n) = refl
blames_told Memory = refl

none_before : (a b : ℕ) → a ≡ b → 0 + a ≡ b
none_before a b e = omega (arith, e)

event_told : (caller : ℕ) (v : Event) (es : List Entry) → blame es ≡ told_faults es → blamed_in v + blame es ≡ told_faults (record { caller = caller; event = v } ∷ es)
event_told c (Opening from to (Opened chain cost loads modules)) es e = λ i. 0 + e i
event_told c (Opening from to (Refused why)) es e = λ i. blames_told why i + e i
event_told c (Closing number) es e = none_before (blame es) (told_faults es) e

blame_told : (es : List Entry) → blame es ≡ told_faults es
blame_told [] = refl
blame_told (e ∷ es) = event_told e.caller e.event es (blame_told es)

own_ended : (log : History Noted) (es : Ends Noted) → AllByRecursion IsOwn log → AreEnded es log → HaveOwn (entries_of log) (parts_at es)
own_ended log [] mine ended = tt
own_ended log (x ∷ xs) mine ended = (own_grown x.0 x.1 log mine ended.0, own_ended log xs mine ended.1)

has_number : (es : Ends Noted) (n : ℕ) → HasEnd es n → HasNumber (parts_at es) n
has_number [] n h = h
has_number (x ∷ xs) n (inl e) = inl e
has_number (x ∷ xs) n (inr h) = inr (has_number xs n h)

of_ended : (es : Ends Noted) (log : History Noted) → AllByRecursion IsOwn log → EachNumber (HasEnd es) log → AreOf (parts_at es) (entries_of log)
of_ended es [] mine all = tt
of_ended es (e ∷ log) mine all = (subst (HasNumber (parts_at es)) (sym mine.0) (has_number es e.0 all.0), of_ended es log mine.1 all.1)

asked_more : (F : List Text → Type 0) (p q : Option (List Text)) (more : List Text) → q ≡ option_map (λ asked. asked ++ more) p → F more → AskedSince F p q
asked_more F None q more is f = subst (AskedSince F None) (sym is) tt
asked_more F (Some p) q more is f = subst (AskedSince F (Some p)) (sym is) (more, refl, f)

-- What a runtime hands out, all of whose callers were ended.
pub ends_all : (gr : Ground) (log : History Noted) (es : Ends Noted) (left : Holdings) (journal : List Entry) → journal ≡ entries_of log → IsHistory gr log → AreEnded es log → EachNumber (HasEnd es) log
    → RoseBy (blame (entries_of log)) gr.handed.faults left.faults → HasAsked gr.setting (entries_of log) gr.handed left → parts.Ends (base_at gr) (parts_at es) left journal
ends_all gr log es left journal is h ended all rose asked = subst (parts.Ends (base_at gr) (parts_at es) left) (sym is) (record {
  legal = h.legal;
  own = own_ended log es h.own ended;
  whose = of_ended es log h.own all;
  told = asked.asked.told;
  faults = subst (λ (k : ℕ). RoseBy k gr.handed.faults left.faults) (blame_told (entries_of log)) rose;
  asked = asked_more (FetchesLoose gr.setting (entries_of log)) gr.handed.paths left.paths asked.more asked.asked.paths asked.fetched;
})
