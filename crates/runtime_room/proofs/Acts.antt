-- What one entry more keeps.
use Rattle.std.proofs.Common.{◌≡◌, ◌⊎◌, ℕ, ◌+◌, List, [], ◌∷◌, ◌++◌, Some, sym, ap, ◌∙◌, subst, arith, inl, inr, ⊎_elim}
use Rattle.std.specs.List.{filter, AllByRecursion}
use Rattle.std.specs.declared.vec.Vec.{Vec}
use Rattle.std.specs.declared.alloc.Global.{Global}
use Rattle.code_table.specs.declared.layout.Layout.{Layout}
use Rattle.history_core.specs.History.{History}
use Rattle.history_core.specs.Rule.{last_fill}
use Rattle.runtime_histories.specs.declared.entries.Entry.{Entry}
use Rattle.runtime_histories.specs.Deeds.{Act, act, Deed, marks}
use Rattle.runtime_histories.specs.Entries.{deed_of, deeds}
use Rattle.runtime_histories.specs.Legal.{Legal, Next}
use Rattle.runtime_histories.specs.Pins as pins
use Rattle.runtime_histories.specs.Places.{Placed, place_deed, places}
use Rattle.runtime_histories.specs.Residence.{resident}
use Rattle.runtime_histories.proofs.Legality.{Legal-snoc, deeds-snoc}
use Rattle.runtime_histories.proofs.Pinning.{places-snoc}
use Rattle.runtime_room.specs.Apart.{all_join, all_filter}
use Rattle.runtime_room.specs.Desks.{blame, blamed_in, IsLaidOut}
use Rattle.runtime_room.specs.Grounds.{Ground}
use Rattle.runtime_room.specs.Held.{ordered, entries-append}
use Rattle.runtime_room.specs.Rooms.{IsHistory, IsOwn, LoadsPoints, entries_of, deeds_of, pinned}
use Rattle.runtime_room.specs.declared.desk.Noted.{Noted}
use Rattle.runtime_room.proofs.Covering.{DeedPut, covered_next}

pub entries-snoc : (log : History Noted) (n : ℕ) (e : Noted) → entries_of (log ++ (n, e) ∷ []) ≡ entries_of log ++ e.entry.value ∷ []
entries-snoc log n e = entries-append log ((n, e) ∷ [])

-- The deeds of one entry more.
pub deeds_of-snoc : (log : History Noted) (n : ℕ) (e : Noted) → deeds_of (log ++ (n, e) ∷ []) ≡ deeds_of log ++ act e.entry.value.caller (deed_of e.entry.value.event) ∷ []
deeds_of-snoc log n e = ap deeds (entries-snoc log n e) ∙ deeds-snoc (entries_of log) e.entry.value

-- A history with an entry that is legal next is one.
pub history_next : (g : Ground) (log : History Noted) (n : ℕ) (e : Noted) → IsHistory g log → Next g.setting (entries_of log) e.entry.value → e.entry.value.caller ≡ n
    → LoadsPoints (deed_of e.entry.value.event) → IsHistory g (log ++ (n, e) ∷ [])
history_next g log n e h next own points = record {
  ground = h.ground;
  legal = subst (Legal g.setting) (sym (entries-snoc log n e)) (Legal-snoc g.setting (entries_of log) e.entry.value h.legal next);
  own = all_join IsOwn log ((n, e) ∷ []) h.own (own, tt);
  points = subst (AllByRecursion (λ (a : Act). LoadsPoints a.deed)) (sym (deeds_of-snoc log n e))
      (all_join (λ (a : Act). LoadsPoints a.deed) (deeds_of log) (act e.entry.value.caller (deed_of e.entry.value.event) ∷ []) h.points (points, tt));
}

-- What is pinned after the entry was pinned before, or was put into its place in the turn.
pub covered_entry : (g : Ground) (log : History Noted) (n : ℕ) (e : Noted) (fills : List (ℕ × ℕ)) → IsHistory g log → Next g.setting (entries_of log) e.entry.value
    → LoadsPoints (deed_of e.entry.value.event) → DeedPut g.setting.pages (places g.setting.pages (deeds_of log)) fills (deed_of e.entry.value.event)
    → (m p w : ℕ) → pinned g (log ++ (n, e) ∷ []) m p ≡ Some w → ((j : ℕ) × (pinned g log j p ≡ Some w)) ⊎ (last_fill p fills ≡ Some w)
covered_entry g log n e fills h next points put m p w is =
    ⊎_elim (λ z. inl (0, z)) (λ z. inr z)
    (covered_next g.setting (entries_of log) e.entry.value fills (ordered g log h) next points put m p w (ap (λ (z : List Entry). pins.pinned g.setting.pages (deeds z) m p) (sym (entries-snoc log n e)) ∙ is))

-- A deed that loads nothing.
abbrev pub LoadsNone : ℕ → Deed → Type 0
LoadsNone pages v = (held : List Placed) → place_deed pages v held ≡ held

-- The parts of page images that are kept are still those of resident tables.
pub laid_out_next : (pages : ℕ) (ls : List (Vec Layout Global)) (log : History Noted) (n : ℕ) (e : Noted) → LoadsNone pages (deed_of e.entry.value.event)
    → AllByRecursion (IsLaidOut ls) (places pages (deeds_of log)) → AllByRecursion (IsLaidOut ls) (places pages (deeds_of (log ++ (n, e) ∷ [])))
laid_out_next pages ls log n e none all =
    let a : Act = act e.entry.value.caller (deed_of e.entry.value.event) in
    subst (AllByRecursion (IsLaidOut ls)) (sym (ap (places pages) (deeds_of-snoc log n e) ∙ (places-snoc pages (deeds_of log) a
    ∙ ap (filter (λ (x : Placed). resident (marks (deeds_of log ++ a ∷ [])) x.«module»)) (none (places pages (deeds_of log))))))
    (all_filter (IsLaidOut ls) (λ (x : Placed). resident (marks (deeds_of log ++ a ∷ [])) x.«module») (places pages (deeds_of log)) all)

-- How often one entry more blames the library.
pub blame-snoc : (es : List Entry) (e : Entry) → blame (es ++ e ∷ []) ≡ blame es + blamed_in e.event
blame-snoc [] e = omega arith
blame-snoc (x ∷ es) e = let r = blame-snoc es e in omega arith
