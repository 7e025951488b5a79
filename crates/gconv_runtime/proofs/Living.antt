-- What a caller has that has no entry, and what a runtime begins with.
use Rattle.std.proofs.Common.{◌≡◌, ◌≢◌, ℕ, suc, eqb, Bool, not, ◌&&◌, cond, List, [], ◌∷◌, ◌++◌, length, sym, refl, ap, ◌∙◌, subst, ne_eqb, arith}
use Rattle.std.specs.List.{filter, AllByRecursion}
use Rattle.derivation_cache.specs.Known.{none_known}
use Rattle.outside.specs.Faults.{RoseBy}
use Rattle.outside.specs.Moments.{Holdings}
use Rattle.history_core.specs.History.{History, EachNumber}
use Rattle.runtime_histories.specs.Deeds.{Deed, opens, closes, rests, Deeds, Desc, opened, openings, closed}
use Rattle.runtime_histories.specs.Pins.{live_of}
use Rattle.runtime_room.specs.Desks.{IsDeskOf, HasAsked, ground_of}
use Rattle.runtime_room.specs.Rooms.{IsOwn, deeds_of}
use Rattle.runtime_room.specs.declared.desk.Desk.{Desk}
use Rattle.runtime_room.proofs.Asking.{asked_first}
use Rattle.runtime_room.specs.declared.desk.Noted.{Noted}

none_opened : (n k c : ℕ) (v : Deed) (all : Deeds) (ds : List Desc) → c ≢ n → filter (λ d. eqb d.caller n && not (closed d.number all)) (opened k c v ++ ds)
    ≡ filter (λ d. eqb d.caller n && not (closed d.number all)) ds
none_opened n k c (opens p ms l) all ds ne =
    ap (λ (b : Bool). cond (b && not (closed k all)) (record { number = k; caller = c; pair = p; modules = ms } ∷ filter (λ (d : Desc). eqb d.caller n && not (closed d.number all)) ds) (filter (λ (d : Desc). eqb d.caller n && not (closed d.number all)) ds)) (ne_eqb c n ne)
none_opened n k c (closes j) all ds ne = refl
none_opened n k c rests all ds ne = refl

none_from : (n k : ℕ) (log : History Noted) (all : Deeds) → AllByRecursion IsOwn log → EachNumber (λ m. m ≢ n) log → filter (λ d. eqb d.caller n && not (closed d.number all)) (openings k (deeds_of log)) ≡ []
none_from n k [] all own none = refl
none_from n k (e ∷ es) all own none = none_opened n k e.1.entry.value.caller _ all (openings (suc k) (deeds_of es)) (λ z. none.0 (sym own.0 ∙ z)) ∙ none_from n (suc k) es all own.1 none.1

-- A number with no entry has no live descriptor.
pub none_live : (n : ℕ) (log : History Noted) → AllByRecursion IsOwn log → EachNumber (λ m. m ≢ n) log → live_of n (deeds_of log) ≡ []
none_live n log own none = none_from n 0 log (deeds_of log) own none

pub live_none : (n count : ℕ) (ds : List Desc) → count ≡ length ds → count ≡ 0 → ds ≡ []
live_none n count [] e z = refl
live_none n count (d ∷ ds) e z = absurd (let q = e in omega arith)

rose_none : (k : ℕ) → RoseBy 0 k k
rose_none k = omega arith

-- A desk whose library was handed in just now, and whose books have no entry, stands for the empty history.
pub first_stands : {L : Type 0} (holdings : L → Holdings) (desk : Desk L) → desk.counts.journal ≡ [] → desk.counts.graph ≡ desk.graph → desk.first.value ≡ desk.library → desk.cache ≡ none_known desk.graph → IsDeskOf holdings desk []
first_stands holdings desk journal graph first cache = record {
  journal = journal;
  graph = graph;
  layouts = tt;
  cache = cache;
  asked = subst (λ (h : Holdings). HasAsked (ground_of holdings desk).setting [] h (holdings desk.library)) (ap holdings (sym first)) (asked_first (ground_of holdings desk).setting (holdings desk.library));
  blamed = subst (λ (h : Holdings). RoseBy 0 h.faults (holdings desk.library).faults) (ap holdings (sym first)) (rose_none (holdings desk.library).faults);
}
