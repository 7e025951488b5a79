-- A caller's own entries in a history.
use Rattle.std.proofs.Common.{◌≡◌, ◌≢◌, ◌⊎◌, ℕ, ◌+◌, eqb, Bool, true, false, cond, List, [], ◌∷◌, ◌++◌, length, sym, refl, ap, ◌∙◌, subst, ne_eqb, eq-eqb, append-nil, inl, inr}
use Rattle.std.specs.List.{AllByRecursion}
use Rattle.history_core.specs.History.{History, EachNumber, Grows}
use Rattle.runtime_histories.specs.declared.entries.Entry.{Entry}
use Rattle.runtime_room.specs.Apart.{all_split}
use Rattle.runtime_room.specs.Held.{entries-append}
use Rattle.runtime_room.specs.Rooms.{IsOwn, entries_of}
use Rattle.runtime_room.specs.declared.desk.Noted.{Noted}
use Rattle.batch_runs.specs.Histories.{Placed, placed_from, own}
use Rattle.batch_runs.specs.Shares.{placed}
use Rattle.batch_runs.proofs.Pairing.{placed-append}
use Rattle.batch_workers.specs.Parts.{Part}
use Rattle.batch_gconv.specs.Callers.{part_at}

own-append : (n : ℕ) (ps qs : List Placed) → own n (ps ++ qs) ≡ own n ps ++ own n qs
own-append n [] qs = refl
own-append n (p ∷ ps) qs = go (eqb p.entry.caller n) (own-append n ps qs)
  where
    go : (b : Bool) → own n (ps ++ qs) ≡ own n ps ++ own n qs → cond b (p ∷ own n (ps ++ qs)) (own n (ps ++ qs)) ≡ cond b (p ∷ own n ps) (own n ps) ++ own n qs
    go true e = ap (λ (z : List Placed). p ∷ z) e
    go false e = e

own_others : (n k : ℕ) (rest : History Noted) → AllByRecursion IsOwn rest → EachNumber (λ m. m ≢ n) rest → own n (placed_from k (entries_of rest)) ≡ []
own_others n k [] mine none = refl
own_others n k (e ∷ es) mine none =
    ap (λ (b : Bool). cond b (placed k e.1.entry.value ∷ own n (placed_from (k + 1) (entries_of es))) (own n (placed_from (k + 1) (entries_of es)))) (ne_eqb e.1.entry.value.caller n (λ z. none.0 (sym mine.0 ∙ z)))
    ∙ own_others n (k + 1) es mine.1 none.1

own_split : (n : ℕ) (log rest : History Noted) → own n (placed_from 0 (entries_of (log ++ rest))) ≡ own n (placed_from 0 (entries_of log)) ++ own n (placed_from (0 + length (entries_of log)) (entries_of rest))
own_split n log rest =
    ap (λ (z : List Entry). own n (placed_from 0 z)) (entries-append log rest)
    ∙ (ap (own n) (placed-append 0 (entries_of log) (entries_of rest)) ∙ own-append n (placed_from 0 (entries_of log)) (placed_from (0 + length (entries_of log)) (entries_of rest)))

-- What others add leaves a caller's own entries.
pub own_grown : (n : ℕ) (log seen : History Noted) → AllByRecursion IsOwn seen → Grows n log seen → own n (placed_from 0 (entries_of seen)) ≡ own n (placed_from 0 (entries_of log))
own_grown n log seen mine grows =
    let rest : History Noted = grows.0 in
    let split = all_split IsOwn log rest (subst (AllByRecursion IsOwn) grows.1 mine) in
    let before : List Placed = own n (placed_from 0 (entries_of log)) in
    ap (λ (z : History Noted). own n (placed_from 0 (entries_of z))) grows.1
    ∙ (own_split n log rest ∙ (ap (λ (z : List Placed). before ++ z) (own_others n (0 + length (entries_of log)) rest split.1 grows.2) ∙ append-nil before))

own_one : (n k : ℕ) (e : Entry) → e.caller ≡ n → own n (placed k e ∷ []) ≡ placed k e ∷ []
own_one n k e is = ap (λ (b : Bool). cond b (placed k e ∷ []) []) (eq-eqb e.caller n is)

-- An entry of its own is one more.
pub own_more : (n : ℕ) (log seen after : History Noted) (e : Noted) → after ≡ seen ++ (n, e) ∷ [] → AllByRecursion IsOwn after → Grows n log seen
    → own n (placed_from 0 (entries_of after)) ≡ own n (placed_from 0 (entries_of log)) ++ placed (0 + length (entries_of seen)) e.entry.value ∷ []
own_more n log seen after e ends mine grows =
    let split = all_split IsOwn seen ((n, e) ∷ []) (subst (AllByRecursion IsOwn) ends mine) in
    let at : ℕ = 0 + length (entries_of seen) in
    ap (λ (z : History Noted). own n (placed_from 0 (entries_of z))) ends
    ∙ (own_split n seen ((n, e) ∷ [])
    ∙ (λ i. own_grown n log seen split.0 grows i ++ own_one n at e.entry.value split.1.0 i))

-- A number without entries has none of its own.
pub own_none : (n : ℕ) (log : History Noted) → AllByRecursion IsOwn log → EachNumber (λ m. m ≢ n) log → own n (placed_from 0 (entries_of log)) ≡ []
own_none n log mine none = own_others n 0 log mine none
