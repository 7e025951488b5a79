-- What is published after histories.
use Rattle.std.proofs.Common.{◌≡◌, ◌≤◌, ℕ, Bool, true, false, ◌||◌, cond, List, [], ◌∷◌, ◌++◌, length, Option, Some, None, sym, refl, ap, ◌∙◌, subst, arith, append_assoc}
use Rattle.std.proofs.Math.Dec.{ltb}
use Rattle.std.proofs.lemmas.Bool.{ltb-false}
use Rattle.std.specs.Prelude.{is_some}
use Rattle.std.specs.List.{find, list_any}
use Rattle.std.specs.Str.{bytes_eq}
use Rattle.std.proofs.lemmas.Slice.Eq.{bytes_eq-Decides}
use Rattle.derivation_cache.specs.Known.{Known, Extends, longer, none_known, and_pair, is_of, pair_of}
use Rattle.derivation_cache.specs.declared.pair.Pair.{Pair}
use Rattle.derivation_cache.proofs.Finding.{both}
use Rattle.derivation_cache.proofs.Keeps.{extends_same, extends_more}
use Rattle.history_core.specs.History.{History}
use Rattle.module_graph.specs.Graph.{Shape}
use Rattle.runtime_histories.specs.declared.entries.Entry.{Entry}
use Rattle.runtime_room.specs.Held.{entries-append}
use Rattle.runtime_room.specs.Published.{pair_in, with_pair, published_after, published, is_named, has_opened}
use Rattle.runtime_room.specs.Rooms.{entries_of}
use Rattle.runtime_room.specs.declared.desk.Noted.{Noted}

extends_trans : (a b c : Known) → Extends b a → Extends c b → Extends c a
extends_trans a b c h k = record {
  same = k.same ∙ h.same;
  rest = h.rest ++ k.rest;
  is = k.is ∙ (ap (λ (z : List Pair). z ++ k.rest) h.is ∙ append_assoc a.pairs h.rest k.rest);
}

extends_with : (k : Known) (o : Option Pair) → Extends (with_pair k o) k
extends_with k None = extends_same k
extends_with k (Some p) = go (is_some (pair_of k p.from p.to))
  where
    go : (b : Bool) → Extends (cond b k (and_pair k p)) k
    go true = extends_same k
    go false = extends_more k p

-- After some entries more the same pairs are published, and maybe others behind them.
extends_after : (k : Known) (es : List Entry) → Extends (published_after k es) k
extends_after k [] = extends_same k
extends_after k (e ∷ es) =
    let m : Known = with_pair k (pair_in e.event) in
    extends_trans k m (published_after m es) (extends_with k (pair_in e.event)) (extends_after m es)

after-append : (k : Known) (xs ys : List Entry) → published_after k (xs ++ ys) ≡ published_after (published_after k xs) ys
after-append k [] ys = refl
after-append k (x ∷ xs) ys = after-append (with_pair k (pair_in x.event)) xs ys

published-append : (g : Shape) (front rest : History Noted) → published g (front ++ rest) ≡ published_after (published g front) (entries_of rest)
published-append g front rest = ap (published_after (none_known g)) (entries-append front rest) ∙ after-append (none_known g) (entries_of front) (entries_of rest)

-- What is published after a longer history begins with what is published after a shorter one.
pub published_extends : (g : Shape) (front rest : History Noted) → Extends (published g (front ++ rest)) (published g front)
published_extends g front rest = subst (λ (k : Known). Extends k (published g front)) (sym (published-append g front rest)) (extends_after (published g front) (entries_of rest))

-- It is of the graph.
pub published_graph : (g : Shape) (log : History Noted) → (published g log).graph ≡ g
published_graph g log = (extends_after (none_known g) (entries_of log)).same

-- One entry more publishes its pair.
pub published-snoc : (g : Shape) (log : History Noted) (n : ℕ) (e : Noted) → published g (log ++ (n, e) ∷ []) ≡ with_pair (published g log) (pair_in e.entry.value.event)
published-snoc g log n e = published-append g log ((n, e) ∷ [])

-- An entry that opens nothing publishes nothing.
pub published_still : (g : Shape) (log : History Noted) (n : ℕ) (e : Noted) → pair_in e.entry.value.event ≡ None → published g (log ++ (n, e) ∷ []) ≡ published g log
published_still g log n e none = published-snoc g log n e ∙ ap (with_pair (published g log)) none

or_false : (b : Bool) → (b || false) ≡ b
or_false true = refl
or_false false = refl

or_assoc : (a b c : Bool) → ((a || b) || c) ≡ (a || (b || c))
or_assoc true b c = refl
or_assoc false b c = refl

some_found : (q : Pair → Bool) (xs : List Pair) (p : Pair) → is_some (find q (xs ++ p ∷ [])) ≡ (is_some (find q xs) || q p)
some_found q [] p = last (q p)
  where
    last : (b : Bool) → is_some (cond b (Some p) None) ≡ b
    last true = refl
    last false = refl
some_found q (x ∷ xs) p = go (q x) (some_found q xs p)
  where
    go : (b : Bool) → is_some (find q (xs ++ p ∷ [])) ≡ (is_some (find q xs) || q p) → is_some (cond b (Some x) (find q (xs ++ p ∷ []))) ≡ (is_some (cond b (Some x) (find q xs)) || q p)
    go true e = refl
    go false e = e

-- With a pair more there is a pair of these names where there was one, or where it is of these names.
with_found : (k : Known) (o : Option Pair) (from to : List ℕ) → is_some (pair_of (with_pair k o) from to) ≡ (is_some (pair_of k from to) || is_named from to o)
with_found k None from to = sym (or_false (is_some (pair_of k from to)))
with_found k (Some p) from to = go (is_some (pair_of k p.from p.to)) refl
  where
    known : is_some (pair_of k p.from p.to) ≡ true → is_of from to p ≡ true → is_some (pair_of k from to) ≡ true
    known h e =
        let two = both (bytes_eq p.from from) (bytes_eq p.to to) e in
        subst (λ (z : List ℕ). is_some (pair_of k from z) ≡ true) ((bytes_eq-Decides p.to to).0 two.1)
        (subst (λ (z : List ℕ). is_some (pair_of k z p.to) ≡ true) ((bytes_eq-Decides p.from from).0 two.0) h)

    there : is_some (pair_of k p.from p.to) ≡ true → (b : Bool) → is_of from to p ≡ b → is_some (pair_of k from to) ≡ (is_some (pair_of k from to) || b)
    there h true e = let a = known h e in a ∙ sym (ap (λ (x : Bool). x || true) a)
    there h false e = sym (or_false (is_some (pair_of k from to)))

    go : (b : Bool) → is_some (pair_of k p.from p.to) ≡ b → is_some (pair_of (cond b k (and_pair k p)) from to) ≡ (is_some (pair_of k from to) || is_of from to p)
    go true h = there h (is_of from to p) refl
    go false h = some_found (is_of from to) k.pairs p

after_found : (k : Known) (es : List Entry) (from to : List ℕ) → is_some (pair_of (published_after k es) from to) ≡ (is_some (pair_of k from to) || list_any (λ (e : Entry). is_named from to (pair_in e.event)) es)
after_found k [] from to = sym (or_false (is_some (pair_of k from to)))
after_found k (e ∷ es) from to =
    let rest : Bool = list_any (λ (x : Entry). is_named from to (pair_in x.event)) es in
    after_found (with_pair k (pair_in e.event)) es from to
    ∙ (ap (λ (b : Bool). b || rest) (with_found k (pair_in e.event) from to)
    ∙ or_assoc (is_some (pair_of k from to)) (is_named from to (pair_in e.event)) rest)

-- A pair is published exactly where it was opened.
pub published_opened : (g : Shape) (log : History Noted) (from to : List ℕ) → is_some (pair_of (published g log) from to) ≡ has_opened from to log
published_opened g log from to = after_found (none_known g) (entries_of log) from to

no_rest : (xs ys : List Pair) → length (xs ++ ys) ≤ length xs → xs ≡ xs ++ ys
no_rest [] [] le = refl
no_rest [] (y ∷ ys) le = absurd (omega arith)
no_rest (x ∷ xs) ys le = ap (λ (z : List Pair). x ∷ z) (no_rest xs ys (omega arith))

-- A view that learns of what extends what it has learnt knows that.
pub learnt : (k before : Known) → Extends k before → longer before k ≡ k
learnt k before h = go (ltb (length before.pairs) (length k.pairs)) refl
  where
    same : length k.pairs ≤ length before.pairs → before ≡ k
    same le =
        let e : before.pairs ≡ k.pairs = no_rest before.pairs h.rest (let z = ap length h.is in omega arith) ∙ sym h.is in
        λ i. record { graph = sym h.same i; pairs = e i }

    go : (b : Bool) → ltb (length before.pairs) (length k.pairs) ≡ b → cond b k before ≡ k
    go true e = refl
    go false e = same (ltb-false (length before.pairs) (length k.pairs) e)
