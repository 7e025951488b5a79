-- Searching and putting in lists in the order of names.
use Rattle.std.proofs.Common.{◌≡◌, ℕ, ◌+◌, arith, length, Bool, true, false, ◌&&◌, cond, List, [], ◌∷◌, ◌++◌, Option, Some, None, is_some, refl, sym, ap, ◌∙◌, subst, true≢false, find}
use Rattle.std.specs.List.{AllByRecursion}
use Rattle.std.specs.Str.{bytes_eq}
use Rattle.std.specs.Ordering.{nat_cmp, ordering_then, ordering_reverse, is_lt, is_eq, is_gt, on, then_cmp}
use Rattle.std.specs.Cmp.{IsTotalOrder}
use Rattle.std.specs.Cmp.Lexicographic.{slice_cmp}
use Rattle.std.specs.declared.cmp.Ordering.{Ordering}
use Rattle.std.specs.declared.cmp.Ordering.TheVariants.{Less, Equal, Greater}
use Rattle.std.proofs.lemmas.Cmp.{nat_list_cmp_total, on_total, then_total, tied_itself}
use Rattle.std.proofs.lemmas.Map.Lookups.{exact_bytes}
use Rattle.std.proofs.lemmas.List.Folds.{find-append}
use Rattle.std.specs.Option.{option_or}
use Rattle.std.proofs.lemmas.Slice.Eq.{bytes_eq-Decides}
use Rattle.derivation_cache.specs.declared.pair.Pair.{Pair}
use Rattle.std.proofs.lemmas.List.Elements.{All-nil, All-push}
use Rattle.module_graph.specs.Graph.{Shape, IsGraph}
use Rattle.derivation_cache.specs.Known.{Known, IsLeastPair, is_of, and_pair, none_known}
use Rattle.derivation_cache.specs.Trees.{names_order, put, IsRising, Serves, Lists}
use Rattle.derivation_cache.proofs.Finding.{both}

abbrev Names : Type 0
Names = List ℕ × List ℕ

abbrev first : Names → List ℕ
first n = n.0

abbrev second : Names → List ℕ
second n = n.1

abbrev order : Names → Names → Ordering
order = then_cmp (on first (slice_cmp nat_cmp)) (on second (slice_cmp nat_cmp))

order_total : IsTotalOrder order
order_total = then_total (on_total first nat_list_cmp_total) (on_total second nat_list_cmp_total)

abbrev key : Pair → Names
key p = (p.from, p.to)

-- how two pairs stand to each other
abbrev beside : Pair → Pair → Ordering
beside p q = names_order p.from p.to q

beside_back : (p q : Pair) → beside p q ≡ ordering_reverse (beside q p)
beside_back p q = order_total.antisymm (key p) (key q)

beside_on : (p q r : Pair) → beside p q ≡ Less → beside q r ≡ Less → beside p r ≡ Less
beside_on p q r = order_total.trans (key p) (key q) (key r)

-- ---- pairs of some names

is_key : (from to : List ℕ) (p : Pair) → is_of from to p ≡ true → (from ≡ p.from) × (to ≡ p.to)
is_key from to p e =
    let two = both (bytes_eq p.from from) (bytes_eq p.to to) e in
    (sym ((bytes_eq-Decides p.from from).0 two.0), sym ((bytes_eq-Decides p.to to).0 two.1))

-- what is true of the order of a pair is true of that of its names
at_key : (from to : List ℕ) (p q : Pair) → is_of from to p ≡ true → names_order from to q ≡ beside p q
at_key from to p q e = let k = is_key from to p e in ap (λ f. names_order f to q) k.0 ∙ ap (λ t. names_order p.from t q) k.1

equal_names : (a b : Ordering) → ordering_then a b ≡ Equal → (a ≡ Equal) × (b ≡ Equal)
equal_names Less b e = absurd (true≢false (ap is_lt e))
equal_names Equal b e = (refl, e)
equal_names Greater b e = absurd (true≢false (ap is_gt e))

both_true : (a b : Bool) → a ≡ true → b ≡ true → (a && b) ≡ true
both_true a b e f = ap (λ x. x && b) e ∙ f

equal_is : (from to : List ℕ) (p : Pair) → names_order from to p ≡ Equal → is_of from to p ≡ true
equal_is from to p e =
    let two = equal_names (slice_cmp nat_cmp from p.from) (slice_cmp nat_cmp to p.to) e in
    both_true (bytes_eq p.from from) (bytes_eq p.to to) ((bytes_eq-Decides p.from from).1 (sym (exact_bytes from p.from two.0))) ((bytes_eq-Decides p.to to).1 (sym (exact_bytes to p.to two.1)))

false_unless : (b : Bool) → (b ≡ true → ⊥) → b ≡ false
false_unless true f = absurd (f refl)
false_unless false f = refl

beside_itself : (p : Pair) → beside p p ≡ Equal
beside_itself p = tied_itself order_total (key p)

-- names that stand apart from a pair aren't its names
apart : (from to : List ℕ) (p : Pair) → is_eq (names_order from to p) ≡ false → is_of from to p ≡ false
apart from to p h = false_unless (is_of from to p) (λ e. true≢false (sym (ap is_eq (at_key from to p p e ∙ beside_itself p)) ∙ h))

-- nor those of a pair before it, where they don't stand before it
not_before : (from to : List ℕ) (p x : Pair) → beside x p ≡ Less → is_lt (names_order from to p) ≡ false → is_of from to x ≡ false
not_before from to p x l h = false_unless (is_of from to x) (λ e. true≢false (sym (ap is_lt (at_key from to x p e ∙ l)) ∙ h))

-- nor those of a pair behind it, where they don't stand behind it
not_behind : (from to : List ℕ) (p y : Pair) → beside p y ≡ Less → is_gt (names_order from to p) ≡ false → is_of from to y ≡ false
not_behind from to p y l h = false_unless (is_of from to y) (λ e. true≢false (sym (ap is_gt (at_key from to y p e ∙ beside_back y p ∙ ap ordering_reverse l)) ∙ h))

-- ---- lists

past : (q : Pair → Bool) (x : Pair) (ps : List Pair) → q x ≡ false → find q (x ∷ ps) ≡ find q ps
past q x ps e = ap (λ b. cond b (Some x) (find q ps)) e

none_behind : (from to : List ℕ) (p : Pair) (ys : List Pair) → AllByRecursion (λ y. beside p y ≡ Less) ys → is_gt (names_order from to p) ≡ false → find (is_of from to) ys ≡ None
none_behind from to p [] a h = refl
none_behind from to p (y ∷ ys) a h = past (is_of from to) y ys (not_behind from to p y a.0 h) ∙ none_behind from to p ys a.1 h

middle : (P : Pair → Type 0) (xs : List Pair) (p : Pair) (ys : List Pair) → AllByRecursion P (xs ++ p ∷ ys) → P p
middle P [] p ys a = a.0
middle P (x ∷ xs) p ys a = middle P xs p ys a.1

all_left : (P : Pair → Type 0) (xs ys : List Pair) → AllByRecursion P (xs ++ ys) → AllByRecursion P xs
all_left P [] ys a = tt
all_left P (x ∷ xs) ys a = (a.0, all_left P xs ys a.1)

pub rises_left : (xs ys : List Pair) → IsRising (xs ++ ys) → IsRising xs
rises_left [] ys r = tt
rises_left (x ∷ xs) ys r = (all_left (λ q. beside x q ≡ Less) xs ys r.0, rises_left xs ys r.1)

pub rises_right : (xs : List Pair) (p : Pair) (ys : List Pair) → IsRising (xs ++ p ∷ ys) → IsRising ys
rises_right [] p ys r = r.1
rises_right (x ∷ xs) p ys r = rises_right xs p ys r.1

-- ---- searching

from_here : (from to : List ℕ) (xs : List Pair) (p : Pair) (ys : List Pair) → IsRising (xs ++ p ∷ ys) → is_lt (names_order from to p) ≡ false
    → find (is_of from to) (xs ++ p ∷ ys) ≡ find (is_of from to) (p ∷ ys)
from_here from to [] p ys r h = refl
from_here from to (x ∷ xs) p ys r h =
    past (is_of from to) x (xs ++ p ∷ ys) (not_before from to p x (middle (λ q. beside x q ≡ Less) xs p ys r.0) h) ∙ from_here from to xs p ys r.1 h

pub find_less : (from to : List ℕ) (xs : List Pair) (p : Pair) (ys : List Pair) → IsRising (xs ++ p ∷ ys) → names_order from to p ≡ Less
    → find (is_of from to) (xs ++ p ∷ ys) ≡ find (is_of from to) xs
find_less from to [] p ys r h = past (is_of from to) p ys (apart from to p (ap is_eq h)) ∙ none_behind from to p ys r.0 (ap is_gt h)
find_less from to (x ∷ xs) p ys r h = ap (λ o. cond (is_of from to x) (Some x) o) (find_less from to xs p ys r.1 h)

pub find_equal : (from to : List ℕ) (xs : List Pair) (p : Pair) (ys : List Pair) → IsRising (xs ++ p ∷ ys) → names_order from to p ≡ Equal
    → find (is_of from to) (xs ++ p ∷ ys) ≡ Some p
find_equal from to xs p ys r h = from_here from to xs p ys r (ap is_lt h) ∙ ap (λ b. cond b (Some p) (find (is_of from to) ys)) (equal_is from to p h)

pub find_greater : (from to : List ℕ) (xs : List Pair) (p : Pair) (ys : List Pair) → IsRising (xs ++ p ∷ ys) → names_order from to p ≡ Greater
    → find (is_of from to) (xs ++ p ∷ ys) ≡ find (is_of from to) ys
find_greater from to xs p ys r h = from_here from to xs p ys r (ap is_lt h) ∙ past (is_of from to) p ys (apart from to p (ap is_eq h))

-- ---- putting

pub put_left : (p : Pair) (xs : List Pair) (q : Pair) (ys : List Pair) → beside p q ≡ Less → put p (xs ++ q ∷ ys) ≡ put p xs ++ q ∷ ys
put_left p [] q ys h = ap (λ o. cond (is_lt o) (p ∷ q ∷ ys) (q ∷ put p ys)) h
put_left p (x ∷ xs) q ys h = ahead (is_lt (beside p x)) (put_left p xs q ys h) where
  ahead : (b : Bool) → put p (xs ++ q ∷ ys) ≡ put p xs ++ q ∷ ys → cond b (p ∷ x ∷ (xs ++ q ∷ ys)) (x ∷ put p (xs ++ q ∷ ys)) ≡ cond b (p ∷ x ∷ xs) (x ∷ put p xs) ++ q ∷ ys
  ahead true e = refl
  ahead false e = ap (λ l. x ∷ l) e

not_less_than : (p x q : Pair) (o : Ordering) → beside p x ≡ o → beside x q ≡ Less → is_lt (beside p q) ≡ false → is_lt (beside p x) ≡ false
not_less_than p x q Less e l h = absurd (true≢false (sym (ap is_lt (beside_on p x q e l)) ∙ h))
not_less_than p x q Equal e l h = ap is_lt e
not_less_than p x q Greater e l h = ap is_lt e

pub put_right : (p : Pair) (xs : List Pair) (q : Pair) (ys : List Pair) → IsRising (xs ++ q ∷ ys) → is_lt (beside p q) ≡ false → put p (xs ++ q ∷ ys) ≡ xs ++ q ∷ put p ys
put_right p [] q ys r h = ap (λ b. cond b (p ∷ q ∷ ys) (q ∷ put p ys)) h
put_right p (x ∷ xs) q ys r h =
    ap (λ b. cond b (p ∷ x ∷ (xs ++ q ∷ ys)) (x ∷ put p (xs ++ q ∷ ys))) (not_less_than p x q (beside p x) refl (middle (λ y. beside x y ≡ Less) xs q ys r.0) h)
    ∙ ap (λ l. x ∷ l) (put_right p xs q ys r.1 h)

all_put : (P : Pair → Type 0) (p : Pair) (ps : List Pair) → P p → AllByRecursion P ps → AllByRecursion P (put p ps)
all_put P p [] h a = (h, tt)
all_put P p (x ∷ ps) h a = by_test (is_lt (beside p x)) (all_put P p ps h a.1) where
  by_test : (b : Bool) → AllByRecursion P (put p ps) → AllByRecursion P (cond b (p ∷ x ∷ ps) (x ∷ put p ps))
  by_test true k = (h, a)
  by_test false k = (a.0, k)

all_behind : (p x : Pair) (ps : List Pair) → beside p x ≡ Less → AllByRecursion (λ q. beside x q ≡ Less) ps → AllByRecursion (λ q. beside p q ≡ Less) ps
all_behind p x [] h a = tt
all_behind p x (y ∷ ps) h a = (beside_on p x y h a.0, all_behind p x ps h a.1)

-- a list that hasn't a pair's names hasn't them at its front
skips : (q : Pair → Bool) (x : Pair) (ps : List Pair) (b : Bool) → q x ≡ b → find q (x ∷ ps) ≡ None → (q x ≡ false) × (find q ps ≡ None)
skips q x ps true e h = absurd (true≢false (sym (ap (λ c. is_some (cond c (Some x) (find q ps))) e) ∙ ap is_some h))
skips q x ps false e h = (e, sym (past q x ps e) ∙ h)

rises_with : (p x : Pair) (ps : List Pair) (o : Ordering) → beside p x ≡ o → IsRising (x ∷ ps) → is_of p.from p.to x ≡ false → IsRising (put p ps) → IsRising (put p (x ∷ ps))
rises_with p x ps Less e r n k = subst (λ b. IsRising (cond b (p ∷ x ∷ ps) (x ∷ put p ps))) (sym (ap is_lt e)) ((e, all_behind p x ps e r.0), r)
rises_with p x ps Equal e r n k = absurd (true≢false (sym (equal_is p.from p.to x e) ∙ n))
rises_with p x ps Greater e r n k =
    subst (λ b. IsRising (cond b (p ∷ x ∷ ps) (x ∷ put p ps))) (sym (ap is_lt e)) (all_put (λ q. beside x q ≡ Less) p ps (beside_back x p ∙ ap ordering_reverse e) r.0, k)

pub put_rises : (p : Pair) (ps : List Pair) → IsRising ps → find (is_of p.from p.to) ps ≡ None → IsRising (put p ps)
put_rises p [] r n = (tt, tt)
put_rises p (x ∷ ps) r n =
    let rest = skips (is_of p.from p.to) x ps (is_of p.from p.to x) refl n in
    rises_with p x ps (beside p x) refl r rest.0 (put_rises p ps r.1 rest.1)

-- a pair is found behind a list as before it, where the list has none like it
moved : (q : Pair → Bool) (p : Pair) (ps : List Pair) (b : Bool) → q p ≡ b → (q p ≡ true → find q ps ≡ None) → find q (p ∷ ps) ≡ find q (ps ++ p ∷ [])
moved q p [] b e h = refl
moved q p (x ∷ ps) true e h =
    let rest = skips q x ps (q x) refl (h e) in
    ap (λ c. cond c (Some p) (find q (x ∷ ps))) e ∙ sym (ap (λ c. cond c (Some p) (find q ps)) e) ∙ moved q p ps true e (λ _. rest.1) ∙ sym (past q x (ps ++ p ∷ []) rest.0)
moved q p (x ∷ ps) false e h =
    past q p (x ∷ ps) e ∙ ap (λ o. cond (q x) (Some x) o) (sym (past q p ps e) ∙ moved q p ps false e (λ t. absurd (true≢false (sym t ∙ e))))

none_like : (from to : List ℕ) (p : Pair) (ps : List Pair) → find (is_of p.from p.to) ps ≡ None → is_of from to p ≡ true → find (is_of from to) ps ≡ None
none_like from to p ps n e = let k = is_key from to p e in ap (λ f. find (is_of f to) ps) k.0 ∙ ap (λ t. find (is_of p.from t) ps) k.1 ∙ n

found_with : (from to : List ℕ) (p x : Pair) (ps : List Pair) (b : Bool) → find (is_of p.from p.to) (x ∷ ps) ≡ None → find (is_of from to) (put p ps) ≡ find (is_of from to) (ps ++ p ∷ [])
    → find (is_of from to) (cond b (p ∷ x ∷ ps) (x ∷ put p ps)) ≡ find (is_of from to) (x ∷ ps ++ p ∷ [])
found_with from to p x ps true n e = moved (is_of from to) p (x ∷ ps) (is_of from to p) refl (none_like from to p (x ∷ ps) n)
found_with from to p x ps false n e = ap (λ o. cond (is_of from to x) (Some x) o) e

pub put_found : (p : Pair) (ps : List Pair) → find (is_of p.from p.to) ps ≡ None → (from to : List ℕ) → find (is_of from to) (put p ps) ≡ find (is_of from to) (ps ++ p ∷ [])
put_found p [] n from to = refl
put_found p (x ∷ ps) n from to = found_with from to p x ps (is_lt (beside p x)) n (put_found p ps (skips (is_of p.from p.to) x ps (is_of p.from p.to x) refl n).1 from to)

-- ---- a tree in place of a list

pub serves_none : Serves [] []
serves_none = record { rising = tt; same = λ from to. refl }

absent : (o : Option Pair) → is_some o ≡ false → o ≡ None
absent None e = refl
absent (Some x) e = absurd (true≢false e)

find_behind : (q : Pair → Bool) (p : Pair) (ps qs : List Pair) → find q ps ≡ find q qs → find q (ps ++ p ∷ []) ≡ find q (qs ++ p ∷ [])
find_behind q p ps qs e = find-append q ps (p ∷ []) ∙ ap (λ o. option_or o (find q (p ∷ []))) e ∙ sym (find-append q qs (p ∷ []))

pub serves_more : (p : Pair) (tree pairs : List Pair) → Serves tree pairs → is_some (find (is_of p.from p.to) pairs) ≡ false → Serves (put p tree) (pairs ++ p ∷ [])
serves_more p tree pairs s n =
    let none : find (is_of p.from p.to) tree ≡ None = s.same p.from p.to ∙ absent (find (is_of p.from p.to) pairs) n in
    record {
      rising = put_rises p tree s.rising none;
      same = λ from to. put_found p tree none from to ∙ find_behind (is_of from to) p tree pairs (s.same from to);
    }

length-push : (ps : List Pair) (p : Pair) → length (ps ++ p ∷ []) ≡ length ps + 1
length-push [] p = omega arith
length-push (x ∷ ps) p = let h = length-push ps p in omega arith

-- what a list keeps is kept with one pair more
pub grows : (k : Known) (p : Pair) (now : Known) (before tree : List Pair) (count more : ℕ) → Lists k before count
    → IsLeastPair k.graph p → is_some (find (is_of p.from p.to) k.pairs) ≡ false → now ≡ and_pair k p → tree ≡ put p before → more ≡ count + 1 → Lists now tree more
grows k p now before tree count more l h n is put_is more_is = subst (λ (x : Known). Lists x tree more) (sym is) (record {
  graph = l.graph;
  least = All-push (IsLeastPair k.graph) k.pairs p l.least h;
  serves = subst (λ t. Serves t (k.pairs ++ p ∷ [])) (sym put_is) (serves_more p before k.pairs l.serves n);
  counted = more_is ∙ ap (λ c. c + 1) l.counted ∙ sym (length-push k.pairs p);
})

-- what a list keeps where it has no pair
pub none_listed : (g : Shape) (k : Known) (count : ℕ) → IsGraph g → k ≡ none_known g → count ≡ 0 → Lists k [] count
none_listed g k count h is e = subst (λ (x : Known). Lists x [] count) (sym is) (record { graph = h; least = All-nil (IsLeastPair g); serves = serves_none; counted = e })
