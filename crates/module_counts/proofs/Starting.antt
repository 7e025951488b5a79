-- Uses of several modules, one after the other.
use Rattle.std.proofs.Common.{◌≡◌, ℕ, ◌+◌, ◌<◌, ◌≤◌, List, [], ◌∷◌, ◌++◌, length, map, get_or, sym, refl, ap, ◌∙◌, subst, append_assoc, append-nil, arith}
use Rattle.std.proofs.Common.{Bool, cond, eq-eqb}
use Rattle.std.proofs.lemmas.List.{map-append, take_more, take-append-drop}
use Rattle.std.proofs.lemmas.List.Elements.{filter_map-append}
use Rattle.std.specs.List.{cons_option}
use Rattle.std.proofs.Common.{take, drop, Option, Some, None}
use Rattle.module_graph.specs.declared.edge.Edge.{Edge}
use Rattle.runtime_histories.specs.Settings.{module_at, modules_of}
use Rattle.runtime_histories.specs.Fair.{times}
use Rattle.runtime_histories.specs.Deeds.{Mark, uses, releases}
use Rattle.module_counts.specs.declared.ages.Ages.{Ages}
use Rattle.module_counts.specs.Tracking.{IsTracking, listed}

abbrev Marking : Type 0
Marking = ℕ → Mark

-- The counters after some uses, in a chain's order.
pub record Started (a b : Ages) (started : List ℕ) (many : ℕ) : Type 0 where
  pub tracks : (ms : List Mark) → IsTracking a ms → IsTracking b (ms ++ map uses started)
  pub same : length b.stamps.items ≡ length b.held.items
  pub stays : length b.held.items ≡ length a.held.items
  pub steady : b.clock ≡ a.clock
  pub more : (m : ℕ) → get_or b.held.items m 0 ≤ get_or a.held.items m 0 + many

-- The counters after some releases.
pub record Stopped (a b : Ages) (stopped : List ℕ) (many : ℕ) : Type 0 where
  pub tracks : (ms : List Mark) → IsTracking a ms → IsTracking b (ms ++ map releases stopped)
  pub same : length b.stamps.items ≡ length b.held.items
  pub stays : length b.held.items ≡ length a.held.items
  pub steady : b.clock ≤ a.clock + many
  pub less : (m : ℕ) → get_or a.held.items m 0 ≡ get_or b.held.items m 0 + times m stopped

-- The modules of one ordinal more.
pub modules_of-more : (edges : List Edge) (xs : List ℕ) (o : ℕ) → modules_of edges (xs ++ o ∷ []) ≡ modules_of edges xs ++ listed (module_at edges o)
modules_of-more edges xs o = filter_map-append (module_at edges) xs (o ∷ []) ∙ ap (λ (z : List ℕ). modules_of edges xs ++ z) (one (module_at edges o))
  where
    one : (x : Option ℕ) → cons_option x [] ≡ listed x
    one None = refl
    one (Some m) = refl

map-more : (f : Marking) (xs ys : List ℕ) → map f (xs ++ ys) ≡ map f xs ++ map f ys
map-more f xs ys = map-append f xs ys

pub marks_more : (f : Marking) (ms : List Mark) (xs ys : List ℕ) → ms ++ map f (xs ++ ys) ≡ (ms ++ map f xs) ++ map f ys
marks_more f ms xs ys = ap (λ (z : List Mark). ms ++ z) (map-more f xs ys) ∙ sym (append_assoc ms (map f xs) (map f ys))

pub times-append : (m : ℕ) (xs ys : List ℕ) → times m (xs ++ ys) ≡ times m xs + times m ys
times-append m [] ys = omega arith
times-append m (x ∷ xs) ys = let h = times-append m xs ys in omega arith

pub start_none : (a : Ages) → length a.stamps.items ≡ length a.held.items → Started a a [] 0
start_none a h = record {
  tracks = λ ms t. subst (IsTracking a) (sym (append-nil ms)) t;
  same = h;
  stays = refl;
  steady = refl;
  more = λ m. omega arith;
}

pub stop_none : (a : Ages) → length a.stamps.items ≡ length a.held.items → Stopped a a [] 0
stop_none a h = record {
  tracks = λ ms t. subst (IsTracking a) (sym (append-nil ms)) t;
  same = h;
  stays = refl;
  steady = omega arith;
  less = λ m. omega arith;
}

module _ (edges : List Edge) (ordinals : List ℕ) (i o : ℕ) (lt : i < length ordinals) where
  taken : modules_of edges (take (i + 1) ordinals) ≡ modules_of edges (take i ordinals) ++ listed (module_at edges (get_or ordinals i o))
  taken = ap (modules_of edges) (take_more ordinals i o lt) ∙ modules_of-more edges (take i ordinals) (get_or ordinals i o)

  pub start_more : (a b c : Ages) → Started a b (modules_of edges (take i ordinals)) i
      → ((ms : List Mark) → IsTracking b ms → IsTracking c (ms ++ map uses (listed (module_at edges (get_or ordinals i o)))))
      → length c.stamps.items ≡ length c.held.items → length c.held.items ≡ length b.held.items
      → ((m : ℕ) → get_or c.held.items m 0 ≤ get_or b.held.items m 0 + 1) → c.clock ≡ b.clock
      → Started a c (modules_of edges (take (i + 1) ordinals)) (i + 1)
  start_more a b c h tracks same stays more clock = record {
    tracks = λ ms t. subst (IsTracking c) (sym (ap (λ (z : List ℕ). ms ++ map uses z) taken ∙ marks_more uses ms (modules_of edges (take i ordinals)) (listed (module_at edges (get_or ordinals i o)))))
        (tracks (ms ++ map uses (modules_of edges (take i ordinals))) (h.tracks ms t));
    same = same;
    stays = stays ∙ h.stays;
    steady = clock ∙ h.steady;
    more = λ m. let x = more m in let y = h.more m in omega arith;
  }

  pub stop_more : (a b c : Ages) → Stopped a b (modules_of edges (take i ordinals)) i
      → ((ms : List Mark) → IsTracking b ms → IsTracking c (ms ++ map releases (listed (module_at edges (get_or ordinals i o)))))
      → length c.stamps.items ≡ length c.held.items → length c.held.items ≡ length b.held.items
      → ((m : ℕ) → get_or b.held.items m 0 ≡ get_or c.held.items m 0 + times m (listed (module_at edges (get_or ordinals i o)))) → c.clock ≤ b.clock + 1
      → Stopped a c (modules_of edges (take (i + 1) ordinals)) (i + 1)
  stop_more a b c h tracks same stays less clock = record {
    tracks = λ ms t. subst (IsTracking c) (sym (ap (λ (z : List ℕ). ms ++ map releases z) taken ∙ marks_more releases ms (modules_of edges (take i ordinals)) (listed (module_at edges (get_or ordinals i o)))))
        (tracks (ms ++ map releases (modules_of edges (take i ordinals))) (h.tracks ms t));
    same = same;
    stays = stays ∙ h.stays;
    steady = let x = h.steady in omega arith;
    less = λ m. let x = less m in let y = h.less m in let t = times-append m (modules_of edges (take i ordinals)) (listed (module_at edges (get_or ordinals i o))) in
        let e : times m (modules_of edges (take (i + 1) ordinals)) ≡ times m (modules_of edges (take i ordinals) ++ listed (module_at edges (get_or ordinals i o))) = ap (times m) taken in omega arith;
  }

  -- what the next release needs is there
  pub stop_has : (a b : Ages) → Stopped a b (modules_of edges (take i ordinals)) i
      → ((m : ℕ) → times m (modules_of edges ordinals) ≤ get_or a.held.items m 0) → (m : ℕ) → module_at edges (get_or ordinals i o) ≡ Some m → 0 < get_or b.held.items m 0
  stop_has a b h enough m is =
      let all : modules_of edges ordinals ≡ modules_of edges (take (i + 1) ordinals) ++ modules_of edges (drop (i + 1) ordinals) =
      ap (modules_of edges) (sym (take-append-drop (i + 1) ordinals)) ∙ filter_map-append (module_at edges) (take (i + 1) ordinals) (drop (i + 1) ordinals) in
      let n : times m (modules_of edges ordinals) ≡ times m (modules_of edges (take (i + 1) ordinals)) + times m (modules_of edges (drop (i + 1) ordinals)) =
      ap (times m) all ∙ times-append m (modules_of edges (take (i + 1) ordinals)) (modules_of edges (drop (i + 1) ordinals)) in
      let k : times m (modules_of edges (take (i + 1) ordinals)) ≡ times m (modules_of edges (take i ordinals)) + times m (listed (module_at edges (get_or ordinals i o))) =
      ap (times m) taken ∙ times-append m (modules_of edges (take i ordinals)) (listed (module_at edges (get_or ordinals i o))) in
      let one : times m (listed (module_at edges (get_or ordinals i o))) ≡ 1 = ap (λ (z : Option ℕ). times m (listed z)) is ∙ ap (λ (b : Bool). cond b 1 0 + 0) (eq-eqb m m refl) in
      let e = enough m in let l = h.less m in omega arith
