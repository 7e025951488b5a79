-- A least chain comes to no node twice.
use Rattle.std.proofs.Common.{◌≡◌, ℕ, ◌+◌, ◌<◌, ◌≤◌, Bool, true, false, ◌||◌, eqb, List, [], ◌∷◌, ◌++◌, length, map, get_or, refl, sym, ap, ◌∙◌, subst, arith, append_assoc}
use Rattle.std.specs.List.{All, AllByRecursion, Contains, IsDistinct, list_any}
use Rattle.std.proofs.lemmas.List.Elements.{All-contains}
use Rattle.std.proofs.lemmas.Bool.{false≢true, eqb-true}
use Rattle.std.proofs.lemmas.Map.Steps.{length-le_from_distinct_below}
use Rattle.module_graph.specs.declared.edge.Edge.{Edge}
use Rattle.module_graph.specs.Graph.{Shape, IsGraph, IsEdge}
use Rattle.chain_search.specs.declared.chain.Chain.{Chain}
use Rattle.chain_search.specs.Chains.{Way, IsChain, cost_of, ordinals_of, IsLeastChain}
use Rattle.chain_search.specs.Answer.{TellsLeast}

abbrev targets : List Edge → List ℕ
targets es = map (λ (e : Edge). e.target) es

way_joined : (g : List Edge) (a b c : ℕ) (es fs : List Edge) → Way g a c es → Way g c b fs → Way g a b (es ++ fs)
way_joined g a b c [] fs h k = subst (λ (z : ℕ). Way g z b fs) (sym h) k
way_joined g a b c (e ∷ es) fs h k = (h.0, h.1, way_joined g e.target b c es fs h.2 k)

cost_joined : (es fs : List Edge) → cost_of (es ++ fs) ≡ cost_of es + cost_of fs
cost_joined [] fs = omega arith
cost_joined (e ∷ es) fs = let ih = cost_joined es fs in omega (arith, ih)

-- a way that ends by an edge to a node, and goes on from there
record Passes (g : List Edge) (c b node : ℕ) (es : List Edge) : Type 0 where
  pub before : List Edge
  pub edge : Edge
  pub behind : List Edge
  pub whole : es ≡ before ++ edge ∷ behind
  pub there : edge.target ≡ node
  pub has : Contains g edge
  pub goes_on : Way g edge.target b behind

passes : (g : List Edge) (c b node : ℕ) (es : List Edge) → Way g c b es → list_any (eqb node) (targets es) ≡ true → Passes g c b node es
passes g c b node [] w h = absurd (false≢true h)
passes g c b node (e ∷ es) w h = go (λ z. passes g e.target b node es w.2 z) (eqb node e.target) refl
  where
    go : (list_any (eqb node) (targets es) ≡ true → Passes g e.target b node es) → (t : Bool) → eqb node e.target ≡ t → Passes g c b node (e ∷ es)
    go rec true is = record { before = []; edge = e; behind = es; whole = refl; there = sym (eqb-true node e.target is); has = w.0; goes_on = w.2 }
    go rec false is =
        let rest : list_any (eqb node) (targets es) ≡ true = subst (λ (t : Bool). (t || list_any (eqb node) (targets es)) ≡ true) is h in
        let p = rec rest in
        record { before = e ∷ p.before; edge = p.edge; behind = p.behind; whole = ap (λ (z : List Edge). e ∷ z) p.whole; there = p.there; has = p.has; goes_on = p.goes_on }

none_equal : (x : ℕ) (xs : List ℕ) → list_any (eqb x) xs ≡ false → AllByRecursion (λ y. eqb x y ≡ false) xs
none_equal x [] h = tt
none_equal x (y ∷ ys) h = go (none_equal x ys) (eqb x y) refl
  where
    go : (list_any (eqb x) ys ≡ false → AllByRecursion (λ y. eqb x y ≡ false) ys) → (t : Bool) → eqb x y ≡ t → AllByRecursion (λ y. eqb x y ≡ false) (y ∷ ys)
    go rec true e = absurd (false≢true (sym (subst (λ (t : Bool). (t || list_any (eqb x) ys) ≡ false) e h)))
    go rec false e = (e, rec (subst (λ (t : Bool). (t || list_any (eqb x) ys) ≡ false) e h))

module _ (g : Shape) (ok : IsGraph g) (a b : ℕ) (all : List Edge) (h : IsLeastChain g.edges a b all) where
  -- no edge behind another one comes to the same node
  never_again : (front : List Edge) (e : Edge) (rest : List Edge) → all ≡ front ++ e ∷ rest → Way g.edges a e.source front → Contains g.edges e → Way g.edges e.target b rest
      → list_any (eqb e.target) (targets rest) ≡ true → ⊥
  never_again front e rest whole w c more again =
      let p = passes g.edges e.target b e.target rest more again in
      let shorter : List Edge = front ++ e ∷ p.behind in
      let way : Way g.edges a b shorter = way_joined g.edges a b e.source front (e ∷ p.behind) w (c, refl, subst (λ (z : ℕ). Way g.edges z b p.behind) p.there p.goes_on) in
      let some : 0 < length shorter = (let n = length_joined front e p.behind in omega (arith, n)) in
      let least = (h.least shorter (record { way = way; some = some })).no_dearer in
      let one : cost_of all ≡ cost_of front + (e.cost + cost_of rest) = ap cost_of whole ∙ cost_joined front (e ∷ rest) in
      let two : cost_of shorter ≡ cost_of front + (e.cost + cost_of p.behind) = cost_joined front (e ∷ p.behind) in
      let three : cost_of rest ≡ cost_of p.before + (p.edge.cost + cost_of p.behind) = ap cost_of p.whole ∙ cost_joined p.before (p.edge ∷ p.behind) in
      let paid = (All-contains (IsEdge (length g.nodes)) g.edges p.edge ok.edges p.has).some_cost in
      omega (arith, least, one, two, three, paid)
    where
      length_joined : (xs : List Edge) (x : Edge) (ys : List Edge) → length (xs ++ x ∷ ys) ≡ length xs + (1 + length ys)
      length_joined [] x ys = omega arith
      length_joined (z ∷ xs) x ys = let ih = length_joined xs x ys in omega (arith, ih)

  apart : (front : List Edge) (c : ℕ) (rest : List Edge) → all ≡ front ++ rest → Way g.edges a c front → Way g.edges c b rest → IsDistinct eqb (targets rest)
  unfolding IsDistinct
  apart front c [] whole w more = tt
  apart front c (e ∷ rest) whole w more = (
    none_equal e.target (targets rest) (once (list_any (eqb e.target) (targets rest)) refl),
    apart (front ++ e ∷ []) e.target rest (whole ∙ sym (append_assoc front (e ∷ []) rest)) (way_joined g.edges a e.target c front (e ∷ []) w (more.0, more.1, refl)) more.2,
  )
    where
      once : (t : Bool) → list_any (eqb e.target) (targets rest) ≡ t → list_any (eqb e.target) (targets rest) ≡ false
      once false is = is
      once true is = absurd (never_again front e rest whole (subst (λ (z : ℕ). Way g.edges a z front) (sym more.1) w) more.0 more.2 is)

  below : (c : ℕ) (es : List Edge) → Way g.edges c b es → (q : ℕ) → list_any (eqb q) (targets es) ≡ true → q < length g.nodes
  below c es w q has =
      let p = passes g.edges c b q es w has in
      subst (λ (z : ℕ). z < length g.nodes) p.there (All-contains (IsEdge (length g.nodes)) g.edges p.edge ok.edges p.has).target

  few : length (targets all) ≤ length g.nodes
  few = length-le_from_distinct_below (targets all) (length g.nodes) (apart [] a all refl refl h.chain.way) (below a all h.chain.way)

length_mapped : {T : Type 0} (f : Edge → T) (es : List Edge) → length (map f es) ≡ length es
length_mapped f [] = refl
length_mapped f (e ∷ es) = let ih = length_mapped f es in omega (arith, ih)

pub least_is_short : (g : Shape) (a b : ℕ) (answer : Chain) → IsGraph g → TellsLeast g.edges a b answer → length answer.ordinals ≤ length g.nodes
least_is_short g a b answer ok t =
    let n = few g ok a b t.edges t.least in
    let p : length answer.ordinals ≡ length t.edges = ap length t.ordinals ∙ length_mapped (λ (e : Edge). e.ordinal) t.edges in
    let q = length_mapped (λ (e : Edge). e.target) t.edges in
    omega (arith, n, p, q)
