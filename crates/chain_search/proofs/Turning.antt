-- One turn of the search.
use Rattle.std.proofs.Common.{◌≡◌, ◌≢◌, ℕ, zero, suc, ◌+◌, ◌*◌, ◌^◌, ◌-◌, ◌<◌, ◌≤◌, ◌⊎◌, Bool, true, false, cond, eqb, ◌||◌, List, [], ◌∷◌, length, get_or, set, replicate, Option, Some, None, is_some, refl, sym, ap, ◌∙◌, subst, inl, inr, arith}
use Rattle.std.specs.List.{All, Contains, filter}
use Rattle.std.proofs.lemmas.List.{length-replicate, get_or_default, get_or-set_same, get_or-set_other, length-set}
use Rattle.std.proofs.lemmas.List.Sums.{sum_by-set, count_by-le-length, length-filter}
use Rattle.std.proofs.lemmas.Bool.{cases_eq, cases_Bool, eq-eqb, eqb-true, ne_eqb}
use Rattle.module_graph.specs.declared.edge.Edge.{Edge}
use Rattle.chain_search.specs.declared.step.Step.{Step}
use Rattle.chain_search.specs.declared.frontier.Open.{Open}
use Rattle.module_graph.specs.Graph.{Shape, IsGraph, IsEdge, edges_into}
use Rattle.module_graph.proofs.GraphLemmas.{is_edge}
use Rattle.chain_search.specs.Chains.{IsLeastChain, NoChain, cost_of, ordinals_of}
use Rattle.chain_search.specs.Answer.{TellsLeast}
use Rattle.chain_search.specs.Steps.{step_at, step_by, Relaxes, HasAtMost}
use Rattle.chain_search.specs.Frontier.{IsOpen, IsCheapest, NoneOpen, CoversOthers, AreQueued}
use Rattle.chain_search.specs.Search.{is_closed, IsBounded, settled_count, closed_edges, Running, AreTold, IsTold}
use Rattle.chain_search.proofs.Searching.{no_chain, settled_target, settled_other, closed_target, closed_known, rest_target, found}
use Rattle.chain_search.proofs.Tracing.{told_cost}
use Rattle.chain_search.proofs.Frontiers.{has_entry}

none_some : {s : Step} → None ≡ Some s → ⊥
none_some e = cc

abbrev count_one : Option Step → ℕ
count_one o = cond (is_some o) 1 0

-- one more node is settled
settled_more : (known : List (Option Step)) (u : ℕ) (s : Step) → u < length known → step_at known u ≡ None → settled_count (set known u (Some s)) ≡ settled_count known + 1
settled_more known u s lt e =
    let sum = sum_by-set count_one known u (Some s) None lt in
    let z : count_one (step_at known u) ≡ 0 = rw e refl in
    omega (arith, sum, z)

-- an element is the first or a later one
contains_cases : (x y : Edge) (xs : List Edge) → Contains (x ∷ xs) y → (x ≡ y) ⊎ Contains xs y
contains_cases x y xs (zero, lt, e) = inl e
contains_cases x y xs (suc k, lt, e) = inr (k, omega (arith, lt), e)

contains_first : (x y : Edge) (xs : List Edge) → x ≡ y → Contains (x ∷ xs) y
contains_first x y xs e = (0, omega arith, e)

contains_later : (x y : Edge) (xs : List Edge) → Contains xs y → Contains (x ∷ xs) y
contains_later x y xs c = (suc c.0, omega (arith, c.1), c.2)

none_among : (e : Edge) → Contains [] e → ⊥
none_among e c = omega (arith, c.1)

-- the edges of a row
pub among : (p : Edge → Bool) (g : List Edge) (e : Edge) → Contains (filter p g) e → Contains g e × (p e ≡ true)
among p [] e c = absurd (none_among e c)
among p (x ∷ xs) e c = elim (cases_Bool (p x)) [
  | inl t ↦ elim (contains_cases x e (filter p xs) (subst (λ b. Contains (cond b (x ∷ filter p xs) (filter p xs)) e) t c)) [
    | inl is ↦ (contains_first x e xs is, ap p (sym is) ∙ t)
    | inr l ↦ let h = among p xs e l in (contains_later x e xs h.0, h.1)
  ]
  | inr f ↦ let h = among p xs e (subst (λ b. Contains (cond b (x ∷ filter p xs) (filter p xs)) e) f c) in (contains_later x e xs h.0, h.1)
]

pub in_row : (p : Edge → Bool) (g : List Edge) (e : Edge) → Contains g e → p e ≡ true → Contains (filter p g) e
in_row p [] e c h = absurd (none_among e c)
in_row p (x ∷ xs) e c h = elim (contains_cases x e xs c) [
  | inl is ↦ subst (λ b. Contains (cond b (x ∷ filter p xs) (filter p xs)) e) (sym (ap p is ∙ h)) (contains_first x e (filter p xs) is)
  | inr l ↦ elim (cases_Bool (p x)) [
    | inl t ↦ subst (λ b. Contains (cond b (x ∷ filter p xs) (filter p xs)) e) (sym t) (contains_later x e (filter p xs) (in_row p xs e l h))
    | inr f ↦ subst (λ b. Contains (cond b (x ∷ filter p xs) (filter p xs)) e) (sym f) (in_row p xs e l h)
  ]
]

-- edges to the nodes that are closed once u is
closed_less_more : (p q : Edge → Bool) (u : ℕ) → ((e : Edge) → e.target ≢ u → q e ≡ p e) → ((e : Edge) → e.target ≡ u → (p e ≡ false) × (q e ≡ true)) → (g : List Edge)
    → length (filter q g) ≡ length (filter p g) + length (filter (λ e. eqb e.target u) g)
closed_less_more p q u other here [] = refl
closed_less_more p q u other here (e ∷ es) =
    let ih = closed_less_more p q u other here es in
    elim (cases_eq e.target u) [
      | inl t ↦ rw ((here e t).0, (here e t).1, eq-eqb e.target u t) (omega (arith, ih))
      | inr n ↦ elim (cases_Bool (p e)) [
        | inl yep ↦ rw (other e n, yep, ne_eqb e.target u n) (omega (arith, ih))
        | inr nope ↦ rw (other e n, nope, ne_eqb e.target u n) (omega (arith, ih))
      ]
    ]

same_count : (p q : Edge → Bool) → ((e : Edge) → q e ≡ p e) → (g : List Edge) → length (filter q g) ≡ length (filter p g)
same_count p q same [] = refl
same_count p q same (e ∷ es) = let ih = same_count p q same es in elim (cases_Bool (p e)) [
  | inl yep ↦ rw (same e, yep) (omega (arith, ih))
  | inr nope ↦ rw (same e, nope) ih
]

settled_le : (known : List (Option Step)) → settled_count known ≤ length known
settled_le known = count_by-le-length (λ (x : Option Step). is_some x) known

bounded_more : (old later : List (Option Step)) (row : List Edge) (cost len most more : ℕ) → Relaxes old later row cost len → IsBounded most old → ((e : Edge) → Contains row e → e.cost < 2 ^ 31) → most ≤ more → len + 1 ≤ more → cost ≤ len * 2 ^ 32 → IsBounded more later
bounded_more old later row cost len most more r b cheap le room c = λ v s e. elim (r.cause v s e) [
  | inl was ↦ let h = b v s was in (omega (arith, h.0), h.1)
  | inr x ↦ let low = cheap x.0 x.1 in let is_len : s.length ≡ len + 1 = ap (λ y. y.length) x.3 in let is_cost : s.cost ≡ x.0.cost + cost = ap (λ y. y.cost) x.3 in (omega arith, omega arith)
]

-- the edges into a node are edges of the graph with that target, and all of them
row_sound : (g : Shape) (w : ℕ) (e : Edge) → Contains (edges_into g.edges w) e → Contains g.edges e × (e.target ≡ w)
row_sound g w e c = let h = among (λ x. eqb x.target w) g.edges e c in (h.0, eqb-true e.target w h.1)

row_complete : (g : Shape) (w : ℕ) (e : Edge) → Contains g.edges e → e.target ≡ w → Contains (edges_into g.edges w) e
row_complete g w e c t = in_row (λ x. eqb x.target w) g.edges e c (eq-eqb e.target w t)

-- an edge into a node
row_edge : (g : Shape) → IsGraph g → (w : ℕ) (e : Edge) → Contains (edges_into g.edges w) e → IsEdge (length g.nodes) e
row_edge g ok w e c = is_edge g ok e (row_sound g w e c).0

-- the edges into a node begin at nodes
pub row_fits : (g : Shape) → IsGraph g → (w n : ℕ) → n ≡ length g.nodes → All (λ (e : Edge). e.source < n) (edges_into g.edges w)
row_fits g ok w n is i d lt =
    let e : Edge = get_or (edges_into g.edges w) i d in
    let c : Contains (edges_into g.edges w) e = (i, lt, get_or_default (edges_into g.edges w) i e d lt) in
    subst (λ m. e.source < m) (sym is) (row_edge g ok w e c).source

closed_count_le : (g : Shape) (target : ℕ) (known : List (Option Step)) → closed_edges g.edges target known ≤ length g.edges
closed_count_le g target known = omega (arith, length-filter (λ (e : Edge). is_closed target known e.target) g.edges, count_by-le-length (λ (e : Edge). is_closed target known e.target) g.edges)

or_false : (b : Bool) → (b || false) ≡ b
or_false true = refl
or_false false = refl

none_in : (n v : ℕ) (s : Step) → step_at (replicate n None) v ≡ Some s → ⊥
none_in zero v s e = cc
none_in (suc n) zero s e = cc
none_in (suc n) (suc v) s e = none_in n v s e

none_at : (n v : ℕ) → step_at (replicate n None) v ≡ None
none_at zero v = refl
none_at (suc n) zero = refl
none_at (suc n) (suc v) = none_at n v

closed_none : (target n v : ℕ) → is_closed target (replicate n None) v ≡ eqb v target
closed_none target n v = rw (none_at n v) (or_false (eqb v target))

-- the search begins
pub starts : (g : Shape) → IsGraph g → (source target start : ℕ) (later : List (Option Step)) (queue : List Open) (steps : ℕ)
    → Relaxes (replicate (length g.nodes) None) later (edges_into g.edges target) 0 0
    → AreQueued (replicate (length g.nodes) None) later [] queue
    → steps ≤ start + length (edges_into g.edges target)
    → Running g source target start (replicate (length g.nodes) None) later queue steps
starts g ok source target start later queue steps r q n =
    let count : ℕ = length g.nodes in
    record {
      searched = record {
        walk = λ _. [];
        least = λ v s e. absurd (none_in count v s e);
        told = λ v s e. absurd (none_in count v s e);
        offers = λ v s e. elim (r.cause v s e) [
          | inl was ↦ absurd (none_in count v s was)
          | inr x ↦
              let about = row_sound g target x.0 x.1 in (
                x.0 ∷ [],
                record {
                  edge = x.0;
                  of_graph = about.0;
                  from = x.2;
                  closed = closed_target target (replicate count None) x.0.target about.1;
                  whole = ap (λ y. x.0 ∷ y) (sym (rest_target target (λ _. []) x.0.target about.1));
                  is = x.3 ∙ ap (λ y. step_by x.0 (cost_of y) (length y)) (sym (rest_target target (λ _. []) x.0.target about.1));
                },
              )
        ];
        best = λ e c cl.
            let t : e.target ≡ target = eqb-true e.target target (sym (closed_none target count e.target) ∙ cl) in
            let fit : e.source < length (replicate count None) = rw (length-replicate) (is_edge g ok e c).source in
            subst (λ y. HasAtMost (step_at later e.source) (step_by e (cost_of y) (length y))) (sym (rest_target target (λ _. []) e.target t)) (r.offered e (row_complete g target e c t) fit);
      };
      known_length = length-replicate count None;
      opened_length = r.same ∙ length-replicate count None;
      fresh = none_at count source;
      bounded = bounded_more (replicate count None) later (edges_into g.edges target) 0 0 0 (settled_count (replicate count None) + 1) r (λ v s e. absurd (none_in count v s e)) (λ e h. (row_edge g ok target e h).low_cost) (omega arith) (omega arith) (omega arith);
      covered = λ v s o. has_entry (replicate count None) later [] queue q v s o.offer (λ e. absurd (none_in count v s e));
      counted = omega (arith, n, same_count (λ e. eqb e.target target) (λ e. is_closed target (replicate count None) e.target) (λ e. closed_none target count e.target) g.edges);
    }

-- the first row is no longer than all edges
pub first_counted : (g : Shape) (target start steps : ℕ) → steps ≤ start + length (edges_into g.edges target) → steps ≤ start + length g.edges
first_counted g target start steps n = omega (arith, n, length-filter (λ (e : Edge). eqb e.target target) g.edges, count_by-le-length (λ (e : Edge). eqb e.target target) g.edges)

module _ (g : Shape) (ok : IsGraph g) (source target start : ℕ) (known opened : List (Option Step)) (queue : List Open) (steps : ℕ) (r : Running g source target start known opened queue steps) where
  -- the call's count at any turn
  pub total : steps ≤ start + length g.edges
  total = omega (arith, r.counted, closed_count_le g target known)

  -- no open step: no chain
  pub stops : NoneOpen known opened → NoChain g.edges source target
  stops none = no_chain g ok target known opened r.searched (λ v t k o. none v t (record { fresh = k; offer = o })) source r.fresh

  -- one turn
  module _ (u : ℕ) (s : Step) (b : IsCheapest known opened u s) (left : List Open) (others : CoversOthers known opened left u) where
    abbrev after : List (Option Step)
    after = set known u (Some s)

    low : (v : ℕ) (t : Step) → step_at known v ≡ None → step_at opened v ≡ Some t → s.cost ≤ t.cost
    low v t k f = b.cheapest v t (record { fresh = k; offer = f })

    pub step_bounds : (s.length ≤ settled_count known + 1) × (s.cost ≤ s.length * 2 ^ 32)
    step_bounds = r.bounded u s b.here.offer

    pub step_length : s.length < 2 ^ 32 - 1
    step_length = omega (arith, step_bounds.0, settled_le known, r.known_length, ok.few)

    pub step_cost : s.cost < 2 ^ 63
    step_cost = omega (arith, step_bounds.0, step_bounds.1, settled_le known, r.known_length, ok.few)

    fresh_after : u ≢ source → step_at after source ≡ None
    fresh_after n = get_or-set_other known u source (Some s) None (λ e. n (sym e)) ∙ r.fresh

    closed_other : (v : ℕ) → v ≢ u → is_closed target after v ≡ is_closed target known v
    closed_other v n = ap (λ x. eqb v target || is_some x) (get_or-set_other known u v (Some s) None n)

    more_settled : settled_count after ≡ settled_count known + 1
    more_settled = settled_more known u s b.within b.here.fresh

    pub falls : length after - settled_count after < length known - settled_count known
    falls = omega (arith, more_settled, settled_le after, length-set known u (Some s))

    same_closed : u ≡ target → (e : Edge) → is_closed target after e.target ≡ is_closed target known e.target
    same_closed t e = elim (cases_eq e.target u) [
      | inl is ↦ closed_target target after e.target (is ∙ t) ∙ sym (closed_target target known e.target (is ∙ t))
      | inr n ↦ closed_other e.target n
    ]

    newly_closed : u ≢ target → (e : Edge) → e.target ≡ u → (is_closed target known e.target ≡ false) × (is_closed target after e.target ≡ true)
    newly_closed t e is = (
      rw (ne_eqb e.target target (λ x. t (sym is ∙ x))) (ap is_some (ap (step_at known) is ∙ b.here.fresh)),
      closed_known target after e.target s (ap (step_at after) is ∙ get_or-set_same known u (Some s) None b.within),
    )

    -- a step that is open after the turn was open before, and not at the settled node
    open_before : (v : ℕ) (t : Step) → IsOpen after opened v t → (v ≢ u) × IsOpen known opened v t
    open_before v t o = elim (cases_eq v u) [
      | inl is ↦ absurd (none_some (sym o.fresh ∙ ap (step_at after) is ∙ get_or-set_same known u (Some s) None b.within))
      | inr n ↦ (n, record { fresh = sym (get_or-set_other known u v (Some s) None n) ∙ o.fresh; offer = o.offer })
    ]

    pub turn_target : u ≡ target → u ≢ source → Running g source target start after opened left steps
    turn_target t n = record {
      searched = settled_target g ok target known opened r.searched u s b.within b.here.fresh b.here.offer low t;
      known_length = length-set known u (Some s) ∙ r.known_length;
      opened_length = r.opened_length;
      fresh = fresh_after n;
      bounded = λ v x e. let h = r.bounded v x e in (omega (arith, h.0, more_settled), h.1);
      covered = λ v x o. let w = open_before v x o in others v x w.0 w.1;
      counted = omega (arith, r.counted, same_count (λ e. is_closed target known e.target) (λ e. is_closed target after e.target) (same_closed t) g.edges);
    }

    -- how many edges lead to closed nodes after another node's turn
    closed_after : u ≢ target → closed_edges g.edges target after ≡ closed_edges g.edges target known + length (edges_into g.edges u)
    closed_after t = closed_less_more (λ e. is_closed target known e.target) (λ e. is_closed target after e.target) u (λ e n. closed_other e.target n) (newly_closed t) g.edges

    -- the call's count after the row of such a node, all of it or a part
    pub total_after : (counted : ℕ) → u ≢ target → counted ≤ steps + length (edges_into g.edges u) → counted ≤ start + length g.edges
    total_after counted t c = omega (arith, r.counted, c, closed_after t, closed_count_le g target after)

    pub turn_other : (later : List (Option Step)) (queued : List Open) (counted : ℕ) → u ≢ target → u ≢ source → Relaxes opened later (edges_into g.edges u) s.cost s.length → AreQueued opened later left queued → counted ≤ steps + length (edges_into g.edges u) → Running g source target start after later queued counted
    turn_other later queued counted t n x q c = record {
      searched = settled_other g ok target known opened r.searched u s b.within b.here.fresh b.here.offer low (edges_into g.edges u) later t (row_sound g u) (row_complete g u) (λ e h. subst (λ n. e.source < n) (sym r.opened_length) (is_edge g ok e h).source) x;
      known_length = length-set known u (Some s) ∙ r.known_length;
      opened_length = x.same ∙ r.opened_length;
      fresh = fresh_after n;
      bounded = bounded_more opened later (edges_into g.edges u) s.cost s.length (settled_count known + 1) (settled_count after + 1) x r.bounded (λ e h. (row_edge g ok u e h).low_cost) (omega (arith, more_settled)) (omega (arith, more_settled, step_bounds.0)) step_bounds.1;
      covered = λ v y o. has_entry opened later left queued q v y o.offer (λ e. let w = open_before v y (record { fresh = o.fresh; offer = e }) in others v y w.0 w.1);
      counted = omega (arith, r.counted, c, closed_after t);
    }

    -- the settled steps at the source
    pub told_at_source : u ≡ source → IsTold after source s
    told_at_source is =
        let h = found g ok target known opened r.searched u s b.within b.here.fresh b.here.offer low in
        record { edges = g.edges; target = target; walk = h.0; told = h.1; here = ap (step_at after) (sym is) ∙ h.3 }

    -- the answer there
    pub answers : (items : List ℕ) → u ≡ source
        → ((es : List Edge) (end : ℕ) (walk : ℕ → List Edge) → AreTold es end after walk → step_at after source ≡ Some s → items ≡ ordinals_of (walk source))
        → TellsLeast g.edges source target (record { ordinals = items; cost = s.cost })
    answers items is traced =
        let h = found g ok target known opened r.searched u s b.within b.here.fresh b.here.offer low in
        let at : step_at after source ≡ Some s = ap (step_at after) (sym is) ∙ h.3 in
        record {
          edges = h.0 source;
          least = subst (λ v. IsLeastChain g.edges v target (h.0 v)) is h.2;
          ordinals = traced g.edges target h.0 h.1 at;
          cost = told_cost g.edges target after h.0 source s (h.0 source) (h.1 source s at);
        }
