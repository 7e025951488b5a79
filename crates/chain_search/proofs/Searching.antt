-- Why the search by least costs finds the least chains.
use Rattle.std.proofs.Common.{◌≡◌, ◌≢◌, ℕ, ◌+◌, ◌<◌, ◌≤◌, ◌⊎◌, Bool, true, false, cond, eqb, ◌||◌, List, [], ◌∷◌, length, set, Option, Some, None, is_some, refl, sym, ap, ◌∙◌, subst, inl, inr, arith, add-one}
use Rattle.std.specs.List.{Contains}
use Rattle.std.proofs.lemmas.List.{get_or-set_same}
use Rattle.std.proofs.lemmas.Bool.{cases_eq, cases_Bool, false≢true, eq-eqb, ne_eqb}
use Rattle.module_graph.specs.declared.edge.Edge.{Edge}
use Rattle.chain_search.specs.declared.step.Step.{Step}
use Rattle.module_graph.specs.Graph.{Shape, IsGraph}
use Rattle.module_graph.proofs.GraphLemmas.{same_edge, is_edge}
use Rattle.chain_search.specs.Chains.{Way, IsChain, cost_of, ordinals_of, IsNoLater, IsAtMost, IsLeastChain, NoChain}
use Rattle.chain_search.specs.Search.{is_closed, rest_from, Stands, Searched, AreTold}
use Rattle.chain_search.proofs.Relaxing.{written, greater_trans}
use Rattle.chain_search.specs.Steps.{step_at, step_by, NoGreater, HasAtMost, Relaxes}

-- the order of chains
at_most_refl : (es : List Edge) → IsNoLater (ordinals_of es) (ordinals_of es)
at_most_refl [] = tt
at_most_refl (e ∷ es) = (omega arith, λ _. at_most_refl es)

pub nothing_first : (es : List Edge) → IsAtMost [] es
nothing_first es = record { no_dearer = omega arith; no_longer = λ _. omega arith; no_later = λ _ _. tt }

-- an edge with the best rest, against another edge with any rest
compare : (e f : Edge) (p q r : List Edge) → NoGreater (step_by e (cost_of p) (length p)) (step_by f (cost_of q) (length q)) → IsAtMost q r → (e.ordinal ≡ f.ordinal → p ≡ q) → IsAtMost (e ∷ p) (f ∷ r)
compare e f p q r n a same = record {
  no_dearer = omega (arith, n.no_dearer, a.no_dearer);
  no_longer = λ x. omega (arith, n.no_dearer, a.no_dearer, n.no_longer, a.no_longer, x);
  no_later = λ x y.
      let cq : cost_of q ≡ cost_of r = omega (arith, n.no_dearer, a.no_dearer, x) in
      let cp : e.cost + cost_of p ≡ f.cost + cost_of q = omega (arith, n.no_dearer, a.no_dearer, x) in
      let lq : length q ≡ length r = omega (arith, n.no_longer cp, a.no_longer cq, y) in
      let lp : length p + 1 ≡ length q + 1 = omega (arith, n.no_longer cp, a.no_longer cq, y) in
      (n.no_later cp lp, λ o. subst (λ z. IsNoLater (ordinals_of z) (ordinals_of r)) (sym (same o)) (a.no_later cq lq));
}

some_there : (o : Option Step) → is_some o ≡ true → (s : Step) × (o ≡ Some s)
some_there None e = absurd (false≢true e)
some_there (Some s) e = (s, refl)

-- a closed node is the target, or settled
pub closed_cases : (target : ℕ) (known : List (Option Step)) (v : ℕ) → is_closed target known v ≡ true → (v ≡ target) ⊎ ((v ≢ target) × ((s : Step) × (step_at known v ≡ Some s)))
closed_cases target known v c = elim (cases_eq v target) [
  | inl e ↦ inl e
  | inr n ↦ inr (n, some_there (step_at known v) (subst (λ b. (b || is_some (step_at known v)) ≡ true) (ne_eqb v target n) c))
]

pub closed_target : (target : ℕ) (known : List (Option Step)) (v : ℕ) → v ≡ target → is_closed target known v ≡ true
closed_target target known v e = rw (eq-eqb v target e) refl

or_none : (b : Bool) (o : Option Step) → (b || is_some o) ≡ false → o ≡ None
or_none true o c = absurd (false≢true (sym c))
or_none false None c = refl
or_none false (Some s) c = absurd (false≢true (sym c))

none_there : (target : ℕ) (known : List (Option Step)) (v : ℕ) → is_closed target known v ≡ false → step_at known v ≡ None
none_there target known v c = or_none (eqb v target) (step_at known v) c

pub not_closed : (target : ℕ) (known : List (Option Step)) (v : ℕ) → is_closed target known v ≡ false → (v ≢ target) × (step_at known v ≡ None)
not_closed target known v c = (λ e. false≢true (sym c ∙ closed_target target known v e), none_there target known v c)

pub closed_known : (target : ℕ) (known : List (Option Step)) (v : ℕ) (s : Step) → step_at known v ≡ Some s → is_closed target known v ≡ true
closed_known target known v s e = elim (cases_eq v target) [
  | inl t ↦ closed_target target known v t
  | inr n ↦ rw (ne_eqb v target n) (rw e refl)
]

pub rest_target : (target : ℕ) (walk : ℕ → List Edge) (v : ℕ) → v ≡ target → rest_from target walk v ≡ []
rest_target target walk v e = rw (eq-eqb v target e) refl

pub rest_other : (target : ℕ) (walk : ℕ → List Edge) (v : ℕ) → v ≢ target → rest_from target walk v ≡ walk v
rest_other target walk v n = rw (ne_eqb v target n) refl

has_cost : (o : Option Step) (t : Step) (n : ℕ) → HasAtMost o t → t.cost ≤ n → (s : Step) × (o ≡ Some s) × (s.cost ≤ n)
has_cost None t n h le = absurd h
has_cost (Some s) t n h le = (s, refl, omega (arith, h.no_dearer, le))

of_some : (o : Option Step) (s t : Step) → o ≡ Some s → HasAtMost o t → NoGreater s t
of_some o s t e h = subst (λ x. HasAtMost x t) e h

-- what the search keeps, in use
module _ (g : Shape) (ok : IsGraph g) (target : ℕ) (known opened : List (Option Step)) (f : Searched g.edges target known opened) where
  -- the rest from a closed node is a way to the target, and no way comes before it
  rest_way : (v : ℕ) → is_closed target known v ≡ true → Way g.edges v target (rest_from target f.walk v)
  rest_way v c = elim (closed_cases target known v c) [
    | inl e ↦ rw (rest_target target f.walk v e) e
    | inr w ↦ rw (rest_other target f.walk v w.0) ((f.least v w.1.0 w.1.1).chain.way)
  ]

  least_way : (v : ℕ) (s : Step) → v ≢ target → step_at known v ≡ Some s → (es : List Edge) → Way g.edges v target es → IsAtMost (f.walk v) es
  least_way v s n k [] w = absurd (n w)
  least_way v s n k (e ∷ es) w = (f.least v s k).least (e ∷ es) (record { way = w; some = omega arith })

  rest_least : (v : ℕ) (es : List Edge) → is_closed target known v ≡ true → Way g.edges v target es → IsAtMost (rest_from target f.walk v) es
  rest_least v es c w = elim (closed_cases target known v c) [
    | inl e ↦ rw (rest_target target f.walk v e) (nothing_first es)
    | inr x ↦ rw (rest_other target f.walk v x.0) (least_way v x.1.0 x.0 x.1.1 es w)
  ]

  -- an open step is at most as dear as an edge to a closed node and any way from there
  open_cost : (e : Edge) (es : List Edge) → Contains g.edges e → is_closed target known e.target ≡ true → Way g.edges e.target target es → (s : Step) × (step_at opened e.source ≡ Some s) × (s.cost ≤ e.cost + cost_of es)
  open_cost e es c cl w = has_cost (step_at opened e.source) _ (e.cost + cost_of es) (f.best e c cl) (omega (arith, (rest_least e.target es cl w).no_dearer))

  -- each way out of a node that isn't closed costs as much as the cheapest open step
  escape : (low : ℕ) → ((v : ℕ) (t : Step) → step_at known v ≡ None → step_at opened v ≡ Some t → low ≤ t.cost) → (es : List Edge) (v : ℕ) → is_closed target known v ≡ false → Way g.edges v target es → low ≤ cost_of es
  escape low cheapest [] v c w = absurd ((not_closed target known v c).0 w)
  escape low cheapest (e ∷ es) v c w = elim (cases_Bool (is_closed target known e.target)) [
    | inl cl ↦
        let o = open_cost e es w.0 cl w.2 in
        let k : step_at known e.source ≡ None = rw w.1 ((not_closed target known v c).1) in
        omega (arith, o.2, cheapest e.source o.0 k o.1)
    | inr nc ↦ omega (arith, escape low cheapest es e.target nc w.2)
  ]

  -- where no step is open, no way leads out of such a node
  no_escape : ((v : ℕ) (t : Step) → step_at known v ≡ None → step_at opened v ≡ Some t → ⊥) → (es : List Edge) (v : ℕ) → is_closed target known v ≡ false → Way g.edges v target es → ⊥
  no_escape none [] v c w = (not_closed target known v c).0 w
  no_escape none (e ∷ es) v c w = elim (cases_Bool (is_closed target known e.target)) [
    | inl cl ↦
        let o = open_cost e es w.0 cl w.2 in
        let k : step_at known e.source ≡ None = rw w.1 ((not_closed target known v c).1) in
        none e.source o.0 k o.1
    | inr nc ↦ no_escape none es e.target nc w.2
  ]

  -- where no step is open, no chain leads from a node that isn't settled
  pub no_chain : ((v : ℕ) (t : Step) → step_at known v ≡ None → step_at opened v ≡ Some t → ⊥) → (v : ℕ) → step_at known v ≡ None → NoChain g.edges v target
  no_chain none v k [] c = omega (arith, c.some)
  no_chain none v k (e ∷ es) c =
      let w = c.way in
      elim (cases_Bool (is_closed target known e.target)) [
        | inl cl ↦ let o = open_cost e es w.0 cl w.2 in none e.source o.0 (rw w.1 k) o.1
        | inr nc ↦ no_escape none es e.target nc w.2
      ]

  against : (u : ℕ) (s : Step) (es : List Edge) → step_at known u ≡ None → step_at opened u ≡ Some s → (st : Stands g.edges target known f.walk u s es)
      → ((v : ℕ) (t : Step) → step_at known v ≡ None → step_at opened v ≡ Some t → s.cost ≤ t.cost) → (fs : List Edge) → IsChain g.edges u target fs → IsAtMost (st.edge ∷ rest_from target f.walk st.edge.target) fs
  against u s es k o st cheapest [] c = absurd (omega (arith, c.some))
  against u s es k o st cheapest (x ∷ xs) c =
      let w = c.way in
      elim (cases_Bool (is_closed target known x.target)) [
        | inl cl ↦
            let at : step_at opened x.source ≡ Some s = ap (step_at opened) w.1 ∙ o in
            let n : NoGreater s (step_by x (cost_of (rest_from target f.walk x.target)) (length (rest_from target f.walk x.target))) = of_some (step_at opened x.source) s _ at (f.best x w.0 cl) in
            compare st.edge x (rest_from target f.walk st.edge.target) (rest_from target f.walk x.target) xs (subst (λ y. NoGreater y (step_by x (cost_of (rest_from target f.walk x.target)) (length (rest_from target f.walk x.target)))) st.is n) (rest_least x.target xs cl w.2)
            (λ e. ap (λ y. rest_from target f.walk y.target) (same_edge g ok st.edge x st.of_graph w.0 e))
        | inr nc ↦
            let low : s.cost ≤ cost_of xs = escape s.cost cheapest xs x.target nc w.2 in
            let is : s.cost ≡ st.edge.cost + cost_of (rest_from target f.walk st.edge.target) = ap (λ y. y.cost) st.is in
            let pos : 0 < x.cost = (is_edge g ok x w.0).some_cost in
            record { no_dearer = omega arith; no_longer = λ e. absurd (omega arith); no_later = λ e _. absurd (omega arith) }
      ]

  -- the cheapest open step stands for a least chain
  pub settles : (u : ℕ) (s : Step) (es : List Edge) → step_at known u ≡ None → step_at opened u ≡ Some s → Stands g.edges target known f.walk u s es
      → ((v : ℕ) (t : Step) → step_at known v ≡ None → step_at opened v ≡ Some t → s.cost ≤ t.cost) → IsLeastChain g.edges u target es
  settles u s es k o st cheapest =
      record {
        chain = record {
          way = subst (λ x. Way g.edges u target x) (sym st.whole) (st.of_graph, st.from, rest_way st.edge.target st.closed);
          some = subst (λ x. 0 < length x) (sym st.whole) (omega arith);
        };
        least = λ fs c. subst (λ x. IsAtMost x fs) (sym st.whole) (against u s es k o st cheapest fs c);
      }

has_greater : (o : Option Step) (s t : Step) → HasAtMost o s → NoGreater s t → HasAtMost o t
has_greater None s t h n = absurd h
has_greater (Some x) s t h n = greater_trans x s t h n

has_kept : (old new : Option Step) (t : Step) → ((s : Step) → old ≡ Some s → HasAtMost new s) → HasAtMost old t → HasAtMost new t
has_kept None new t k h = absurd h
has_kept (Some s) new t k h = has_greater new s t (k s refl) h

none_some : {o : Option Step} {s : Step} → o ≡ None → o ≡ Some s → ⊥
none_some a b = cc

same_some : (s t : Step) → Some s ≡ Some t → s ≡ t
same_some s t e = cc

-- what settling the cheapest open step leaves
module _ (g : Shape) (ok : IsGraph g) (target : ℕ) (known opened : List (Option Step)) (f : Searched g.edges target known opened)
    (u : ℕ) (s : Step) (fits : u < length known) (k : step_at known u ≡ None) (o : step_at opened u ≡ Some s)
    (cheapest : (v : ℕ) (t : Step) → step_at known v ≡ None → step_at opened v ≡ Some t → s.cost ≤ t.cost) where
  es : List Edge
  es = (f.offers u s o).0

  st : Stands g.edges target known f.walk u s es
  unfolding es
  st = (f.offers u s o).1

  abbrev after : List (Option Step)
  after = set known u (Some s)

  abbrev walk_after : ℕ → List Edge
  walk_after v = cond (eqb v u) es (f.walk v)

  closed_more : (v : ℕ) → is_closed target known v ≡ true → is_closed target after v ≡ true
  closed_more v c = elim (closed_cases target known v c) [
    | inl e ↦ closed_target target after v e
    | inr x ↦ elim (written known u v s fits) [
      | inl w ↦ closed_known target after v s w.1
      | inr w ↦ closed_known target after v x.1.0 (w.1 ∙ x.1.1)
    ]
  ]

  closed_less : (v : ℕ) → is_closed target after v ≡ true → (is_closed target known v ≡ true) ⊎ (v ≡ u)
  closed_less v c = elim (written known u v s fits) [
    | inl w ↦ inr w.0
    | inr w ↦ inl (subst (λ x. (eqb v target || is_some x) ≡ true) w.1 c)
  ]

  rest_same : (v : ℕ) → is_closed target known v ≡ true → rest_from target walk_after v ≡ rest_from target f.walk v
  rest_same v c = elim (closed_cases target known v c) [
    | inl e ↦ rest_target target walk_after v e ∙ sym (rest_target target f.walk v e)
    | inr x ↦
        let n : v ≢ u = λ e. none_some (ap (step_at known) e ∙ k) x.1.1 in
        rest_other target walk_after v x.0 ∙ rw (ne_eqb v u n) (sym (rest_other target f.walk v x.0))
  ]

  walk_u : (v : ℕ) → v ≡ u → walk_after v ≡ es
  walk_u v e = rw (eq-eqb v u e) refl

  walk_other : (v : ℕ) → v ≢ u → walk_after v ≡ f.walk v
  walk_other v n = rw (ne_eqb v u n) refl

  stands_more : (v : ℕ) (t : Step) (xs : List Edge) → Stands g.edges target known f.walk v t xs → Stands g.edges target after walk_after v t xs
  stands_more v t xs x = record {
    edge = x.edge;
    of_graph = x.of_graph;
    from = x.from;
    closed = closed_more x.edge.target x.closed;
    whole = x.whole ∙ ap (λ r. x.edge ∷ r) (sym (rest_same x.edge.target x.closed));
    is = x.is ∙ ap (λ r. step_by x.edge (cost_of r) (length r)) (sym (rest_same x.edge.target x.closed));
  }

  least_after : (v : ℕ) (t : Step) → step_at after v ≡ Some t → IsLeastChain g.edges v target (walk_after v)
  least_after v t e = elim (written known u v s fits) [
    | inl w ↦ subst (λ x. IsLeastChain g.edges v target x) (sym (walk_u v w.0)) (subst (λ x. IsLeastChain g.edges x target es) (sym w.0) (settles g ok target known opened f u s es k o st cheapest))
    | inr w ↦ subst (λ x. IsLeastChain g.edges v target x) (sym (walk_other v w.0)) (f.least v t (sym w.1 ∙ e))
  ]

  told_after : (v : ℕ) (t : Step) → step_at after v ≡ Some t → Stands g.edges target after walk_after v t (walk_after v)
  told_after v t e = elim (written known u v s fits) [
    | inl w ↦ let is : s ≡ t = same_some s t (sym w.1 ∙ e) in
        subst (λ x. Stands g.edges target after walk_after v t x) (sym (walk_u v w.0))
        (stands_more v t es (subst (λ x. Stands g.edges target known f.walk x t es) (sym w.0) (subst (λ x. Stands g.edges target known f.walk u x es) is st)))
    | inr w ↦ subst (λ x. Stands g.edges target after walk_after v t x) (sym (walk_other v w.0)) (stands_more v t (f.walk v) (f.told v t (sym w.1 ∙ e)))
  ]

  offers_after : (v : ℕ) (t : Step) → step_at opened v ≡ Some t → (xs : List Edge) × Stands g.edges target after walk_after v t xs
  offers_after v t e = let x = f.offers v t e in (x.0, stands_more v t x.0 x.1)

  best_after : (e : Edge) → Contains g.edges e → is_closed target known e.target ≡ true → HasAtMost (step_at opened e.source) (step_by e (cost_of (rest_from target walk_after e.target)) (length (rest_from target walk_after e.target)))
  best_after e c cl = subst (λ r. HasAtMost (step_at opened e.source) (step_by e (cost_of r) (length r))) (sym (rest_same e.target cl)) (f.best e c cl)

  -- the target's own chain closes no node anew
  pub settled_target : u ≡ target → Searched g.edges target after opened
  settled_target is = record {
    walk = walk_after;
    least = least_after;
    told = told_after;
    offers = offers_after;
    best = λ e c cl. elim (closed_less e.target cl) [
      | inl old ↦ best_after e c old
      | inr new ↦ best_after e c (closed_target target known e.target (new ∙ is))
    ];
  }

  -- any other node's edges are offered
  pub settled_other : (row : List Edge) (later : List (Option Step)) → u ≢ target
      → ((e : Edge) → Contains row e → Contains g.edges e × (e.target ≡ u)) → ((e : Edge) → Contains g.edges e → e.target ≡ u → Contains row e)
      → ((e : Edge) → Contains g.edges e → e.source < length opened)
      → Relaxes opened later row s.cost s.length → Searched g.edges target after later
  settled_other row later n sound complete small r =
      let rest_u : (v : ℕ) → v ≡ u → rest_from target walk_after v ≡ es = λ v e. rest_other target walk_after v (λ t. n (sym e ∙ t)) ∙ walk_u v e in
      let cost_is : s.cost ≡ cost_of es = ap (λ x. x.cost) st.is ∙ sym (ap cost_of st.whole) in
      let length_is : s.length ≡ length es = ap (λ x. x.length) st.is ∙ add-one (length (rest_from target f.walk st.edge.target)) ∙ sym (ap length st.whole) in
      let step_same : (e : Edge) (rest : List Edge) → es ≡ rest → step_by e s.cost s.length ≡ step_by e (cost_of rest) (length rest) = λ e rest q. ap (λ c. step_by e c s.length) (cost_is ∙ ap cost_of q) ∙ ap (step_by e (cost_of rest)) (length_is ∙ ap length q) in
      let closed_u : (v : ℕ) → v ≡ u → is_closed target after v ≡ true = λ v e. closed_known target after v s (ap (step_at after) e ∙ get_or-set_same known u (Some s) None fits) in
      record {
        walk = walk_after;
        least = least_after;
        told = told_after;
        offers = λ v t e. elim (r.cause v t e) [
          | inl old ↦ offers_after v t old
          | inr x ↦ let about = sound x.0 x.1 in (
            x.0 ∷ es,
            record {
              edge = x.0;
              of_graph = about.0;
              from = x.2;
              closed = closed_u x.0.target about.1;
              whole = ap (λ y. x.0 ∷ y) (sym (rest_u x.0.target about.1));
              is = x.3 ∙ step_same x.0 (rest_from target walk_after x.0.target) (sym (rest_u x.0.target about.1));
            },
          )
        ];
        best = λ e c cl. elim (closed_less e.target cl) [
          | inl old ↦ has_kept (step_at opened e.source) (step_at later e.source) _ (r.kept e.source) (best_after e c old)
          | inr new ↦ subst (λ y. HasAtMost (step_at later e.source) y) (step_same e (rest_from target walk_after e.target) (sym (rest_u e.target new))) (r.offered e (complete e c new) (small e c))
        ];
      }

  here_after : step_at after u ≡ Some s
  here_after = get_or-set_same known u (Some s) None fits

  -- the chain from the node itself
  pub found : (walk : ℕ → List Edge) × (AreTold g.edges target after walk) × IsLeastChain g.edges u target (walk u) × (step_at after u ≡ Some s)
  found = (walk_after, told_after, least_after u s here_after, here_after)
