-- What offering one more edge does.
use Rattle.std.proofs.Common.{◌≡◌, ◌≢◌, ℕ, zero, suc, ◌+◌, ◌<◌, ◌⊎◌, List, [], ◌∷◌, length, get_or, take, set, Option, Some, None, refl, sym, ap, ◌∙◌, subst, inl, inr, arith}
use Rattle.std.specs.List.{Contains}
use Rattle.std.proofs.lemmas.List.{get_or-take, length-take-le, get_or-set_same, get_or-set_other, length-set}
use Rattle.std.proofs.lemmas.Bool.{cases_lt, cases_eq}
use Rattle.module_graph.specs.declared.edge.Edge.{Edge}
use Rattle.chain_search.specs.declared.step.Step.{Step}
use Rattle.chain_search.specs.Steps.{step_at, step_by, NoGreater, HasAtMost, Relaxes}

pub greater_trans : (s t u : Step) → NoGreater s t → NoGreater t u → NoGreater s u
greater_trans s t u a b = record {
  no_dearer = omega (arith, a.no_dearer, b.no_dearer);
  no_longer = λ e. omega (arith, a.no_dearer, b.no_dearer, a.no_longer, b.no_longer, e);
  no_later = λ e f. omega (arith, a.no_dearer, b.no_dearer, a.no_longer, b.no_longer, a.no_later, b.no_later, e, f);
}

pub has_refl : (o : Option Step) (s : Step) → o ≡ Some s → HasAtMost o s
has_refl o s e = rw e (record { no_dearer = omega arith; no_longer = λ _. omega arith; no_later = λ _ _. omega arith })

pub has_trans : (o : Option Step) (s b : Step) → HasAtMost o s → ((t : Step) → o ≡ Some t → NoGreater b t) → NoGreater b s
has_trans None s b h k = absurd h
has_trans (Some t) s b h k = greater_trans b t s (k t refl) h

-- past no end the default has no effect
get_or_any : (row : List Edge) (i : ℕ) (d e : Edge) → i < length row → get_or row i d ≡ get_or row i e
get_or_any [] i d e lt = absurd (omega arith)
get_or_any (x ∷ xs) zero d e lt = refl
get_or_any (x ∷ xs) (suc i) d e lt = get_or_any xs i d e (omega arith)

some_same : (s t : Step) → Some s ≡ Some t → s ≡ t
some_same s t e = cc

-- no edge is among none
pub relax_none : (table : List (Option Step)) (cost len : ℕ) → Relaxes table table [] cost len
relax_none table cost len = record {
  same = refl;
  kept = λ v s e. has_refl _ s e;
  offered = λ e c lt. absurd (omega (arith, c.1));
  cause = λ v s e. inl e;
}

-- an edge of the first ones and one more
contained_more : (row : List Edge) (i : ℕ) (d e : Edge) → i < length row → Contains (take (i + 1) row) e → Contains (take i row) e ⊎ (e ≡ get_or row i d)
contained_more row i d e lt c =
    let n : length (take (i + 1) row) ≡ i + 1 = length-take-le (i + 1) row (omega arith) in
    let m : length (take i row) ≡ i = length-take-le i row (omega arith) in
    let k = c.0 in
    let at : get_or row k e ≡ e = sym (get_or-take (i + 1) row k e (omega (arith, c.1))) ∙ c.2 in
    elim (cases_lt k i) [
      | inl lt' ↦ inl (k, omega arith, get_or-take i row k e lt' ∙ at)
      | inr ge ↦ let is : k ≡ i = omega (arith, c.1) in inr (sym at ∙ ap (λ j. get_or row j e) is ∙ get_or_any row i e d lt)
    ]

pub contained_last : (row : List Edge) (i : ℕ) (d e : Edge) → i < length row → e ≡ get_or row i d → Contains (take (i + 1) row) e
contained_last row i d e lt is =
    let n : length (take (i + 1) row) ≡ i + 1 = length-take-le (i + 1) row (omega arith) in
    (i, omega arith, get_or-take (i + 1) row i e (omega arith) ∙ get_or_any row i e d lt ∙ sym is)

contained_later : (row : List Edge) (i : ℕ) (e : Edge) → i < length row → Contains (take i row) e → Contains (take (i + 1) row) e
contained_later row i e lt c =
    let n : length (take (i + 1) row) ≡ i + 1 = length-take-le (i + 1) row (omega arith) in
    let m : length (take i row) ≡ i = length-take-le i row (omega arith) in
    let k = c.0 in
    (k, omega (arith, c.1), get_or-take (i + 1) row k e (omega (arith, c.1)) ∙ sym (get_or-take i row k e (omega (arith, c.1))) ∙ c.2)

-- what a write at a node leaves at each node
pub written : (table : List (Option Step)) (at v : ℕ) (b : Step) → at < length table → ((v ≡ at) × (step_at (set table at (Some b)) v ≡ Some b)) ⊎ ((v ≢ at) × (step_at (set table at (Some b)) v ≡ step_at table v))
written table at v b lt = elim (cases_eq v at) [
  | inl e ↦ inl (e, rw e (get_or-set_same table at (Some b) None lt))
  | inr n ↦ inr (n, get_or-set_other table at v (Some b) None n)
]

pub relax_more : (old mid : List (Option Step)) (row : List Edge) (cost len i : ℕ) (d : Edge) (b : Step) → i < length row → (get_or row i d).source < length old
    → Relaxes old mid (take i row) cost len
    → NoGreater b (step_by (get_or row i d) cost len)
    → ((s : Step) → step_at mid (get_or row i d).source ≡ Some s → NoGreater b s)
    → (step_at mid (get_or row i d).source ≡ Some b) ⊎ (b ≡ step_by (get_or row i d) cost len)
    → Relaxes old (set mid (get_or row i d).source (Some b)) (take (i + 1) row) cost len
relax_more old mid row cost len i d b lt fits r offer best cause =
    let at = (get_or row i d).source in
    let room : at < length mid = omega (arith, r.same) in
    record {
      same = length-set mid at (Some b) ∙ r.same;
      kept = λ v s e. elim (written mid at v b room) [
        | inl w ↦ rw w.1 (has_trans (step_at mid v) s b (r.kept v s e) (λ t g. best t (ap (step_at mid) (sym w.0) ∙ g)))
        | inr w ↦ rw w.1 (r.kept v s e)
      ];
      offered = λ e c fit. elim (contained_more row i d e lt c) [
        | inl before ↦ elim (written mid at e.source b room) [
          | inl w ↦ rw w.1 (has_trans (step_at mid e.source) (step_by e cost len) b (r.offered e before fit) (λ t g. best t (ap (step_at mid) (sym w.0) ∙ g)))
          | inr w ↦ rw w.1 (r.offered e before fit)
        ]
        | inr is ↦ elim (written mid at e.source b room) [
          | inl w ↦ rw w.1 (subst (λ x. NoGreater b (step_by x cost len)) (sym is) offer)
          | inr w ↦ absurd (w.0 (ap (λ x. x.source) is))
        ]
      ];
      cause = λ v s e. elim (written mid at v b room) [
        | inl w ↦ let same : s ≡ b = some_same s b (sym e ∙ w.1) in
            elim cause [
              | inl was ↦ elim (r.cause v s (ap (step_at mid) w.0 ∙ was ∙ ap Some (sym same))) [ inl o ↦ inl o | inr x ↦ inr (x.0, contained_later row i x.0 lt x.1, x.2, x.3) ]
              | inr is ↦ inr (get_or row i d, contained_last row i d (get_or row i d) lt refl, sym w.0, same ∙ is)
            ]
        | inr w ↦ elim (r.cause v s (sym w.1 ∙ e)) [ inl o ↦ inl o | inr x ↦ inr (x.0, contained_later row i x.0 lt x.1, x.2, x.3) ]
      ];
    }

-- the last of these edges had no better offer
pub kept_more : (old mid : List (Option Step)) (row : List Edge) (cost len i : ℕ) (d : Edge) → i < length row → Relaxes old mid (take i row) cost len
    → HasAtMost (step_at mid (get_or row i d).source) (step_by (get_or row i d) cost len) → Relaxes old mid (take (i + 1) row) cost len
kept_more old mid row cost len i d lt r has = record {
  same = r.same;
  kept = r.kept;
  offered = λ e c fit. elim (contained_more row i d e lt c) [
    | inl before ↦ r.offered e before fit
    | inr is ↦ subst (λ x. HasAtMost (step_at mid x.source) (step_by x cost len)) (sym is) has
  ];
  cause = λ v s e. elim (r.cause v s e) [ inl o ↦ inl o | inr x ↦ inr (x.0, contained_later row i x.0 lt x.1, x.2, x.3) ];
}
