-- How the queue covers the open steps.
use Rattle.std.proofs.Common.{◌≡◌, ◌⊎◌, ℕ, zero, suc, ◌<◌, ◌≤◌, List, [], ◌∷◌, length, set, Option, Some, None, Less, Equal, Greater, Ordering, refl, sym, ap, ◌∙◌, subst, inl, inr, arith}
use Rattle.std.specs.List.{Contains}
use Rattle.std.specs.Ordering.{match_ordering}
use Rattle.std.specs.BTreeSet.{insert_key}
use Rattle.std.proofs.lemmas.List.{get_or_past}
use Rattle.std.proofs.lemmas.Bool.{cases_lt}
use Rattle.chain_search.specs.declared.step.Step.{Step}
use Rattle.chain_search.specs.declared.frontier.Open.{Open}
use Rattle.chain_search.specs.Steps.{step_at}
use Rattle.chain_search.specs.Frontier.{IsOpen, IsOpenAt, IsCheapest, NoneOpen, Covers, CoversOthers, AreQueued, entry}
use Rattle.chain_search.proofs.Relaxing.{written}

none_not : (t : Step) → None ≡ Some t → ⊥
none_not t e = cc

-- a step stands within its table
pub in_table : (table : List (Option Step)) (v : ℕ) (t : Step) → step_at table v ≡ Some t → v < length table
in_table table v t e = elim (cases_lt v (length table)) [ inl lt ↦ lt | inr ge ↦ absurd (none_not t (sym (get_or_past table v None ge) ∙ e)) ]

-- an entry is the first or a later one
pub first_or_later : (k x : Open) (ks : List Open) → Contains (k ∷ ks) x → (k ≡ x) ⊎ Contains ks x
first_or_later k x ks (zero, lt, e) = inl e
first_or_later k x ks (suc i, lt, e) = inr (i, omega (arith, lt), e)

first : (k x : Open) (ks : List Open) → k ≡ x → Contains (k ∷ ks) x
first k x ks e = (0, omega arith, e)

later : (k x : Open) (ks : List Open) → Contains ks x → Contains (k ∷ ks) x
later k x ks c = (suc c.0, omega (arith, c.1), c.2)

at_node : (known opened : List (Option Step)) (k : Open) (v : ℕ) (s : Step) → k ≡ entry v s → IsOpen known opened v s → IsOpenAt known opened k s
at_node known opened k v s e o = subst (λ y. IsOpenAt known opened y s) (sym e) (o, refl)

-- without an entry out of date the rest covers the same
pub covers_rest : (known opened : List (Option Step)) (old new : List Open) (k : Open) → old ≡ k ∷ new → Covers known opened old → ((s : Step) → IsOpenAt known opened k s → ⊥) → Covers known opened new
covers_rest known opened old new k e c n = λ v s o. elim (first_or_later k (entry v s) new (subst (λ y. Contains y (entry v s)) e (c v s o))) [
  | inl is ↦ absurd (n s (at_node known opened k v s is o))
  | inr l ↦ l
]

-- without the first entry the rest covers the other nodes
pub covers_others : (known opened : List (Option Step)) (old new : List Open) (k : Open) → old ≡ k ∷ new → Covers known opened old → CoversOthers known opened new k.node
covers_others known opened old new k e c = λ v s n o. elim (first_or_later k (entry v s) new (subst (λ y. Contains y (entry v s)) e (c v s o))) [
  | inl is ↦ absurd (n (sym (ap (λ y. y.node) is)))
  | inr l ↦ l
]

-- the first entry, where it isn't out of date, is that of the cheapest open step
pub cheapest_first : (known opened : List (Option Step)) (old new : List Open) (k : Open) (s : Step) → old ≡ k ∷ new → Covers known opened old → ((x : Open) → Contains new x → k.cost ≤ x.cost) → length known ≡ length opened → IsOpenAt known opened k s → IsCheapest known opened k.node s
cheapest_first known opened old new k s e c above same o = record {
  within = omega (arith, in_table opened k.node s (o.0.offer));
  here = o.0;
  cheapest = λ v t h. elim (first_or_later k (entry v t) new (subst (λ y. Contains y (entry v t)) e (c v t h))) [
    | inl is ↦ let eq : k.cost ≡ t.cost = ap (λ y. y.cost) is in omega (arith, o.1)
    | inr l ↦ omega (arith, o.1, above (entry v t) l)
  ];
}

-- an empty queue covers no open step
pub none_left : (known opened : List (Option Step)) (queue : List Open) → queue ≡ [] → Covers known opened queue → NoneOpen known opened
none_left known opened queue e c = λ v t o. let x = subst (λ y. Contains y (entry v t)) e (c v t o) in omega (arith, x.1)

-- an order in which only equal entries are equal
module _ (cmp : Open → Open → Ordering) (same : (x y : Open) → cmp x y ≡ Equal → x ≡ y) where
  -- an entry that was put into the queue is there
  pub inserted : (ks : List Open) (k : Open) → Contains (insert_key cmp ks k) k
  inserted [] k = first k k [] refl
  inserted (x ∷ xs) k = let f : (o : Ordering) → cmp k x ≡ o → Contains (match_ordering o (k ∷ x ∷ xs) (x ∷ xs) (x ∷ insert_key cmp xs k)) k = λ o e. elim o as (λ p. cmp k x ≡ p → Contains (match_ordering p (k ∷ x ∷ xs) (x ∷ xs) (x ∷ insert_key cmp xs k)) k) [
    | Less ↦ λ _. first k k (x ∷ xs) refl
    | Equal ↦ λ q. first x k xs (sym (same k x q))
    | Greater ↦ λ _. later x k (insert_key cmp xs k) (inserted xs k)
  ] e in f (cmp k x) refl

  -- and each entry before it stays
  pub still_there : (ks : List Open) (k y : Open) → Contains ks y → Contains (insert_key cmp ks k) y
  still_there [] k y c = absurd (omega (arith, c.1))
  still_there (x ∷ xs) k y c = let f : (o : Ordering) → Contains (match_ordering o (k ∷ x ∷ xs) (x ∷ xs) (x ∷ insert_key cmp xs k)) y = λ o. elim o as (λ p. Contains (match_ordering p (k ∷ x ∷ xs) (x ∷ xs) (x ∷ insert_key cmp xs k)) y) [
    | Less ↦ later k y (x ∷ xs) c
    | Equal ↦ c
    | Greater ↦ elim (first_or_later x y xs c) [ inl e ↦ first x y (insert_key cmp xs k) e | inr l ↦ later x y (insert_key cmp xs k) (still_there xs k y l) ]
  ] in f (cmp k x)

some_same : (s t : Step) → Some s ≡ Some t → s ≡ t
some_same s t e = cc

-- no offer yet
pub keeps_all : (table : List (Option Step)) (queue : List Open) → AreQueued table table queue queue
keeps_all table queue = record { entered = λ v s e. inl e; kept = λ k c. c }

-- an offer that was taken, with its entry
pub keeps_more : (old mid : List (Option Step)) (before during after : List Open) (at : ℕ) (b : Step) → at < length mid
    → AreQueued old mid before during → Contains after (entry at b) → ((k : Open) → Contains during k → Contains after k) → AreQueued old (set mid at (Some b)) before after
keeps_more old mid before during after at b lt k here all = record {
  entered = λ v s e. elim (written mid at v b lt) [
    | inl w ↦ let is : s ≡ b = some_same s b (sym e ∙ w.1) in inr (subst (λ y. Contains after (entry v y)) (sym is) (subst (λ u. Contains after (entry u b)) (sym w.0) here))
    | inr w ↦ elim (k.entered v s (sym w.1 ∙ e)) [ inl o ↦ inl o | inr c ↦ inr (all (entry v s) c) ]
  ];
  kept = λ y c. all y (k.kept y c);
}

-- a step has its entry, if it had it where it is an old one
pub has_entry : (old new : List (Option Step)) (before after : List Open) → AreQueued old new before after → (v : ℕ) (s : Step) → step_at new v ≡ Some s
    → (step_at old v ≡ Some s → Contains before (entry v s)) → Contains after (entry v s)
has_entry old new before after q v s e was = elim (q.entered v s e) [ inl o ↦ q.kept (entry v s) (was o) | inr c ↦ c ]
