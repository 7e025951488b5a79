-- The test of pairs.
use Rattle.std.proofs.Common.{◌≡◌, ◌≢◌, ◌⊎◌, ℕ, Bool, true, false, ◌&&◌, eqb, List, sym, refl, ap, ◌∙◌, inl, inr, ⊎_elim, eq-eqb, true≢false}
use mathlib.Core.Logic.{dite}
use native.Mathlib.Decide.{ℕ_discrete}
use Rattle.std.proofs.lemmas.Slice.Eq.{bytes_eq-Decides}
use Rattle.std.proofs.Common.{ne_eqb}
use Rattle.std.specs.Str.{bytes_eq}
use Rattle.runtime_histories.specs.Deeds.{Pair, same_pair}

bytes_itself : (bytes : List ℕ) → bytes_eq bytes bytes ≡ true
bytes_itself bytes = (bytes_eq-Decides bytes bytes).1 refl

and_true : (a b : Bool) → (a && b) ≡ true → (a ≡ true) × (b ≡ true)
and_true true b e = (refl, e)
and_true false b e = absurd (true≢false (sym e))

both_true : (a b c : Bool) → a ≡ true → b ≡ true → c ≡ true → (a && (b && c)) ≡ true
both_true a b c e f g = (λ i. e i && (f i && g i))

eqb_is : (a b : ℕ) → eqb a b ≡ true → a ≡ b
eqb_is a b e = dite (ℕ_discrete a b) (λ (z : a ≡ b). z) (λ ne. absurd (true≢false (sym e ∙ ne_eqb a b ne)))

-- Equal pairs pass it.
pub eq-same : (p q : Pair) → p ≡ q → same_pair p q ≡ true
eq-same p q e = ap (same_pair p) (sym e)
    ∙ both_true (eqb p.generation p.generation) (bytes_eq p.from p.from) (bytes_eq p.to p.to) (eq-eqb p.generation p.generation refl) (bytes_itself p.from) (bytes_itself p.to)

-- Pairs that pass it are equal.
pub same-eq : (p q : Pair) → same_pair p q ≡ true → p ≡ q
same-eq p q e =
    let first = and_true (eqb p.generation q.generation) (bytes_eq p.from q.from && bytes_eq p.to q.to) e in
    let rest = and_true (bytes_eq p.from q.from) (bytes_eq p.to q.to) first.1 in
    let g : p.generation ≡ q.generation = eqb_is p.generation q.generation first.0 in
    let f : p.from ≡ q.from = (bytes_eq-Decides p.from q.from).0 rest.0 in
    let t : p.to ≡ q.to = (bytes_eq-Decides p.to q.to).0 rest.1 in
    (λ i. record { generation = g i; from = f i; to = t i })

not_true : (b : Bool) → (b ≡ true → ⊥) → b ≡ false
not_true true h = absurd (h refl)
not_true false h = refl

-- Pairs that differ fail it.
pub ne-same : (p q : Pair) → p ≢ q → same_pair p q ≡ false
ne-same p q ne = not_true (same_pair p q) (λ e. ne (same-eq p q e))

-- Pairs are equal or differ.
pub pair_cases : (p q : Pair) → (p ≡ q) ⊎ (p ≢ q)
pair_cases p q = go (same_pair p q) refl
  where
    go : (b : Bool) → same_pair p q ≡ b → (p ≡ q) ⊎ (p ≢ q)
    go true e = inl (same-eq p q e)
    go false e = inr (λ z. true≢false (sym (eq-same p q z) ∙ e))

pub pair_dite : {A : Type 0} → (p q : Pair) → (p ≡ q → A) → (p ≢ q → A) → A
pair_dite p q f g = ⊎_elim f g (pair_cases p q)
