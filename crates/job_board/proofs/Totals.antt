-- Sums over drawers.
use Rattle.std.proofs.Common.{◌≡◌, ◌≢◌, ℕ, zero, suc, ◌+◌, ◌≤◌, List, [], ◌∷◌, ◌++◌, set, sym, refl, ap, arith}
use mathlib.Core.Option.{some, some-injective, some-ne-none}
use lib.ListN.{get_elem?}
use Rattle.job_board.specs.declared.hand.Hand.{Hand}
use Rattle.job_board.specs.Rule.{total}

-- Another drawer at a port changes the sum by its own count alone.
pub total-set : (f : Hand → ℕ) (vs : List Hand) (p : ℕ) (v w : Hand) → get_elem? vs p ≡ some v
    → total f (set vs p w) + f v ≡ total f vs + f w
total-set f [] p v w at = absurd (some-ne-none v (sym at))
total-set f (x ∷ xs) zero v w at = let e : f x ≡ f v = ap f (some-injective x v at) in omega arith
total-set f (x ∷ xs) (suc p) v w at =
    let e : total f (set xs p w) + f v ≡ total f xs + f w = total-set f xs p v w at in omega arith

-- A drawer more adds its count.
pub total-snoc : (f : Hand → ℕ) (vs : List Hand) (w : Hand) → total f (vs ++ w ∷ []) ≡ total f vs + f w
total-snoc f [] w = omega arith
total-snoc f (x ∷ xs) w = let e : total f (xs ++ w ∷ []) ≡ total f xs + f w = total-snoc f xs w in omega arith

-- No drawer counts more than all.
pub total-at : (f : Hand → ℕ) (vs : List Hand) (p : ℕ) (v : Hand) → get_elem? vs p ≡ some v → f v ≤ total f vs
total-at f [] p v at = absurd (some-ne-none v (sym at))
total-at f (x ∷ xs) zero v at = let e : f x ≡ f v = ap f (some-injective x v at) in omega arith
total-at f (x ∷ xs) (suc p) v at = let e : f v ≤ total f xs = total-at f xs p v at in omega arith

-- Where no drawer counts, the sum is 0.
pub total-none : (f : Hand → ℕ) (vs : List Hand) → ((j : ℕ) (u : Hand) → get_elem? vs j ≡ some u → f u ≡ 0)
    → total f vs ≡ 0
total-none f [] none = refl
total-none f (x ∷ xs) none =
    let a : f x ≡ 0 = none 0 x refl in
    let b : total f xs ≡ 0 = total-none f xs (λ j u e. none (suc j) u e) in
    omega arith

-- Where one drawer alone counts, the sum is its count.
pub total-alone : (f : Hand → ℕ) (vs : List Hand) (p : ℕ) (v : Hand) → get_elem? vs p ≡ some v
    → ((j : ℕ) (u : Hand) → j ≢ p → get_elem? vs j ≡ some u → f u ≡ 0) → total f vs ≡ f v
total-alone f [] p v at others = absurd (some-ne-none v (sym at))
total-alone f (x ∷ xs) zero v at others =
    let e : f x ≡ f v = ap f (some-injective x v at) in
    let b : total f xs ≡ 0 = total-none f xs (λ j u i. others (suc j) u (λ h. omega arith) i) in
    omega arith
total-alone f (x ∷ xs) (suc p) v at others =
    let a : f x ≡ 0 = others 0 x (λ h. omega arith) refl in
    let b : total f xs ≡ f v = total-alone f xs p v at (λ j u n i. others (suc j) u (λ h. n (omega arith)) i) in
    omega arith
