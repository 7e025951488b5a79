-- Numbers that were drawn, and how often each stands among them.
use Rattle.std.proofs.Common.{◌≡◌, ◌∙◌, ◌⊎◌, inl, inr, ◌≤◌, ◌+◌, ℕ, zero, suc, Bool, true, false, cond, if◌then◌else◌, List, [], ◌∷◌, length, map, ap, refl, arith}
use Rattle.std.specs.List.{AllByRecursion, filter}
use Rattle.job_board.specs.Numbers.{weight}
use Rattle.batch_runs.specs.Histories as runs
use Rattle.batch_runs.specs.Takings.{Taking, Got, Missed}
use Rattle.batch_workers.specs.Toils.{is_taken, places, taken_places}

-- what numbers weigh is said in two crates
pub weight-same : (of : ℕ → ℕ) (xs : List ℕ) → weight of xs ≡ runs.weight of xs
weight-same of [] = refl
weight-same of (x ∷ xs) = ap (λ a. of x + a) (weight-same of xs)

pub weight-suc : (of : ℕ → ℕ) (xs : List ℕ) → weight of (map suc xs) ≡ weight (λ x. of (suc x)) xs
weight-suc of [] = refl
weight-suc of (x ∷ xs) = ap (λ a. of (suc x) + a) (weight-suc of xs)

-- 1 for a number that fails a test
abbrev unless : (ℕ → Bool) → ℕ → ℕ
unless test n = if test n then 0 else 1

pub taken-pass : (ts : List Taking) → weight (unless (is_taken ts)) (taken_places ts) ≡ 0
taken-pass [] = refl
taken-pass (Got x ∷ ts) = let e = weight-suc (unless (is_taken (Got x ∷ ts))) (taken_places ts) in let i = taken-pass ts in omega (arith, e, i)
taken-pass (Missed miss ∷ ts) = weight-suc (unless (is_taken (Missed miss ∷ ts))) (taken_places ts) ∙ taken-pass ts

pub pass-all : (test : ℕ → Bool) (xs : List ℕ) → weight (unless test) xs ≡ 0 → AllByRecursion (λ (n : ℕ). test n ≡ true) xs
pass-all test [] h = tt
pass-all test (x ∷ xs) h = go (pass-all test xs (omega (arith, h))) (test x) refl
  where
    go : AllByRecursion (λ (n : ℕ). test n ≡ true) xs → (b : Bool) → test x ≡ b → AllByRecursion (λ (n : ℕ). test n ≡ true) (x ∷ xs)
    go rest true is = (is, rest)
    go rest false is = absurd (let e = ap {B = ℕ} (λ (b : Bool). if b then 0 else 1) is in omega (arith, e, h))

pub filter-all : (test : ℕ → Bool) (xs : List ℕ) → AllByRecursion (λ (n : ℕ). test n ≡ true) xs → filter test xs ≡ xs
filter-all test [] h = refl
filter-all test (x ∷ xs) h = ap (λ (b : Bool). cond b (x ∷ filter test xs) (filter test xs)) h.0 ∙ ap (λ ys. x ∷ ys) (filter-all test xs h.1)

-- what passes a test weighs at most what all weigh
pub filter-less : (of : ℕ → ℕ) (test : ℕ → Bool) (xs : List ℕ) → weight of (filter test xs) ≤ weight of xs
filter-less of test [] = omega arith
filter-less of test (x ∷ xs) = go (filter-less of test xs) (test x) refl
  where
    go : weight of (filter test xs) ≤ weight of xs → (b : Bool) → test x ≡ b → weight of (filter test (x ∷ xs)) ≤ weight of (x ∷ xs)
    go rest true is = let e = ap (λ (b : Bool). weight of (cond b (x ∷ filter test xs) (filter test xs))) is in omega (arith, e, rest)
    go rest false is = let e = ap (λ (b : Bool). weight of (cond b (x ∷ filter test xs) (filter test xs))) is in omega (arith, e, rest)

-- the places whose input was taken are some of all places
pub taken-less : {A : Type 0} (of : ℕ → ℕ) (ts : List Taking) (xs : List A) → length ts ≡ length xs → weight of (taken_places ts) ≤ weight of (places xs)
taken-less of [] [] same = omega arith
taken-less of [] (x ∷ xs) same = omega arith
taken-less of (t ∷ ts) [] same = absurd (omega (arith, same))
taken-less of (Got y ∷ ts) (x ∷ xs) same =
    let a = weight-suc of (taken_places ts) in
    let b = weight-suc of (places xs) in
    let i = taken-less (λ n. of (suc n)) ts xs (omega (arith, same)) in
    omega (arith, a, b, i)
taken-less of (Missed miss ∷ ts) (x ∷ xs) same =
    let a = weight-suc of (taken_places ts) in
    let b = weight-suc of (places xs) in
    let i = taken-less (λ n. of (suc n)) ts xs (omega (arith, same)) in
    omega (arith, a, b, i)

-- 1 where two numbers are the same
abbrev pub same : ℕ → ℕ → ℕ
same zero zero = 1
same zero (suc m) = 0
same (suc n) zero = 0
same (suc n) (suc m) = same n m

pub same-self : (n : ℕ) → same n n ≡ 1
same-self zero = refl
same-self (suc n) = same-self n

pub same-sym : (n m : ℕ) → same n m ≡ same m n
same-sym zero zero = refl
same-sym zero (suc m) = refl
same-sym (suc n) zero = refl
same-sym (suc n) (suc m) = same-sym n m

pub same-cases : (n m : ℕ) → (same n m ≡ 0) ⊎ (m ≡ n)
same-cases zero zero = inr refl
same-cases zero (suc m) = inl refl
same-cases (suc n) zero = inl refl
same-cases (suc n) (suc m) = go (same-cases n m)
  where
    go : (same n m ≡ 0) ⊎ (m ≡ n) → (same n m ≡ 0) ⊎ (suc m ≡ suc n)
    go (inl none) = inl none
    go (inr one) = inr (ap suc one)

none-first : (ps : List ℕ) → weight (λ m. same zero (suc m)) ps ≡ 0
none-first [] = refl
none-first (p ∷ ps) = let i = none-first ps in omega (arith, i)

-- no place is there twice
pub taken-once : (ts : List Taking) (n : ℕ) → weight (same n) (taken_places ts) ≤ 1
taken-once [] n = omega arith
taken-once (Got x ∷ ts) zero = let a = weight-suc (same zero) (taken_places ts) in let b = none-first (taken_places ts) in omega (arith, a, b)
taken-once (Got x ∷ ts) (suc n) = let a = weight-suc (same (suc n)) (taken_places ts) in let i = taken-once ts n in omega (arith, a, i)
taken-once (Missed miss ∷ ts) zero = let a = weight-suc (same zero) (taken_places ts) in let b = none-first (taken_places ts) in omega (arith, a, b)
taken-once (Missed miss ∷ ts) (suc n) = let a = weight-suc (same (suc n)) (taken_places ts) in let i = taken-once ts n in omega (arith, a, i)

-- each place whose input was taken is there
pub taken-there : (ts : List Taking) (n : ℕ) → is_taken ts n ≡ true → 1 ≤ weight (same n) (taken_places ts)
taken-there [] n h = absurd (cc)
taken-there (Got x ∷ ts) zero h = omega arith
taken-there (Got x ∷ ts) (suc n) h = let a = weight-suc (same (suc n)) (taken_places ts) in let i = taken-there ts n h in omega (arith, a, i)
taken-there (Missed miss ∷ ts) zero h = absurd (cc)
taken-there (Missed miss ∷ ts) (suc n) h = let a = weight-suc (same (suc n)) (taken_places ts) in let i = taken-there ts n h in omega (arith, a, i)
