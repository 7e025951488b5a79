-- How far a text is plain, block by block.
use Rattle.std.proofs.Common.{◌≡◌, ℕ, zero, suc, ◌+◌, ◌-◌, ◌*◌, ◌%◌, ◌^◌, ◌≤◌, ◌<◌, Bool, true, false, cond, ltb, List, [], ◌∷◌, map, length, take, drop, replicate, refl, sym, ap, ◌∙◌, subst, arith, w8, Fits}
use Rattle.std.specs.Prelude.{nat_lt, IsTrue}
use Rattle.std.specs.List.{prefix_len, AllByRecursion}
use Rattle.std.proofs.lemmas.Bool.Decides.{nat_tests}
use Rattle.std.proofs.lemmas.Simd.{bitmask_splat, zip2_splat, length-zip2, length-replicate, map-map}
use lib.Lanes.{zip2, mask_l, top, Each1}
use Rattle.ascii_lanes.specs.Plain.{ArePlain}
use Rattle.ascii_lanes.specs.Runs.{ascii_run, numbers, number_of, high_bytes, is_plain_unit, plain_units}

-- what passes is counted, and then the rest is
pub run_on : (p : ℕ → Bool) (n : ℕ) (xs : List ℕ) → n ≤ length xs → AllByRecursion (λ x. IsTrue (p x)) (take n xs) → prefix_len p xs ≡ n + prefix_len p (drop n xs)
run_on p zero xs le all = omega arith
run_on p (suc n) [] le all = absurd (omega arith)
run_on p (suc n) (x ∷ xs) le all =
    let rest : prefix_len p xs ≡ n + prefix_len p (drop n xs) = run_on p n xs (omega arith) all.1 in
    let one : prefix_len p (x ∷ xs) ≡ 1 + prefix_len p xs = ap (λ b. cond b (1 + prefix_len p xs) 0) all.0 in
    omega (arith, one, rest)

-- points below 80 hex pass
pub plain_pass : (xs : List ℕ) → ArePlain xs → AllByRecursion (λ x. IsTrue (nat_lt x 0x80)) xs
plain_pass [] plain = tt
plain_pass (x ∷ xs) plain = (grind (arith, nat_tests, plain.0), plain_pass xs plain.1)

-- a block of bytes below 80 hex is counted
pub ascii_on : (n : ℕ) (xs : List ℕ) → n ≤ length xs → ArePlain (take n xs) → ascii_run xs ≡ n + ascii_run (drop n xs)
ascii_on n xs le plain = run_on (λ b. nat_lt b 0x80) n xs le (plain_pass (take n xs) plain)

-- units that are no surrogates are counted, and then the rest is
pub units_on : (big : Bool) (n : ℕ) (xs : List ℕ) → 2 * n ≤ length xs → AllByRecursion (λ x. IsTrue (is_plain_unit x)) (numbers big (take (2 * n) xs)) →
    plain_units big xs ≡ 2 * n + plain_units big (drop (2 * n) xs)
units_on big zero xs le all = omega arith
units_on big (suc n) [] le all = absurd (omega arith)
units_on big (suc n) (a ∷ []) le all = absurd (omega arith)
units_on big (suc n) (a ∷ b ∷ xs) le all =
    let twice : 2 * suc n ≡ suc (suc (2 * n)) = omega arith in
    let all' : AllByRecursion (λ x. IsTrue (is_plain_unit x)) (numbers big (a ∷ b ∷ take (2 * n) xs)) =
    subst (λ k. AllByRecursion (λ x. IsTrue (is_plain_unit x)) (numbers big (take k (a ∷ b ∷ xs)))) twice all in
    let rest : plain_units big xs ≡ 2 * n + plain_units big (drop (2 * n) xs) = units_on big n xs (omega arith) all'.1 in
    let one : prefix_len is_plain_unit (numbers big (a ∷ b ∷ xs)) ≡ 1 + prefix_len is_plain_unit (numbers big xs) =
    ap (λ b. cond b (1 + prefix_len is_plain_unit (numbers big xs)) 0) all'.0 in
    let there : drop (2 * suc n) (a ∷ b ∷ xs) ≡ drop (2 * n) xs = ap (λ k. drop k (a ∷ b ∷ xs)) twice in
    let last : plain_units big (drop (2 * suc n) (a ∷ b ∷ xs)) ≡ plain_units big (drop (2 * n) xs) = ap (plain_units big) there in
    omega (arith, one, rest, last)

none_pass : (t : ℕ → Bool) (v : List ℕ) → mask_l (map t v) ≡ 0 → AllByRecursion (λ x. t x ≡ false) v
none_pass t [] none = tt
none_pass t (x ∷ v) none = go (none_pass t v) (t x) refl
  where
    go : (mask_l (map t v) ≡ 0 → AllByRecursion (λ x. t x ≡ false) v) → (b : Bool) → t x ≡ b → AllByRecursion (λ x. t x ≡ false) (x ∷ v)
    go rest true e = absurd (let h : 1 + 2 * mask_l (map t v) ≡ 0 = rw e at none in omega arith)
    go rest false e =
        let h : 0 + 2 * mask_l (map t v) ≡ 0 = rw e at none in
        (e, rest (omega arith))

-- how far a byte lies behind D8 hex, around
abbrev pub behind : ℕ → ℕ
behind h = (h + (2 ^ 8 - 216)) % 2 ^ 8

high_plain : (v : List ℕ) → Each1 (Fits w8) v → AllByRecursion (λ x. ltb (behind x) 8 ≡ false) v → AllByRecursion (λ h. IsTrue (is_plain_unit (256 * h))) v
high_plain [] fits none = tt
high_plain (x ∷ v) fits none = (one x fits.0.fits none.0, high_plain v fits.1 none.1)
  where
    one : (x : ℕ) → x < 256 → ltb (behind x) 8 ≡ false → IsTrue (is_plain_unit (256 * x))
    one x lt e = grind (arith, nat_tests, lt, e)

-- no byte is the high one of a surrogate, where the test sets no bit
pub no_high : (v : List ℕ) → length v ≡ 8 → Each1 (Fits w8) v →
    mask_l (map (top 7) (zip2 (λ a b. cond (ltb a b) 255 0) (zip2 (λ a b. (a + (2 ^ 8 - b)) % 2 ^ 8) v (replicate 8 216)) (replicate 8 8))) % 2 ^ 64 ≡ 0 →
    AllByRecursion (λ h. IsTrue (is_plain_unit (256 * h))) v
no_high v long fits none =
    let same : zip2 (λ a b. (a + (2 ^ 8 - b)) % 2 ^ 8) v (replicate 8 216) ≡ map behind v = zip2_splat (λ a b. (a + (2 ^ 8 - b)) % 2 ^ 8) v 8 216 long in
    let sub = zip2 (λ a b. (a + (2 ^ 8 - b)) % 2 ^ 8) v (replicate 8 216) in
    let size : length sub ≡ 8 = length-zip2 (λ a b. (a + (2 ^ 8 - b)) % 2 ^ 8) v (replicate 8 216) (long ∙ sym (length-replicate {A = ℕ} 8 216)) ∙ long in
    let bits : mask_l (map (λ x. ltb x 8) sub) ≡ 0 = sym (bitmask_splat w8 ltb sub 8 8 size (omega arith)) ∙ none in
    let each : mask_l (map (λ x. ltb (behind x) 8) v) ≡ 0 = ap mask_l (sym (map-map (λ x. ltb x 8) behind v)) ∙ ap (λ z. mask_l (map (λ x. ltb x 8) z)) (sym same) ∙ bits in
    high_plain v fits (none_pass (λ x. ltb (behind x) 8) v each)

-- units whose high bytes are those of no surrogates are none
pub high_tells : (big : Bool) (v : List ℕ) → Each1 (Fits w8) v → AllByRecursion (λ h. IsTrue (is_plain_unit (256 * h))) (high_bytes big v) →
    AllByRecursion (λ n. IsTrue (is_plain_unit n)) (numbers big v)
high_tells big [] fits all = tt
high_tells big (a ∷ []) fits all = tt
high_tells true (a ∷ b ∷ v) fits all = (one a b fits.1.0.fits all.0, high_tells true v fits.1.1 all.1)
  where
    one : (a b : ℕ) → b < 256 → IsTrue (is_plain_unit (256 * a)) → IsTrue (is_plain_unit (256 * a + b))
    one a b lt e = grind (arith, nat_tests, lt, e)
high_tells false (a ∷ b ∷ v) fits all = (one a b fits.0.fits all.0, high_tells false v fits.1.1 all.1)
  where
    one : (a b : ℕ) → a < 256 → IsTrue (is_plain_unit (256 * b)) → IsTrue (is_plain_unit (a + 256 * b))
    one a b lt e = grind (arith, nat_tests, lt, e)

-- a surrogate ends what is counted
pub units_stop : (big : Bool) (a b : ℕ) (xs : List ℕ) → is_plain_unit (number_of big a b) ≡ false → plain_units big (a ∷ b ∷ xs) ≡ 0
units_stop big a b xs fails = ap (λ t. 2 * cond t (1 + prefix_len is_plain_unit (numbers big xs)) 0) fails

-- and so does the end of the text
pub units_end : (big : Bool) (xs : List ℕ) → length xs < 2 → plain_units big xs ≡ 0
units_end big [] few = refl
units_end big (a ∷ []) few = refl
units_end big (a ∷ b ∷ xs) few = absurd (omega arith)
