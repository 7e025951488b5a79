-- A mask without a bit tells of every lane.
use Rattle.std.proofs.Common.{◌≡◌, ◌≢◌, ℕ, ◌+◌, ◌*◌, ◌%◌, ◌^◌, ◌≤◌, Bool, true, false, not, cond, eqb, leb, List, [], ◌∷◌, map, length, replicate, refl, sym, ap, ◌∙◌, arith, w8, eqb-true}
use Rattle.std.proofs.lemmas.List.{length-map}
use Rattle.std.proofs.lemmas.Bool.{leb-false}
use Rattle.std.specs.List.{AllByRecursion}
use Rattle.std.proofs.lemmas.Bool.Decides.{nat_tests}
use Rattle.std.proofs.lemmas.Simd.{bitmask_splat, tops_compared, zip2_splat_left, mask_l-mod, length-zip2}
use lib.Lanes.{zip2, mask_l, top}
use Rattle.ascii_lanes.specs.Plain.{ArePlain}

abbrev pub is_high : ℕ → Bool
is_high x = leb 128 x

abbrev pub differ : ℕ → ℕ → Bool
differ x y = not (eqb x y)

plain_lanes : (v : List ℕ) → mask_l (map is_high v) ≡ 0 → ArePlain v
plain_lanes [] none = tt
plain_lanes (x ∷ v) none = go (plain_lanes v) (leb 128 x) refl
  where
    go : (mask_l (map is_high v) ≡ 0 → ArePlain v) → (b : Bool) → leb 128 x ≡ b → ArePlain (x ∷ v)
    go rest true e = absurd (let h : 1 + 2 * mask_l (map is_high v) ≡ 0 = rw e at none in omega arith)
    go rest false e =
        let h : 0 + 2 * mask_l (map is_high v) ≡ 0 = rw e at none in
        (omega (arith, leb-false _ _ e), rest (omega arith))

-- `simd_ge` with 128, whose arguments come swapped, sets no bit
pub none_high : (v : List ℕ) → length v ≡ 16 →
    mask_l (map (top 7) (zip2 (λ a b. cond (leb a b) 255 0) (replicate 16 128) v)) % 2 ^ 64 ≡ 0 → ArePlain v
none_high v long none =
    let same : mask_l (map (top 7) (zip2 (λ a b. cond (leb a b) 255 0) (replicate 16 128) v)) % 2 ^ 64 ≡ mask_l (map is_high v) =
    ap (λ ms. mask_l ms % 2 ^ 64) (tops_compared w8 leb (replicate 16 128) v ∙ zip2_splat_left leb 128 16 v long)
    ∙ mask_l-mod (map is_high v) 64 (omega (arith, length-map v is_high)) in
    plain_lanes v (sym same ∙ none)

same_lanes : (a b : List ℕ) → length a ≡ length b → mask_l (zip2 differ a b) ≡ 0 → a ≡ b
same_lanes [] [] long none = refl
same_lanes [] (y ∷ b) long none = absurd (omega arith)
same_lanes (x ∷ a) [] long none = absurd (omega arith)
same_lanes (x ∷ a) (y ∷ b) long none = go (same_lanes a b) (eqb x y) refl
  where
    go : (length a ≡ length b → mask_l (zip2 differ a b) ≡ 0 → a ≡ b) → (c : Bool) → eqb x y ≡ c → x ∷ a ≡ y ∷ b
    go rest true e =
        let h : 0 + 2 * mask_l (zip2 differ a b) ≡ 0 = rw e at none in
        let head : x ≡ y = eqb-true x y e in
        let tail : a ≡ b = rest (omega arith) (omega arith) in
        ap (λ z. z ∷ a) head ∙ ap (λ z. y ∷ z) tail
    go rest false e = absurd (let h : 1 + 2 * mask_l (zip2 differ a b) ≡ 0 = rw e at none in omega arith)

-- `simd_ne` sets no bit
pub none_differ : (n : ℕ) → n ≤ 64 → (a b : List ℕ) → length a ≡ n → length b ≡ n →
    mask_l (map (top 7) (zip2 (λ x y. cond (differ x y) 255 0) a b)) % 2 ^ 64 ≡ 0 → a ≡ b
none_differ n few a b long other none =
    let same : mask_l (map (top 7) (zip2 (λ x y. cond (differ x y) 255 0) a b)) % 2 ^ 64 ≡ mask_l (zip2 differ a b) =
    ap (λ ms. mask_l ms % 2 ^ 64) (tops_compared w8 differ a b)
    ∙ mask_l-mod (zip2 differ a b) 64 (omega (arith, few, long, length-zip2 differ a b (long ∙ sym other))) in
    same_lanes a b (long ∙ sym other) (sym same ∙ none)

-- `simd_eq` with a byte sets no bit
pub none_equal : (v : List ℕ) (byte : ℕ) → length v ≡ 16 →
    mask_l (map (top 7) (zip2 (λ a b. cond (eqb a b) 255 0) v (replicate 16 byte))) % 2 ^ 64 ≡ 0 → AllByRecursion (λ p. p ≢ byte) v
none_equal v byte long none = others v (sym (bitmask_splat w8 eqb v 16 byte long (omega arith)) ∙ none)
  where
    others : (v : List ℕ) → mask_l (map (λ x. eqb x byte) v) ≡ 0 → AllByRecursion (λ p. p ≢ byte) v
    others [] none = tt
    others (x ∷ v) none = go (others v) (eqb x byte) refl
      where
        go : (mask_l (map (λ x. eqb x byte) v) ≡ 0 → AllByRecursion (λ p. p ≢ byte) v) → (b : Bool) → eqb x byte ≡ b → AllByRecursion (λ p. p ≢ byte) (x ∷ v)
        go rest true e = absurd (let h : 1 + 2 * mask_l (map (λ x. eqb x byte) v) ≡ 0 = rw e at none in omega arith)
        go rest false e =
            let h : 0 + 2 * mask_l (map (λ x. eqb x byte) v) ≡ 0 = rw e at none in
            (λ same. absurd (let yes1 : eqb x byte ≡ true = grind (arith, nat_tests, same) in let f : false ≡ true = sym e ∙ yes1 in grind arith), rest (omega arith))
