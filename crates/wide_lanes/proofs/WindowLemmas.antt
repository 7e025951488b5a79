-- Vectors that are computed byte by byte from windows.
use Rattle.std.proofs.Common.{◌≡◌, ℕ, ◌+◌, ◌-◌, ◌*◌, ◌/◌, ◌%◌, ◌^◌, ◌≤◌, ◌<◌, Bool, true, false, ◌&&◌, ◌||◌, cond, leb, ltb, List, [], ◌∷◌, map, length, take, get_or, replicate, bit_and, bit_or, bit_xor, refl, sym, ap, ◌∙◌, subst, arith, inl, inr, w8, w16, Fits}
use Rattle.std.specs.Prelude.{nat_lt, nat_le, if◌then◌else◌}
use Rattle.std.specs.List.{range_with_len}
use Rattle.std.proofs.lemmas.Bool.Decides.{nat_tests}
use Rattle.std.proofs.lemmas.Bool.{cases_lt}
use Rattle.std.proofs.lemmas.List.{ext_get_or, length-map}
use Rattle.std.proofs.lemmas.List.FromFn.{length-map-range_with_len, get_or-map-range_with_len}
use Rattle.std.proofs.lemmas.Simd.{tops_compared, zip2_splat, zip2_splat_left, zip2_of_maps, splat_is_map, map-map, mask_l-mod}
use lib.Lanes.{zip2, mask_l, top, sel_l, Each1}
use Rattle.wide_lanes.specs.Ends.{Window, windows, AreBytes, is_in, flag, either, picked}
use Rattle.wide_lanes.proofs.LaneLemmas.{constant_map, sel_maps}

abbrev pub listed : (ℕ → ℕ) → ℕ → List ℕ
listed f n = map f (range_with_len 0 n)

-- a fact of each list of n numbers, from the same of n numbers written out
pub spelled : (P : List ℕ → Type 0) (n : ℕ) → ((f : ℕ → ℕ) → P (listed f n)) → (xs : List ℕ) → length xs ≡ n → P xs
spelled P n h xs long =
    let f = λ (k : ℕ). get_or xs k 0 in
    let many = length-map-range_with_len f 0 n in
    subst P (ext_get_or 0 _ xs (many ∙ sym long) (λ i l. get_or-map-range_with_len f 0 n i i 0 (omega arith) (omega arith))) (h f)

-- a vector, the same moved by one and by two
pub bytes_shown : (v : List ℕ) → length v ≡ 16 → AreBytes (windows 0 0 v) (0 ∷ take 15 (0 ∷ take 15 v)) (0 ∷ take 15 v) v
bytes_shown = spelled (λ v. AreBytes (windows 0 0 v) (0 ∷ take 15 (0 ∷ take 15 v)) (0 ∷ take 15 v) v) 16 (λ f. record { two = refl; one = refl; here = refl })

pub map_all : {A B : Type 0} (f g : A → B) → ((x : A) → f x ≡ g x) → (v : List A) → map f v ≡ map g v
map_all f g same [] = refl
map_all f g same (x ∷ v) = λ i. same x i ∷ map_all f g same v i

pub or_flag : (s t : Bool) → bit_or (flag s) (flag t) ≡ flag (s || t)
or_flag true true = refl
or_flag true false = refl
or_flag false true = refl
or_flag false false = refl

pub and_flag : (s t : Bool) → bit_and (flag s) (flag t) ≡ flag (s && t)
and_flag true true = refl
and_flag true false = refl
and_flag false true = refl
and_flag false false = refl

pub either_flag : (s t : Bool) → bit_xor (flag s) (flag t) ≡ flag (either s t)
either_flag true true = refl
either_flag true false = refl
either_flag false true = refl
either_flag false false = refl

pub flag_set : (t : Bool) → leb 128 (flag t) ≡ t
flag_set true = refl
flag_set false = refl

-- an operator on two vectors of flags
pub zip_flags : (op : ℕ → ℕ → ℕ) (both : Bool → Bool → Bool) → ((s t : Bool) → op (flag s) (flag t) ≡ flag (both s t)) → (s t : Window → Bool) (ws : List Window) (xs ys : List ℕ) →
    xs ≡ map (λ w. flag (s w)) ws → ys ≡ map (λ w. flag (t w)) ws → zip2 op xs ys ≡ map (λ w. flag (both (s w) (t w))) ws
zip_flags op both same s t ws xs ys ex ey =
    zip2_of_maps op (λ (w : Window). flag (s w)) (λ (w : Window). flag (t w)) ws ex ey ∙ map_all _ _ (λ (w : Window). same (s w) (t w)) ws

-- a range of bytes, told of one byte of each window
pub in_field : (from count : ℕ) (field : Window → ℕ) (ws : List Window) (v r : List ℕ) → v ≡ map field ws → r ≡ map (λ b. flag (is_in from count b)) v → r ≡ map (λ w. flag (is_in from count (field w))) ws
in_field from count field ws v r of is = is ∙ ap (map (λ b. flag (is_in from count b))) of ∙ map-map (λ b. flag (is_in from count b)) field ws

is_within : (from count x : ℕ) → x < 256 → from < 256 → from + count ≤ 256 → ltb ((x + (2 ^ 8 - from)) % 2 ^ 8) count ≡ is_in from count x
is_within from count x small start fits = elim (cases_lt x from) [
  | inl lt ↦
      let far : ltb ((x + (2 ^ 8 - from)) % 2 ^ 8) count ≡ false = let e : (x + (256 - from)) % 256 ≡ x + (256 - from) = omega (arith, small, start, lt) in grind (arith, nat_tests, e, lt, fits) in
      let no1 : nat_le from x ≡ false = grind (arith, nat_tests, lt) in
      rw (far, no1) refl
  | inr ge ↦
      let e : (x + (2 ^ 8 - from)) % 2 ^ 8 ≡ x - from = omega (arith, small, start, ge) in
      let yes1 : nat_le from x ≡ true = grind (arith, nat_tests, ge) in
      elim (cases_lt x (from + count)) [
        | inl lt ↦
            let near : ltb (x - from) count ≡ true = grind (arith, nat_tests, lt, ge) in
            let is : nat_lt x (from + count) ≡ true = grind (arith, nat_tests, lt) in
            rw (e, near, yes1, is) refl
        | inr over ↦
            let far : ltb (x - from) count ≡ false = grind (arith, nat_tests, over, ge) in
            let no2 : nat_lt x (from + count) ≡ false = grind (arith, nat_tests, over) in
            rw (e, far, yes1, no2) refl
      ]
]

bytes_within : (from count : ℕ) → from < 256 → from + count ≤ 256 → (v : List ℕ) → Each1 (Fits w8) v → map (λ x. cond (ltb ((x + (2 ^ 8 - from)) % 2 ^ 8) count) 255 0) v ≡ map (λ b. flag (is_in from count b)) v
bytes_within from count start fits [] each = refl
bytes_within from count start fits (x ∷ v) each = λ i. flag (is_within from count x each.0.fits start fits i) ∷ bytes_within from count start fits v each.1 i

-- the lanes of a range
pub range_lanes : (from count : ℕ) → from < 256 → from + count ≤ 256 → (v : List ℕ) → length v ≡ 16 → Each1 (Fits w8) v →
    sel_l (map (top 7) (zip2 (λ a b. cond (ltb a b) 255 0) (zip2 (λ a b. (a + (2 ^ 8 - b)) % 2 ^ 8) v (replicate 16 from)) (replicate 16 count))) (replicate 16 255) (replicate 16 0)
    ≡ map (λ b. flag (is_in from count b)) v
range_lanes from count start fits v long each =
    let sub : ℕ → ℕ = λ x. (x + (2 ^ 8 - from)) % 2 ^ 8 in
    let moved : zip2 (λ a b. (a + (2 ^ 8 - b)) % 2 ^ 8) v (replicate 16 from) ≡ map sub v = zip2_splat (λ a b. (a + (2 ^ 8 - b)) % 2 ^ 8) v 16 from long in
    let tests : map (top 7) (zip2 (λ a b. cond (ltb a b) 255 0) (zip2 (λ a b. (a + (2 ^ 8 - b)) % 2 ^ 8) v (replicate 16 from)) (replicate 16 count)) ≡ map (λ x. ltb (sub x) count) v =
    tops_compared w8 ltb (zip2 (λ a b. (a + (2 ^ 8 - b)) % 2 ^ 8) v (replicate 16 from)) (replicate 16 count)
    ∙ ap (λ z. zip2 ltb z (replicate 16 count)) moved ∙ zip2_of_maps ltb sub (λ _. count) v refl (splat_is_map v 16 count long) in
    ap (λ t. sel_l t (replicate 16 255) (replicate 16 0)) tests
    ∙ ap (λ z. sel_l (map (λ x. ltb (sub x) count) v) z (replicate 16 0)) (constant_map 255 16 v long)
    ∙ ap (λ z. sel_l (map (λ x. ltb (sub x) count) v) (map (λ _. 255) v) z) (constant_map 0 16 v long)
    ∙ sel_maps (λ x. ltb (sub x) count) (λ _. 255) (λ _. 0) v
    ∙ bytes_within from count start fits v each

sel_all : (t : Window → Bool) (g h : Window → ℕ) (ws : List Window) → sel_l (map t ws) (map g ws) (map h ws) ≡ map (λ w. cond (t w) (g w) (h w)) ws
sel_all t g h [] = refl
sel_all t g h (w ∷ ws) = ap (λ z. cond (t w) (g w) (h w) ∷ z) (sel_all t g h ws)

pub sel_windows : (t : Window → Bool) (g h : Window → ℕ) (ws : List Window) (ts : List Bool) (xs ys : List ℕ) → ts ≡ map t ws → xs ≡ map g ws → ys ≡ map h ws →
    sel_l ts xs ys ≡ map (λ w. cond (t w) (g w) (h w)) ws
sel_windows t g h ws ts xs ys et ex ey =
    ap (λ z. sel_l z xs ys) et ∙ ap (λ z. sel_l (map t ws) z ys) ex ∙ ap (λ z. sel_l (map t ws) (map g ws) z) ey ∙ sel_all t g h ws

tests_within : (from count : ℕ) → from < 256 → from + count ≤ 256 → (v : List ℕ) → Each1 (Fits w8) v → map (λ x. ltb ((x + (2 ^ 8 - from)) % 2 ^ 8) count) v ≡ map (is_in from count) v
tests_within from count start fits [] each = refl
tests_within from count start fits (x ∷ v) each = λ i. is_within from count x each.0.fits start fits i ∷ tests_within from count start fits v each.1 i

-- values at a range
pub values_lanes : (from count : ℕ) → from < 256 → from + count ≤ 256 → (v values : List ℕ) → length v ≡ 16 → Each1 (Fits w8) v → (ws : List Window) (f g : Window → ℕ) → v ≡ map f ws → values ≡ map g ws →
    sel_l (map (top 7) (zip2 (λ a b. cond (ltb a b) 255 0) (zip2 (λ a b. (a + (2 ^ 8 - b)) % 2 ^ 8) v (replicate 16 from)) (replicate 16 count))) values (replicate 16 0)
    ≡ map (λ w. if is_in from count (f w) then g w else 0) ws
values_lanes from count start fits v values long each ws f g of are =
    let sub : ℕ → ℕ = λ x. (x + (2 ^ 8 - from)) % 2 ^ 8 in
    let moved : zip2 (λ a b. (a + (2 ^ 8 - b)) % 2 ^ 8) v (replicate 16 from) ≡ map sub v = zip2_splat (λ a b. (a + (2 ^ 8 - b)) % 2 ^ 8) v 16 from long in
    let tests : map (top 7) (zip2 (λ a b. cond (ltb a b) 255 0) (zip2 (λ a b. (a + (2 ^ 8 - b)) % 2 ^ 8) v (replicate 16 from)) (replicate 16 count)) ≡ map (λ x. ltb (sub x) count) v =
    tops_compared w8 ltb (zip2 (λ a b. (a + (2 ^ 8 - b)) % 2 ^ 8) v (replicate 16 from)) (replicate 16 count)
    ∙ ap (λ z. zip2 ltb z (replicate 16 count)) moved ∙ zip2_of_maps ltb sub (λ _. count) v refl (splat_is_map v 16 count long) in
    let size : length ws ≡ 16 = sym (length-map ws f) ∙ sym (ap length of) ∙ long in
    sel_windows (λ w. is_in from count (f w)) g (λ _. 0) ws _ _ _ (tests ∙ tests_within from count start fits v each ∙ ap (map (is_in from count)) of ∙ map-map (is_in from count) f ws) are (splat_is_map ws 16 0 size)

-- the bits of flags
pub bits_of_flags : (ws : List Window) (t : Window → Bool) (v : List ℕ) → length v ≡ 16 → v ≡ map (λ w. flag (t w)) ws →
    mask_l (map (top 7) (zip2 (λ a b. cond (leb a b) 255 0) (replicate 16 128) v)) % 2 ^ 64 ≡ mask_l (map t ws)
bits_of_flags ws t v long is =
    let same : map (top 7) (zip2 (λ a b. cond (leb a b) 255 0) (replicate 16 128) v) ≡ map t ws =
    tops_compared w8 leb (replicate 16 128) v ∙ zip2_splat_left leb 128 16 v long ∙ ap (map (λ y. leb 128 y)) is
    ∙ map-map (λ y. leb 128 y) (λ (w : Window). flag (t w)) ws ∙ map_all _ _ (λ (w : Window). flag_set (t w)) ws in
    let few : length (map t ws) ≡ 16 = length-map ws t ∙ sym (length-map ws (λ (w : Window). flag (t w))) ∙ sym (ap length is) ∙ long in
    ap (λ ms. mask_l ms % 2 ^ 64) same ∙ mask_l-mod (map t ws) 64 (omega (arith, few))

-- ---- numbers of 16 bits, computed from windows

pub below_windows : (g : Window → ℕ) (ws : List Window) (y : ℕ) (xs : List ℕ) → length ws ≡ 16 → xs ≡ map g ws →
    map (top 15) (zip2 (λ a b. cond (ltb a b) 65535 0) xs (replicate 16 y)) ≡ map (λ w. ltb (g w) y) ws
below_windows g ws y xs long is = tops_compared w16 ltb xs (replicate 16 y) ∙ zip2_of_maps ltb g (λ _. y) ws is (splat_is_map ws 16 y long)

pub op_windows : (f : ℕ → ℕ → ℕ) (g : Window → ℕ) (ws : List Window) (y : ℕ) (xs : List ℕ) → length ws ≡ 16 → xs ≡ map g ws → zip2 f xs (replicate 16 y) ≡ map (λ w. f (g w) y) ws
op_windows f g ws y xs long is = zip2_of_maps f g (λ _. y) ws is (splat_is_map ws 16 y long)

-- ---- which are kept

abbrev pub kept : (Window → Bool) → (Window → ℕ) → List Window → List ℕ
kept e p [] = []
kept e p (w ∷ ws) = if e w then p w ∷ kept e p ws else kept e p ws

pub picked_are : (e : Window → Bool) (p : Window → ℕ) (ws : List Window) → picked (mask_l (map e ws)) (map p ws) ≡ kept e p ws
picked_are e p [] = refl
picked_are e p (w ∷ ws) = go (picked_are e p ws) (e w)
  where
    go : picked (mask_l (map e ws)) (map p ws) ≡ kept e p ws → (b : Bool) → picked (cond b 1 0 + 2 * mask_l (map e ws)) (p w ∷ map p ws) ≡ (if b then p w ∷ kept e p ws else kept e p ws)
    go rest true =
        let odd : (1 + 2 * mask_l (map e ws)) % 2 ≡ 1 = omega arith in
        let half : (1 + 2 * mask_l (map e ws)) / 2 ≡ mask_l (map e ws) = omega arith in
        rw (odd, half) (ap (λ z. p w ∷ z) rest)
    go rest false =
        let even : (0 + 2 * mask_l (map e ws)) % 2 ≡ 0 = omega arith in
        let half : (0 + 2 * mask_l (map e ws)) / 2 ≡ mask_l (map e ws) = omega arith in
        rw (even, half) rest
