-- Vectors that are computed lane by lane from one.
use Rattle.std.proofs.Common.{◌≡◌, ℕ, zero, suc, ◌+◌, ◌-◌, ◌*◌, ◌/◌, ◌%◌, ◌^◌, ◌≤◌, ◌<◌, Bool, true, false, cond, ltb, List, [], ◌∷◌, ◌++◌, map, length, replicate, refl, sym, ap, ◌∙◌, arith, w8, w16, Fits}
use Rattle.std.specs.List.{AllByRecursion, flat_map}
use Rattle.std.proofs.lemmas.Bool.Decides.{nat_tests}
use Rattle.std.proofs.lemmas.Simd.{tops_compared, zip2_splat, bitmask_splat, length-zip2, length-replicate, map-map, Each2-splat, Each1-all}
use lib.Lanes.{zip2, mask_l, top, sel_l, Each1, Each2, number_l, digits_l}
use Rattle.step_unicode.specs.Utf16.{little_bytes}
use Rattle.wide_lanes.specs.Wide.{IsWide, AreWide, low_first, high_first, swapped, in_fours, widened}
use Rattle.wide_lanes.specs.Words.{by_size, last_byte, front_two, front_three, turns}

-- two ways to compute a lane that agree on numbers of 16 bits
pub map_same : (f g : ℕ → ℕ) → ((x : ℕ) → x < 65536 → f x ≡ g x) → (v : List ℕ) → Each1 (Fits w16) v → map f v ≡ map g v
map_same f g same [] fits = refl
map_same f g same (x ∷ v) fits = ap (λ z. z ∷ map f v) (same x fits.0.fits) ∙ ap (λ z. g x ∷ z) (map_same f g same v fits.1)

-- an operator with a constant
pub op_splat : (f : ℕ → ℕ → ℕ) (g : ℕ → ℕ) (v : List ℕ) (y : ℕ) → length v ≡ 8 → zip2 f (map g v) (replicate 8 y) ≡ map (λ x. f (g x) y) v
op_splat f g v y long = zip2_splat f (map g v) 8 y (length_map g v ∙ long) ∙ map-map (λ x. f x y) g v
  where
    length_map : (g : ℕ → ℕ) (v : List ℕ) → length (map g v) ≡ length v
    length_map g [] = refl
    length_map g (x ∷ v) = ap suc (length_map g v)

-- an operator on two such vectors
pub op_maps : (f : ℕ → ℕ → ℕ) (g h : ℕ → ℕ) (v : List ℕ) → zip2 f (map g v) (map h v) ≡ map (λ x. f (g x) (h x)) v
op_maps f g h [] = refl
op_maps f g h (x ∷ v) = ap (λ z. f (g x) (h x) ∷ z) (op_maps f g h v)

-- one of two such vectors at each lane
pub sel_maps : (t : ℕ → Bool) (g h : ℕ → ℕ) (v : List ℕ) → sel_l (map t v) (map g v) (map h v) ≡ map (λ x. cond (t x) (g x) (h x)) v
sel_maps t g h [] = refl
sel_maps t g h (x ∷ v) = ap (λ z. cond (t x) (g x) (h x) ∷ z) (sel_maps t g h v)

-- the lanes below a constant
pub below_splat : (v : List ℕ) (y : ℕ) → length v ≡ 8 → map (top 15) (zip2 (λ a b. cond (ltb a b) 65535 0) v (replicate 8 y)) ≡ map (λ x. ltb x y) v
below_splat v y long = tops_compared w16 ltb v (replicate 8 y) ∙ zip2_splat ltb v 8 y long

pub none_pass : (t : ℕ → Bool) (v : List ℕ) → mask_l (map t v) ≡ 0 → AllByRecursion (λ x. t x ≡ false) v
none_pass t [] none = tt
none_pass t (x ∷ v) none = go (none_pass t v) (t x) refl
  where
    go : (mask_l (map t v) ≡ 0 → AllByRecursion (λ x. t x ≡ false) v) → (b : Bool) → t x ≡ b → AllByRecursion (λ x. t x ≡ false) (x ∷ v)
    go rest true e = absurd (let h : 1 + 2 * mask_l (map t v) ≡ 0 = rw e at none in omega arith)
    go rest false e =
        let h : 0 + 2 * mask_l (map t v) ≡ 0 = rw e at none in
        (e, rest (omega arith))

one_wide : (x : ℕ) → x < 65536 → ltb ((x + (2 ^ 16 - 55296)) % 2 ^ 16) 2048 ≡ false → IsWide x
one_wide x lt e =
    let far : 2048 ≤ (x + (2 ^ 16 - 55296)) % 2 ^ 16 = grind (arith, nat_tests, e) in
    (lt, (omega arith, λ h. omega (arith, far)))

all_wide : (v : List ℕ) → Each1 (Fits w16) v → AllByRecursion (λ x. ltb ((x + (2 ^ 16 - 55296)) % 2 ^ 16) 2048 ≡ false) v → AreWide v
all_wide [] fits none = tt
all_wide (x ∷ v) fits none = (one_wide x fits.0.fits none.0, all_wide v fits.1 none.1)

-- where the test sets no bit, no lane is a surrogate
pub no_surrogates : (v : List ℕ) → length v ≡ 8 → Each1 (Fits w16) v →
    mask_l (map (top 15) (zip2 (λ a b. cond (ltb a b) 65535 0) (zip2 (λ a b. (a + (2 ^ 16 - b)) % 2 ^ 16) v (replicate 8 55296)) (replicate 8 2048))) % 2 ^ 64 ≡ 0 → AreWide v
no_surrogates v long fits none =
    let sub = zip2 (λ a b. (a + (2 ^ 16 - b)) % 2 ^ 16) v (replicate 8 55296) in
    let size : length sub ≡ 8 = length-zip2 (λ a b. (a + (2 ^ 16 - b)) % 2 ^ 16) v (replicate 8 55296) (long ∙ sym (length-replicate {A = ℕ} 8 55296)) ∙ long in
    let same : sub ≡ map (λ x. (x + (2 ^ 16 - 55296)) % 2 ^ 16) v = zip2_splat (λ a b. (a + (2 ^ 16 - b)) % 2 ^ 16) v 8 55296 long in
    let bits : mask_l (map (λ x. ltb x 2048) sub) ≡ 0 = sym (bitmask_splat w16 ltb sub 8 2048 size (omega arith)) ∙ none in
    let each : mask_l (map (λ x. ltb ((x + (2 ^ 16 - 55296)) % 2 ^ 16) 2048) v) ≡ 0 =
    ap mask_l (sym (map-map (λ x. ltb x 2048) (λ x. (x + (2 ^ 16 - 55296)) % 2 ^ 16) v)) ∙ ap (λ z. mask_l (map (λ x. ltb x 2048) z)) (sym same) ∙ bits in
    all_wide v fits (none_pass (λ x. ltb ((x + (2 ^ 16 - 55296)) % 2 ^ 16) 2048) v each)

-- numbers as bytes
pub bytes_low : (n : ℕ) (v : List ℕ) → length v ≡ n → Each1 (Fits w16) v → digits_l 256 (2 * n) (number_l 65536 v) ≡ low_first v
bytes_low zero [] long fits = refl
bytes_low zero (x ∷ v) long fits = absurd (omega arith)
bytes_low (suc n) [] long fits = absurd (omega arith)
bytes_low (suc n) (x ∷ v) long fits =
    let small : x < 65536 = fits.0.fits in
    let m = number_l 65536 v in
    let all : x + 65536 * m ≡ x + 65536 * m = refl in
    let first : (x + 65536 * m) % 256 ≡ x % 256 = omega arith in
    let second : (x + 65536 * m) / 256 % 256 ≡ x / 256 = omega (arith, small) in
    let rest : (x + 65536 * m) / 256 / 256 ≡ m = omega (arith, small) in
    ap (λ k. digits_l 256 k (x + 65536 * m)) (let e : 2 * suc n ≡ suc (suc (2 * n)) = omega arith in e)
    ∙ ap (λ a. a ∷ ((x + 65536 * m) / 256 % 256) ∷ digits_l 256 (2 * n) ((x + 65536 * m) / 256 / 256)) first
    ∙ ap (λ b. (x % 256) ∷ b ∷ digits_l 256 (2 * n) ((x + 65536 * m) / 256 / 256)) second
    ∙ ap (λ r. (x % 256) ∷ (x / 256) ∷ digits_l 256 (2 * n) r) rest
    ∙ ap (λ z. (x % 256) ∷ (x / 256) ∷ z) (bytes_low n v (omega arith) fits.1)

-- bytes as numbers
pub numbers_low : (n : ℕ) (v : List ℕ) → length v ≡ 2 * n → Each1 (Fits w8) v → low_first (digits_l 65536 n (number_l 256 v)) ≡ v
numbers_low zero [] long fits = refl
numbers_low zero (a ∷ v) long fits = absurd (omega arith)
numbers_low (suc n) [] long fits = absurd (omega arith)
numbers_low (suc n) (a ∷ []) long fits = absurd (omega arith)
numbers_low (suc n) (a ∷ b ∷ v) long fits =
    let sa : a < 256 = fits.0.fits in
    let sb : b < 256 = fits.1.0.fits in
    let m = number_l 256 v in
    let x = a + 256 * (b + 256 * m) in
    let low : x % 65536 % 256 ≡ a = omega (arith, sa, sb) in
    let high : x % 65536 / 256 ≡ b = omega (arith, sa, sb) in
    let rest : x / 65536 ≡ m = omega (arith, sa, sb) in
    ap (λ c. c ∷ (x % 65536 / 256) ∷ low_first (digits_l 65536 n (x / 65536))) low
    ∙ ap (λ c. a ∷ c ∷ low_first (digits_l 65536 n (x / 65536))) high
    ∙ ap (λ r. a ∷ b ∷ low_first (digits_l 65536 n r)) rest
    ∙ ap (λ z. a ∷ b ∷ z) (numbers_low n v (omega arith) fits.1.1)

-- the other way round, twice
pub swap_twice : (v : List ℕ) → swapped (swapped v) ≡ v
swap_twice [] = refl
swap_twice (a ∷ []) = refl
swap_twice (a ∷ b ∷ v) = ap (λ z. a ∷ b ∷ z) (swap_twice v)

-- numbers the other way round
pub swap_low : (q : List ℕ) → swapped (low_first q) ≡ high_first q
swap_low [] = refl
swap_low (p ∷ q) = ap (λ z. (p / 256) ∷ (p % 256) ∷ z) (swap_low q)

-- two vectors in turns, each computed from one, as bytes
pub turn_maps : (f g : ℕ → ℕ) (v : List ℕ) → low_first (turns (map f v) (map g v)) ≡ flat_map (λ p. little_bytes (f p) ++ little_bytes (g p)) v
turn_maps f g [] = refl
turn_maps f g (x ∷ v) = ap (λ z. (f x % 256) ∷ (f x / 256) ∷ (g x % 256) ∷ (g x / 256) ∷ z) (turn_maps f g v)

abbrev pub add16 : ℕ → ℕ → ℕ
add16 a b = (a + b) % 2 ^ 16

abbrev pub mul16 : ℕ → ℕ → ℕ
mul16 a b = (a * b) % 2 ^ 16

-- the last bytes, lane by lane
pub lasts_are : (v : List ℕ) → length v ≡ 8 → Each1 (Fits w16) v → zip2 add16 (zip2 (λ a b. a % b) v (replicate 8 64)) (replicate 8 128) ≡ map last_byte v
lasts_are v long fits =
    ap (λ z. zip2 add16 z (replicate 8 128)) (zip2_splat (λ a b. a % b) v 8 64 long)
    ∙ op_splat add16 (λ x. x % 64) v 128 long
    ∙ map_same (λ x. add16 (x % 64) 128) last_byte (λ x small. let e : (x % 64 + 128) % 65536 ≡ 128 + x % 64 = omega arith in e) v fits

-- the two bytes of two
pub twos_are : (v l : List ℕ) → length v ≡ 8 → Each1 (Fits w16) v → l ≡ map last_byte v →
    zip2 add16 (zip2 add16 (zip2 (λ a b. a / b) v (replicate 8 64)) (replicate 8 192)) (zip2 mul16 l (replicate 8 256)) ≡ map front_two v
twos_are v l long fits last =
    ap (λ z. zip2 add16 (zip2 add16 z (replicate 8 192)) (zip2 mul16 l (replicate 8 256))) (zip2_splat (λ a b. a / b) v 8 64 long)
    ∙ ap (λ z. zip2 add16 z (zip2 mul16 l (replicate 8 256))) (op_splat add16 (λ x. x / 64) v 192 long)
    ∙ ap (λ z. zip2 add16 (map (λ x. add16 (x / 64) 192) v) (zip2 mul16 z (replicate 8 256))) last
    ∙ ap (λ z. zip2 add16 (map (λ x. add16 (x / 64) 192) v) z) (op_splat mul16 last_byte v 256 long)
    ∙ op_maps add16 (λ x. add16 (x / 64) 192) (λ x. mul16 (last_byte x) 256) v
    ∙ map_same (λ x. add16 (add16 (x / 64) 192) (mul16 (last_byte x) 256)) front_two
    (λ x small. let e : ((x / 64 + 192) % 65536 + (128 + x % 64) * 256 % 65536) % 65536 ≡ 192 + x / 64 + 256 * (128 + x % 64) = omega arith in e) v fits

-- the first two bytes of three
pub threes_are : (v l : List ℕ) → length v ≡ 8 → Each1 (Fits w16) v → l ≡ map last_byte (zip2 (λ a b. a / b) v (replicate 8 64)) →
    zip2 add16 (zip2 add16 (zip2 (λ a b. a / b) v (replicate 8 4096)) (replicate 8 224)) (zip2 mul16 l (replicate 8 256)) ≡ map front_three v
threes_are v l long fits last =
    let last' : l ≡ map (λ x. last_byte (x / 64)) v =
    last ∙ ap (map last_byte) (zip2_splat (λ a b. a / b) v 8 64 long) ∙ map-map last_byte (λ x. x / 64) v in
    ap (λ z. zip2 add16 (zip2 add16 z (replicate 8 224)) (zip2 mul16 l (replicate 8 256))) (zip2_splat (λ a b. a / b) v 8 4096 long)
    ∙ ap (λ z. zip2 add16 z (zip2 mul16 l (replicate 8 256))) (op_splat add16 (λ x. x / 4096) v 224 long)
    ∙ ap (λ z. zip2 add16 (map (λ x. add16 (x / 4096) 224) v) (zip2 mul16 z (replicate 8 256))) last'
    ∙ ap (λ z. zip2 add16 (map (λ x. add16 (x / 4096) 224) v) z) (op_splat mul16 (λ x. last_byte (x / 64)) v 256 long)
    ∙ op_maps add16 (λ x. add16 (x / 4096) 224) (λ x. mul16 (last_byte (x / 64)) 256) v
    ∙ map_same (λ x. add16 (add16 (x / 4096) 224) (mul16 (last_byte (x / 64)) 256)) front_three
    (λ x small. let e : ((x / 4096 + 224) % 65536 + (128 + x / 64 % 64) * 256 % 65536) % 65536 ≡ 224 + x / 4096 + 256 * (128 + x / 64 % 64) = omega arith in e) v fits

-- one of three at each lane
pub chosen : (v one two three : List ℕ) → length v ≡ 8 → (f g h : ℕ → ℕ) → one ≡ map f v → two ≡ map g v → three ≡ map h v →
    sel_l (map (top 15) (zip2 (λ a b. cond (ltb a b) 65535 0) v (replicate 8 128))) one
    (sel_l (map (top 15) (zip2 (λ a b. cond (ltb a b) 65535 0) v (replicate 8 2048))) two three) ≡ map (by_size f g h) v
chosen v one two three long f g h ones twos threes =
    ap (λ t. sel_l t one (sel_l (map (top 15) (zip2 (λ a b. cond (ltb a b) 65535 0) v (replicate 8 2048))) two three)) (below_splat v 128 long)
    ∙ ap (λ t. sel_l (map (λ x. ltb x 128) v) one (sel_l t two three)) (below_splat v 2048 long)
    ∙ ap (λ z. sel_l (map (λ x. ltb x 128) v) z (sel_l (map (λ x. ltb x 2048) v) two three)) ones
    ∙ ap (λ z. sel_l (map (λ x. ltb x 128) v) (map f v) (sel_l (map (λ x. ltb x 2048) v) z three)) twos
    ∙ ap (λ z. sel_l (map (λ x. ltb x 128) v) (map f v) (sel_l (map (λ x. ltb x 2048) v) (map g v) z)) threes
    ∙ ap (λ z. sel_l (map (λ x. ltb x 128) v) (map f v) z) (sel_maps (λ x. ltb x 2048) g h v)
    ∙ sel_maps (λ x. ltb x 128) f (λ x. cond (ltb x 2048) (g x) (h x)) v

-- a constant, as computed from a vector
pub constant_map : (y n : ℕ) (v : List ℕ) → length v ≡ n → replicate n y ≡ map (λ _. y) v
constant_map y zero [] long = refl
constant_map y zero (x ∷ v) long = absurd (omega arith)
constant_map y (suc n) [] long = absurd (omega arith)
constant_map y (suc n) (x ∷ v) long = ap (λ z. y ∷ z) (constant_map y n v (omega arith))

-- a vector as computed from itself
pub itself : (v : List ℕ) → v ≡ map (λ x. x) v
itself [] = refl
itself (x ∷ v) = ap (λ z. x ∷ z) (itself v)

-- a constant that is not 0 divides each lane
pub divides : (v : List ℕ) (y : ℕ) → 0 < y → Each2 (λ a b. 0 < b) v (replicate 8 y)
divides v y some = Each2-splat (λ a b. 0 < b) v 8 y (Each1-all (λ a. 0 < y) (λ a. some) v)

-- numbers of two bytes made wider
pub widen_low : (q : List ℕ) → widened (low_first q) ≡ in_fours q
widen_low [] = refl
widen_low (p ∷ q) = ap (λ z. 0 ∷ 0 ∷ (p / 256) ∷ (p % 256) ∷ z) (widen_low q)
