-- A code's fields are told by its bytes.
use Rattle.std.specs.Prelude.{◌≡◌, ℕ, zero, suc, ◌+◌, ◌*◌, ◌/◌, ◌%◌, ◌^◌, ◌<◌, ◌≤◌, [], ◌∷◌, length, refl}
use Rattle.std.proofs.Common.{ap, ◌∙◌, arith, length-append}
use Rattle.std.proofs.lemmas.Grind.{fold-append}
use Rattle.std.proofs.Math.Nat.{pow-suc}
use Rattle.code_pairs.specs.Bytes.{big_endian, value_of}
use Rattle.code_pairs.specs.declared.code.Code.TheInside.{Inside}

-- So many bytes are that many.
pub length-big_endian : (k n : ℕ) → length (big_endian k n) ≡ k
length-big_endian zero n = refl
length-big_endian (suc k) n = simp length-append (omega (arith, length-big_endian k (n / 256)))

high_part : (k n : ℕ) → n < 256 ^ suc k → n / 256 < 256 ^ k
high_part k n h = let e : 256 ^ suc k ≡ 256 ^ k * 256 = pow-suc 256 k in omega arith

-- The bytes of a number that fits stand for it.
pub value_of-big_endian : (k n : ℕ) → n < 256 ^ k → value_of (big_endian k n) ≡ n
value_of-big_endian zero n h = omega arith
value_of-big_endian (suc k) n h =
    fold-append (λ a b. 256 * a + b) 0 (big_endian k (n / 256)) ((n % 256) ∷ [])
    ∙ ap (λ v. 256 * v + n % 256) (value_of-big_endian k (n / 256) (high_part k n h)) ∙ omega arith

-- The fields of a code come back from its bytes.
pub code_back : (c : Inside) → (0 < c.count) × (c.count ≤ 4) × (c.value < 256 ^ c.count) →
    record { count = length (big_endian c.count c.value); value = value_of (big_endian c.count c.value) } ≡ c
code_back c h = rw (length-big_endian, value_of-big_endian c.count c.value h.2) refl
