-- What the bytes of a code tell of its fields.
use Rattle.std.proofs.Common.{◌≡◌, ℕ, zero, suc, ◌+◌, ◌-◌, ◌*◌, ◌/◌, ◌%◌, ◌^◌, ◌<◌, ◌≤◌, List, [], ◌∷◌, ◌++◌, length, get_or, eqb, ◌&&◌, refl, sym, ap, ◌∙◌, inl, inr, arith}
use Rattle.std.specs.Str.{bytes_eq}
use Rattle.std.proofs.lemmas.Bool.{cases_lt, cases_Bool, and_parts, and_from, eqb-true, eq-eqb, false_from_ne_true, both_ways}
use Rattle.std.proofs.lemmas.Slice.Eq.{bytes_eq-Decides}
use Rattle.std.proofs.lemmas.Nat.{pow-add}
use Rattle.std.proofs.lemmas.List.{get_or_append_left, get_or-append_right}
use Rattle.std.proofs.Math.Nat.{div-div-eq-div-mul, pow-suc}
use Rattle.code_pairs.specs.Bytes.{big_endian, value_of, AreBytes, IsCodeForm}
use Rattle.code_pairs.specs.CodeBack.{length-big_endian, value_of-big_endian}

-- The bytes of a code are as many as it counts.
pub counted : (count value : ℕ) (now : List ℕ) → big_endian count value ≡ now → count ≡ length now
counted count value now e = sym (length-big_endian count value) ∙ ap length e

-- The bytes of a code stand for its value.
pub valued : (count value : ℕ) (now : List ℕ) → value < 256 ^ count → big_endian count value ≡ now → value ≡ value_of now
valued count value now h e = sym (value_of-big_endian count value h) ∙ ap value_of e

AreBytes-push : (xs : List ℕ) (x : ℕ) → AreBytes xs → x < 256 → AreBytes (xs ++ x ∷ [])
AreBytes-push [] x all h = (h, tt)
AreBytes-push (y ∷ ys) x all h = (all.0, AreBytes-push ys x all.1 h)

-- What a number is spelled by are bytes.
pub AreBytes-big_endian : (k n : ℕ) → AreBytes (big_endian k n)
AreBytes-big_endian zero n = tt
AreBytes-big_endian (suc k) n = AreBytes-push (big_endian k (n / 256)) (n % 256) (AreBytes-big_endian k (n / 256)) (omega arith)

-- So many bytes of a number may be a code.
pub IsCodeForm-big_endian : (k n : ℕ) → 0 < k → k ≤ 4 → IsCodeForm (big_endian k n)
IsCodeForm-big_endian k n some few = record {
  some = omega (arith, length-big_endian k n);
  few = omega (arith, length-big_endian k n);
  bytes = AreBytes-big_endian k n;
}

-- A power of 256 as one of 2.
pub pow-eight : (m : ℕ) → 2 ^ (m * 8) ≡ 256 ^ m
pow-eight zero = refl
pow-eight (suc m) = omega (arith, pow-suc 256 m, pow-eight m, ap (λ n. 2 ^ n) (eight_more m), pow-add 2 (m * 8) 8)
  where
    eight_more : (k : ℕ) → suc k * 8 ≡ k * 8 + 8
    eight_more k = omega arith

-- Each byte of a number is a quotient's remainder.
pub get_or-big_endian : (k n i : ℕ) → i < k → get_or (big_endian k n) i 0 ≡ n / 256 ^ (k - 1 - i) % 256
get_or-big_endian zero n i lt = absurd (omega arith)
get_or-big_endian (suc k) n i lt = elim (cases_lt i k) [
  | inl less ↦
      let deep : i < length (big_endian k (n / 256)) = omega (arith, length-big_endian k (n / 256)) in
      let more : suc k - 1 - i ≡ suc (k - 1 - i) = omega arith in
      let power : 256 * 256 ^ (k - 1 - i) ≡ 256 ^ (suc k - 1 - i) = let e : 256 ^ suc (k - 1 - i) ≡ 256 ^ (k - 1 - i) * 256 = pow-suc 256 (k - 1 - i) in rw more (omega (arith, e)) in
      get_or_append_left (big_endian k (n / 256)) ((n % 256) ∷ []) 0 i deep ∙ get_or-big_endian k (n / 256) i less
      ∙ ap (λ q. q % 256) (div-div-eq-div-mul n 256 (256 ^ (k - 1 - i)) ∙ ap (λ d. n / d) power)
  | inr more ↦
      let here : i ≡ k = omega arith in
      let none : suc k - 1 - i ≡ 0 = omega arith in
      let last : get_or ((n % 256) ∷ []) (i - k) 0 ≡ n % 256 = let z : i - k ≡ 0 = omega arith in rw z refl in
      get_or-append_right (big_endian k (n / 256)) ((n % 256) ∷ []) k i 0 (length-big_endian k (n / 256)) more ∙ last ∙ rw none (omega arith)
]

-- Two codes are equal where their fields are.
pub same_codes : (a b va vb : ℕ) (x y : List ℕ) → va < 256 ^ a → vb < 256 ^ b → big_endian a va ≡ x → big_endian b vb ≡ y →
    (eqb a b && eqb va vb) ≡ bytes_eq x y
same_codes a b va vb x y fa fb ex ey = elim (cases_Bool (eqb a b && eqb va vb)) [
  | inl t ↦
      let parts = and_parts (eqb a b) (eqb va vb) t in
      let counts : a ≡ b = eqb-true a b parts.0 in
      let values : va ≡ vb = eqb-true va vb parts.1 in
      t ∙ sym ((bytes_eq-Decides x y).1 (sym ex ∙ ap (λ n. big_endian n va) counts ∙ ap (λ v. big_endian b v) values ∙ ey))
  | inr f ↦
      f ∙ sym (false_from_ne_true (bytes_eq x y) (λ t.
      let same : x ≡ y = (bytes_eq-Decides x y).0 t in
      both_ways (eqb a b && eqb va vb) f (and_from (eqb a b) (eqb va vb)
      (eq-eqb a b (counted a va x ex ∙ ap length same ∙ sym (counted b vb y ey)))
      (eq-eqb va vb (valued a va x fa ex ∙ ap value_of same ∙ sym (valued b vb y fb ey))))))
]
