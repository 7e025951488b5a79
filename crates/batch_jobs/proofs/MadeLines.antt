-- A point of a made charmap stands in one line of it.
use Rattle.std.proofs.Common.{◌≡◌, ◌∙◌, ℕ, suc, zero, ◌+◌, ◌-◌, ◌*◌, ◌%◌, ◌<◌, ◌≤◌, Bool, true, false, get_or, ap, sym, arith, eqb}
use Rattle.std.specs.List.{range_with_len, position_or_len}
use Rattle.std.proofs.lemmas.Bool.{eq-eqb, ne_eqb}
use Rattle.std.proofs.lemmas.Nat.{mul-le}
use Rattle.std.proofs.lemmas.List.FromFn.{length-range_with_len, get_or-range_with_len}
use Rattle.std.proofs.lemmas.List.Sums.{position_or_len_is}
use Rattle.batch_jobs.specs.Limits.{made_charmaps, made_lines}
use Rattle.batch_jobs.specs.Generated.{above_at, line_with}
use Rattle.batch_jobs.specs.Inverses.{inverse_of}

-- The first number that passes a test is found among the numbers from 0 on.
first_place : (p : ℕ → Bool) (n i : ℕ) → i < n → p i ≡ true → ((k : ℕ) → k < i → p k ≡ false)
    → position_or_len p (range_with_len 0 n) ≡ i
first_place p n i lt passes fails = position_or_len_is p (range_with_len 0 n) i 0 (omega (arith, length-range_with_len 0 n))
    (λ k below. ap p (at k (omega arith)) ∙ fails k below)
    (λ below. ap p (at i lt) ∙ passes)
  where
    at : (k : ℕ) → k < n → get_or (range_with_len 0 n) k 0 ≡ k
    at k below = get_or-range_with_len 0 n k 0 below ∙ omega arith

-- Two lines with one point are one line, since 1,024 and an odd number have no common factor.
one_line : (number charmap a b : ℕ) → charmap < 8 → a < 1024 → b < 1024
    → (a * (2 * charmap + 1) + number) % 1024 ≡ (b * (2 * charmap + 1) + number) % 1024 → a ≡ b
one_line number zero a b in_range la lb e = omega arith
one_line number (suc zero) a b in_range la lb e = omega arith
one_line number (suc (suc zero)) a b in_range la lb e = omega arith
one_line number (suc (suc (suc zero))) a b in_range la lb e = omega arith
one_line number (suc (suc (suc (suc zero)))) a b in_range la lb e = omega arith
one_line number (suc (suc (suc (suc (suc zero))))) a b in_range la lb e = omega arith
one_line number (suc (suc (suc (suc (suc (suc zero)))))) a b in_range la lb e = omega arith
one_line number (suc (suc (suc (suc (suc (suc (suc zero))))))) a b in_range la lb e = omega arith
one_line number (suc (suc (suc (suc (suc (suc (suc (suc charmap)))))))) a b in_range la lb e = omega arith

-- The line that the inverse leads to has the point.
inverse_line : (number charmap above : ℕ) → number ≤ 1000 → charmap < 8 → above < 1024
    → (((above + 1024 - number) * inverse_of charmap % 1024) * (2 * charmap + 1) + number) % 1024 ≡ above
inverse_line number zero above few in_range la = omega arith
inverse_line number (suc zero) above few in_range la = omega arith
inverse_line number (suc (suc zero)) above few in_range la = omega arith
inverse_line number (suc (suc (suc zero))) above few in_range la = omega arith
inverse_line number (suc (suc (suc (suc zero)))) above few in_range la = omega arith
inverse_line number (suc (suc (suc (suc (suc zero))))) above few in_range la = omega arith
inverse_line number (suc (suc (suc (suc (suc (suc zero)))))) above few in_range la = omega arith
inverse_line number (suc (suc (suc (suc (suc (suc (suc zero))))))) above few in_range la = omega arith
inverse_line number (suc (suc (suc (suc (suc (suc (suc (suc charmap)))))))) above few in_range la = omega arith

-- The line with a point is the one that the inverse leads to.
pub line_with_inverse : (number charmap above : ℕ) → number ≤ 1000 → charmap < 8 → above < 1024
    → line_with number charmap above ≡ (above + 1024 - number) * inverse_of charmap % 1024
unfolding line_with
line_with_inverse number charmap above few in_range la =
    let line : ℕ = (above + 1024 - number) * inverse_of charmap % 1024 in
    let short : line < 1024 = omega arith in
    let is : above_at number charmap line ≡ above = inverse_line number charmap above few in_range la in
    first_place (λ l. eqb (above_at number charmap l) above) made_lines line short
    (eq-eqb (above_at number charmap line) above is)
    (λ k below. ne_eqb (above_at number charmap k) above
    (λ same. let one : k ≡ line = one_line number charmap k line in_range (omega arith) short (same ∙ sym is) in omega arith))

-- The factors are no greater than 931.
inverse_small : (charmap : ℕ) → charmap < 8 → inverse_of charmap ≤ 931
inverse_small zero in_range = omega arith
inverse_small (suc zero) in_range = omega arith
inverse_small (suc (suc zero)) in_range = omega arith
inverse_small (suc (suc (suc zero))) in_range = omega arith
inverse_small (suc (suc (suc (suc zero)))) in_range = omega arith
inverse_small (suc (suc (suc (suc (suc zero))))) in_range = omega arith
inverse_small (suc (suc (suc (suc (suc (suc zero)))))) in_range = omega arith
inverse_small (suc (suc (suc (suc (suc (suc (suc zero))))))) in_range = omega arith
inverse_small (suc (suc (suc (suc (suc (suc (suc (suc charmap)))))))) in_range = omega arith

-- A product with a factor is small.
pub inverse_product : (ahead charmap : ℕ) → ahead ≤ 2048 → charmap < made_charmaps → ahead * inverse_of charmap ≤ 1906688
inverse_product ahead charmap la in_range =
    mul-le ahead (inverse_of charmap) 2048 931 la (inverse_small charmap in_range)

-- A product of a line and an odd number is small.
pub line_product : (line charmap : ℕ) → line < made_lines → charmap ≤ made_charmaps → line * (2 * charmap + 1) ≤ 17408
line_product line charmap ll in_range = mul-le line (2 * charmap + 1) 1024 17 (omega arith) (omega arith)
