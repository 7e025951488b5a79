-- Pairs of bytes brought together, and stored one behind the other.
use Rattle.std.proofs.Common.{◌≡◌, ℕ, zero, suc, ◌+◌, ◌-◌, ◌*◌, ◌/◌, ◌%◌, ◌≤◌, ◌<◌, Bool, true, false, leb, List, [], ◌∷◌, ◌++◌, length, take, drop, get_or, count_ones, refl, sym, ap, ◌∙◌, subst, arith, inl, inr, w8, append_assoc, length-append}
use Rattle.std.specs.Prelude.{⊤, nat_eq, if◌then◌else◌}
use Rattle.std.proofs.lemmas.Bool.{cases_lt}
use Rattle.std.proofs.lemmas.Nat.{ones-le}
use Rattle.std.proofs.lemmas.Bool.Decides.{nat_tests}
use Rattle.std.proofs.lemmas.List.{append-nil, drop-drop, take-take, take_at, drop_at, take-append-drop, length-take-le, length-drop}
use Rattle.std.proofs.lemmas.Simd.{swz_l, SwzOk}
use lib.Lanes.{pick_l}
use lib.Count.{ones}
use Rattle.wide_lanes.specs.Wide.{low_first, high_first}
use Rattle.wide_lanes.specs.Ends.{picked, by_bits, both_or_none, picked_pairs}
use Rattle.wide_lanes.specs.declared.rows.TheConstants.{ROWS}
use Rattle.wide_lanes.proofs.WindowLemmas.{spelled, listed}

abbrev pub Each : (ℕ → Type 0) → ℕ → Type 0
Each P zero = ⊤
Each P (suc n) = P n × Each P n

pub each : (P : ℕ → Type 0) (n k : ℕ) → Each P n → k < n → P k
each P zero k h l = absurd (omega arith)
each P (suc n) k h l = elim (cases_lt k n) [ inl a ↦ each P n k h.1 a | inr a ↦ let e : n ≡ k = omega arith in subst P e h.0 ]

pub ones_few : (m : ℕ) → m < 16 → count_ones m ≤ 4
ones_few m lt = ones-le 4 m lt

pub ones_of_eight : (m : ℕ) → m < 256 → count_ones m ≤ 8
ones_of_eight m lt = ones-le 8 m lt

abbrev pub first_eight : List ℕ → List ℕ
first_eight v = pick_l 0 (v ++ v) (0 ∷ 1 ∷ 2 ∷ 3 ∷ 4 ∷ 5 ∷ 6 ∷ 7 ∷ [])

abbrev pub Packs : List ℕ → List ℕ → ℕ → Type 0
Packs none xs m = take (2 * count_ones m) (swz_l w8 16 xs 0 (get_or ROWS m none)) ≡ picked_pairs m xs

-- each row brings together the pairs at its bits
rows_pack : (none : List ℕ) (f : ℕ → ℕ) → Each (λ h. Each (λ l. Packs none (listed f 16) (16 * h + l)) 16) 16
unfolding ones
rows_pack none f = (
  (refl, (refl, (refl, (refl, (refl, (refl, (refl, (refl, (refl, (refl, (refl, (refl, (refl, (refl, (refl, (refl, tt)))))))))))))))),
  (
    (refl, (refl, (refl, (refl, (refl, (refl, (refl, (refl, (refl, (refl, (refl, (refl, (refl, (refl, (refl, (refl, tt)))))))))))))))),
    (
      (refl, (refl, (refl, (refl, (refl, (refl, (refl, (refl, (refl, (refl, (refl, (refl, (refl, (refl, (refl, (refl, tt)))))))))))))))),
      (
        (refl, (refl, (refl, (refl, (refl, (refl, (refl, (refl, (refl, (refl, (refl, (refl, (refl, (refl, (refl, (refl, tt)))))))))))))))),
        (
          (refl, (refl, (refl, (refl, (refl, (refl, (refl, (refl, (refl, (refl, (refl, (refl, (refl, (refl, (refl, (refl, tt)))))))))))))))),
          (
            (refl, (refl, (refl, (refl, (refl, (refl, (refl, (refl, (refl, (refl, (refl, (refl, (refl, (refl, (refl, (refl, tt)))))))))))))))),
            (
              (refl, (refl, (refl, (refl, (refl, (refl, (refl, (refl, (refl, (refl, (refl, (refl, (refl, (refl, (refl, (refl, tt)))))))))))))))),
              (
                (refl, (refl, (refl, (refl, (refl, (refl, (refl, (refl, (refl, (refl, (refl, (refl, (refl, (refl, (refl, (refl, tt)))))))))))))))),
                (
                  (refl, (refl, (refl, (refl, (refl, (refl, (refl, (refl, (refl, (refl, (refl, (refl, (refl, (refl, (refl, (refl, tt)))))))))))))))),
                  (
                    (refl, (refl, (refl, (refl, (refl, (refl, (refl, (refl, (refl, (refl, (refl, (refl, (refl, (refl, (refl, (refl, tt)))))))))))))))),
                    (
                      (refl, (refl, (refl, (refl, (refl, (refl, (refl, (refl, (refl, (refl, (refl, (refl, (refl, (refl, (refl, (refl, tt)))))))))))))))),
                      (
                        (refl, (refl, (refl, (refl, (refl, (refl, (refl, (refl, (refl, (refl, (refl, (refl, (refl, (refl, (refl, (refl, tt)))))))))))))))),
                        (
                          (refl, (refl, (refl, (refl, (refl, (refl, (refl, (refl, (refl, (refl, (refl, (refl, (refl, (refl, (refl, (refl, tt)))))))))))))))),
                          (
                            (refl, (refl, (refl, (refl, (refl, (refl, (refl, (refl, (refl, (refl, (refl, (refl, (refl, (refl, (refl, (refl, tt)))))))))))))))),
                            (
                              (refl, (refl, (refl, (refl, (refl, (refl, (refl, (refl, (refl, (refl, (refl, (refl, (refl, (refl, (refl, (refl, tt)))))))))))))))),
                              ((refl, (refl, (refl, (refl, (refl, (refl, (refl, (refl, (refl, (refl, (refl, (refl, (refl, (refl, (refl, (refl, tt)))))))))))))))), tt),
                            ),
                          ),
                        ),
                      ),
                    ),
                  ),
                ),
              ),
            ),
          ),
        ),
      ),
    ),
  ),
)

pub packs : (none : List ℕ) (m : ℕ) → m < 256 → (xs : List ℕ) → length xs ≡ 16 → Packs none xs m
packs none m lt =
    let there : 16 * (m / 16) + m % 16 ≡ m = omega arith in
    spelled (λ xs. Packs none xs m) 16 (λ f. subst (Packs none (listed f 16)) there
    (each (λ l. Packs none (listed f 16) (16 * (m / 16) + l)) 16 (m % 16) (each (λ h. Each (λ l. Packs none (listed f 16) (16 * h + l)) 16) 16 (m / 16) (rows_pack none f) (omega (arith, lt))) (omega arith)))

-- each place in a row is one of sixteen, or asks for 0
rows_ok : (none : List ℕ) → Each (λ h. Each (λ l. SwzOk w8 16 16 0 (get_or ROWS (16 * h + l) none)) 16) 16
rows_ok none =
    let u : Each (λ _. ⊤) 16 = (tt, (tt, (tt, (tt, (tt, (tt, (tt, (tt, (tt, (tt, (tt, (tt, (tt, (tt, (tt, (tt, tt)))))))))))))))) in (
      (u, (u, (u, (u, (u, (u, (u, (u, (u, (u, (u, (u, (u, (u, (u, (u, tt)))))))))))))))),
      (
        (u, (u, (u, (u, (u, (u, (u, (u, (u, (u, (u, (u, (u, (u, (u, (u, tt)))))))))))))))),
        (
          (u, (u, (u, (u, (u, (u, (u, (u, (u, (u, (u, (u, (u, (u, (u, (u, tt)))))))))))))))),
          (
            (u, (u, (u, (u, (u, (u, (u, (u, (u, (u, (u, (u, (u, (u, (u, (u, tt)))))))))))))))),
            (
              (u, (u, (u, (u, (u, (u, (u, (u, (u, (u, (u, (u, (u, (u, (u, (u, tt)))))))))))))))),
              (
                (u, (u, (u, (u, (u, (u, (u, (u, (u, (u, (u, (u, (u, (u, (u, (u, tt)))))))))))))))),
                (
                  (u, (u, (u, (u, (u, (u, (u, (u, (u, (u, (u, (u, (u, (u, (u, (u, tt)))))))))))))))),
                  (
                    (u, (u, (u, (u, (u, (u, (u, (u, (u, (u, (u, (u, (u, (u, (u, (u, tt)))))))))))))))),
                    (
                      (u, (u, (u, (u, (u, (u, (u, (u, (u, (u, (u, (u, (u, (u, (u, (u, tt)))))))))))))))),
                      (
                        (u, (u, (u, (u, (u, (u, (u, (u, (u, (u, (u, (u, (u, (u, (u, (u, tt)))))))))))))))),
                        (
                          (u, (u, (u, (u, (u, (u, (u, (u, (u, (u, (u, (u, (u, (u, (u, (u, tt)))))))))))))))),
                          (
                            (u, (u, (u, (u, (u, (u, (u, (u, (u, (u, (u, (u, (u, (u, (u, (u, tt)))))))))))))))),
                            (
                              (u, (u, (u, (u, (u, (u, (u, (u, (u, (u, (u, (u, (u, (u, (u, (u, tt)))))))))))))))),
                              (
                                (u, (u, (u, (u, (u, (u, (u, (u, (u, (u, (u, (u, (u, (u, (u, (u, tt)))))))))))))))),
                                (
                                  (u, (u, (u, (u, (u, (u, (u, (u, (u, (u, (u, (u, (u, (u, (u, (u, tt)))))))))))))))),
                                  ((u, (u, (u, (u, (u, (u, (u, (u, (u, (u, (u, (u, (u, (u, (u, (u, tt)))))))))))))))), tt),
                                ),
                              ),
                            ),
                          ),
                        ),
                      ),
                    ),
                  ),
                ),
              ),
            ),
          ),
        ),
      ),
    )

rows_long : (none : List ℕ) → Each (λ h. Each (λ l. length (get_or ROWS (16 * h + l) none) ≡ 16) 16) 16
rows_long none = (
  (refl, (refl, (refl, (refl, (refl, (refl, (refl, (refl, (refl, (refl, (refl, (refl, (refl, (refl, (refl, (refl, tt)))))))))))))))),
  (
    (refl, (refl, (refl, (refl, (refl, (refl, (refl, (refl, (refl, (refl, (refl, (refl, (refl, (refl, (refl, (refl, tt)))))))))))))))),
    (
      (refl, (refl, (refl, (refl, (refl, (refl, (refl, (refl, (refl, (refl, (refl, (refl, (refl, (refl, (refl, (refl, tt)))))))))))))))),
      (
        (refl, (refl, (refl, (refl, (refl, (refl, (refl, (refl, (refl, (refl, (refl, (refl, (refl, (refl, (refl, (refl, tt)))))))))))))))),
        (
          (refl, (refl, (refl, (refl, (refl, (refl, (refl, (refl, (refl, (refl, (refl, (refl, (refl, (refl, (refl, (refl, tt)))))))))))))))),
          (
            (refl, (refl, (refl, (refl, (refl, (refl, (refl, (refl, (refl, (refl, (refl, (refl, (refl, (refl, (refl, (refl, tt)))))))))))))))),
            (
              (refl, (refl, (refl, (refl, (refl, (refl, (refl, (refl, (refl, (refl, (refl, (refl, (refl, (refl, (refl, (refl, tt)))))))))))))))),
              (
                (refl, (refl, (refl, (refl, (refl, (refl, (refl, (refl, (refl, (refl, (refl, (refl, (refl, (refl, (refl, (refl, tt)))))))))))))))),
                (
                  (refl, (refl, (refl, (refl, (refl, (refl, (refl, (refl, (refl, (refl, (refl, (refl, (refl, (refl, (refl, (refl, tt)))))))))))))))),
                  (
                    (refl, (refl, (refl, (refl, (refl, (refl, (refl, (refl, (refl, (refl, (refl, (refl, (refl, (refl, (refl, (refl, tt)))))))))))))))),
                    (
                      (refl, (refl, (refl, (refl, (refl, (refl, (refl, (refl, (refl, (refl, (refl, (refl, (refl, (refl, (refl, (refl, tt)))))))))))))))),
                      (
                        (refl, (refl, (refl, (refl, (refl, (refl, (refl, (refl, (refl, (refl, (refl, (refl, (refl, (refl, (refl, (refl, tt)))))))))))))))),
                        (
                          (refl, (refl, (refl, (refl, (refl, (refl, (refl, (refl, (refl, (refl, (refl, (refl, (refl, (refl, (refl, (refl, tt)))))))))))))))),
                          (
                            (refl, (refl, (refl, (refl, (refl, (refl, (refl, (refl, (refl, (refl, (refl, (refl, (refl, (refl, (refl, (refl, tt)))))))))))))))),
                            (
                              (refl, (refl, (refl, (refl, (refl, (refl, (refl, (refl, (refl, (refl, (refl, (refl, (refl, (refl, (refl, (refl, tt)))))))))))))))),
                              ((refl, (refl, (refl, (refl, (refl, (refl, (refl, (refl, (refl, (refl, (refl, (refl, (refl, (refl, (refl, (refl, tt)))))))))))))))), tt),
                            ),
                          ),
                        ),
                      ),
                    ),
                  ),
                ),
              ),
            ),
          ),
        ),
      ),
    ),
  ),
)

-- what is so of each row by two digits, is so of each
of_row : (P : ℕ → Type 0) → Each (λ h. Each (λ l. P (16 * h + l)) 16) 16 → (m : ℕ) → m < 256 → P m
of_row P all m lt =
    let there : 16 * (m / 16) + m % 16 ≡ m = omega arith in
    subst P there (each (λ l. P (16 * (m / 16) + l)) 16 (m % 16) (each (λ h. Each (λ l. P (16 * h + l)) 16) 16 (m / 16) all (omega (arith, lt))) (omega arith))

pub row_ok : (none : List ℕ) (m : ℕ) → m < 256 → SwzOk w8 16 16 0 (get_or ROWS m none)
row_ok none = of_row (λ m. SwzOk w8 16 16 0 (get_or ROWS m none)) (rows_ok none)

pub row_long : (none : List ℕ) (m : ℕ) → m < 256 → length (get_or ROWS m none) ≡ 16
row_long none = of_row (λ m. length (get_or ROWS m none) ≡ 16) (rows_long none)

-- a bit more before some
one_more : (g : Bool → ℕ → ℕ → List ℕ) (m k a b : ℕ) (u z r : List ℕ) → k % 2 ≡ m % 2 → by_bits g (m / 2) (u ++ z) ≡ by_bits g (k / 2) u ++ r →
    by_bits g m (a ∷ b ∷ (u ++ z)) ≡ by_bits g k (a ∷ b ∷ u) ++ r
one_more g m k a b u z r same rest =
    ap (λ w. g (nat_eq (m % 2) 1) a b ++ w) rest
    ∙ ap (λ n. g (nat_eq n 1) a b ++ (by_bits g (k / 2) u ++ r)) (sym same)
    ∙ sym (append_assoc (g (nat_eq (k % 2) 1) a b) (by_bits g (k / 2) u) r)

-- four bits and the others
four_bits : (g : Bool → ℕ → ℕ → List ℕ) (m a0 a1 a2 a3 a4 a5 a6 a7 : ℕ) (b : List ℕ) →
    by_bits g m (a0 ∷ a1 ∷ a2 ∷ a3 ∷ a4 ∷ a5 ∷ a6 ∷ a7 ∷ b) ≡ by_bits g (m % 16) (a0 ∷ a1 ∷ a2 ∷ a3 ∷ a4 ∷ a5 ∷ a6 ∷ a7 ∷ []) ++ by_bits g (m / 16) b
four_bits g m a0 a1 a2 a3 a4 a5 a6 a7 b =
    let r = by_bits g (m / 16) b in
    let e0 : m % 16 % 2 ≡ m % 2 = omega arith in
    let e1 : m % 16 / 2 % 2 ≡ m / 2 % 2 = omega arith in
    let e2 : m % 16 / 2 / 2 % 2 ≡ m / 2 / 2 % 2 = omega arith in
    let e3 : m % 16 / 2 / 2 / 2 % 2 ≡ m / 2 / 2 / 2 % 2 = omega arith in
    let e4 : m / 2 / 2 / 2 / 2 ≡ m / 16 = omega arith in
    one_more g m (m % 16) a0 a1 (a2 ∷ a3 ∷ a4 ∷ a5 ∷ a6 ∷ a7 ∷ []) b r e0
    (one_more g (m / 2) (m % 16 / 2) a2 a3 (a4 ∷ a5 ∷ a6 ∷ a7 ∷ []) b r e1
    (one_more g (m / 2 / 2) (m % 16 / 2 / 2) a4 a5 (a6 ∷ a7 ∷ []) b r e2
    (one_more g (m / 2 / 2 / 2) (m % 16 / 2 / 2 / 2) a6 a7 [] b r e3 (ap (λ n. by_bits g n b) e4))))

pub next_four : (g : Bool → ℕ → ℕ → List ℕ) (m : ℕ) (v : List ℕ) → 8 ≤ length v → by_bits g m v ≡ by_bits g (m % 16) (take 8 v) ++ by_bits g (m / 16) (drop 8 v)
next_four g m v long =
    let a : (u : List ℕ) → length u ≡ 8 → by_bits g m (u ++ drop 8 v) ≡ by_bits g (m % 16) u ++ by_bits g (m / 16) (drop 8 v) =
    spelled (λ u. by_bits g m (u ++ drop 8 v) ≡ by_bits g (m % 16) u ++ by_bits g (m / 16) (drop 8 v)) 8 (λ f. four_bits g m (f 0) (f 1) (f 2) (f 3) (f 4) (f 5) (f 6) (f 7) (drop 8 v)) in
    ap (by_bits g m) (sym (take-append-drop 8 v)) ∙ a (take 8 v) (length-take-le 8 v long)

-- no bytes are left
nothing_left : (bytes : List ℕ) (i : ℕ) → length bytes ≤ 8 * i → drop (8 * i) bytes ≡ []
nothing_left bytes i last = nothing (drop (8 * i) bytes) (let e : length (drop (8 * i) bytes) ≡ 0 = omega (arith, length-drop (8 * i) bytes, last) in e)
  where
    nothing : (v : List ℕ) → length v ≡ 0 → v ≡ []
    nothing [] e = refl
    nothing (x ∷ v) e = absurd (omega (arith, e))

-- eight bits and the others
eight_bits : (g : Bool → ℕ → ℕ → List ℕ) (m : ℕ) (z u : List ℕ) → length u ≡ 16 → by_bits g m (u ++ z) ≡ by_bits g (m % 256) u ++ by_bits g (m / 256) z
eight_bits g m z = spelled (λ u. by_bits g m (u ++ z) ≡ by_bits g (m % 256) u ++ by_bits g (m / 256) z) 16 (λ f.
    let low = f 0 ∷ f 1 ∷ f 2 ∷ f 3 ∷ f 4 ∷ f 5 ∷ f 6 ∷ f 7 ∷ [] in
    let high = f 8 ∷ f 9 ∷ f 10 ∷ f 11 ∷ f 12 ∷ f 13 ∷ f 14 ∷ f 15 ∷ [] in
    let e0 : m % 256 % 16 ≡ m % 16 = omega arith in
    let e1 : m % 256 / 16 ≡ m / 16 % 16 = omega arith in
    let e2 : m / 16 / 16 ≡ m / 256 = omega arith in
    let all : by_bits g m (low ++ (high ++ z)) ≡ by_bits g (m % 16) low ++ (by_bits g (m / 16 % 16) high ++ by_bits g (m / 256) z) =
    four_bits g m (f 0) (f 1) (f 2) (f 3) (f 4) (f 5) (f 6) (f 7) (high ++ z)
    ∙ ap (λ w. by_bits g (m % 16) low ++ w) (four_bits g (m / 16) (f 8) (f 9) (f 10) (f 11) (f 12) (f 13) (f 14) (f 15) z ∙ ap (λ n. by_bits g (m / 16 % 16) high ++ by_bits g n z) e2) in
    let first : by_bits g (m % 256) (low ++ high) ≡ by_bits g (m % 16) low ++ by_bits g (m / 16 % 16) high =
    four_bits g (m % 256) (f 0) (f 1) (f 2) (f 3) (f 4) (f 5) (f 6) (f 7) high
    ∙ ap (λ n. by_bits g n low ++ by_bits g (m % 256 / 16) high) e0 ∙ ap (λ n. by_bits g (m % 16) low ++ by_bits g n high) e1 in
    all ∙ sym (append_assoc (by_bits g (m % 16) low) (by_bits g (m / 16 % 16) high) (by_bits g (m / 256) z)) ∙ ap (λ w. w ++ by_bits g (m / 256) z) (sym first))

-- sixteen bits, eight at a time
pub two_eights : (g : Bool → ℕ → ℕ → List ℕ) (m : ℕ) (v : List ℕ) → length v ≡ 32 → by_bits g m v ≡ by_bits g (m % 256) (take 16 v) ++ by_bits g (m / 256 % 256) (drop 16 v)
two_eights g m v long =
    let first : length (take 16 v) ≡ 16 = length-take-le 16 v (omega (arith, long)) in
    let second : length (drop 16 v) ≡ 16 = omega (arith, length-drop 16 v, long) in
    ap (by_bits g m) (sym (take-append-drop 16 v)) ∙ eight_bits g m (drop 16 v) (take 16 v) first
    ∙ ap (λ z. by_bits g (m % 256) (take 16 v) ++ z) (ap (by_bits g (m / 256)) (sym (append-nil (drop 16 v))) ∙ eight_bits g (m / 256) [] (drop 16 v) second ∙ append-nil (by_bits g (m / 256 % 256) (drop 16 v)))

-- eight bits, four at a time
pub two_fours : (g : Bool → ℕ → ℕ → List ℕ) (m : ℕ) (v : List ℕ) → length v ≡ 16 → by_bits g m v ≡ by_bits g (m % 16) (take 8 v) ++ by_bits g (m / 16 % 16) (take 8 (drop 8 v))
two_fours g m v long =
    let w = drop 8 v in
    let size : length w ≡ 8 = omega (arith, length-drop 8 v, long) in
    let none : drop 8 w ≡ [] = nothing_left w 1 (omega (arith, size)) in
    next_four g m v (omega (arith, long))
    ∙ ap (λ z. by_bits g (m % 16) (take 8 v) ++ z) (next_four g (m / 16) w (omega (arith, size))
    ∙ ap (λ z. by_bits g (m / 16 % 16) (take 8 w) ++ by_bits g (m / 16 / 16) z) none ∙ append-nil (by_bits g (m / 16 % 16) (take 8 w)))

-- pairs of one number each
pub picked_low : (m : ℕ) (q : List ℕ) → picked_pairs m (low_first q) ≡ low_first (picked m q)
picked_low m [] = refl
picked_low m (p ∷ q) = go (picked_low (m / 2) q) (nat_eq (m % 2) 1)
  where
    go : picked_pairs (m / 2) (low_first q) ≡ low_first (picked (m / 2) q) → (t : Bool) →
        both_or_none t (p % 256) (p / 256) ++ picked_pairs (m / 2) (low_first q) ≡ low_first (if t then p ∷ picked (m / 2) q else picked (m / 2) q)
    go rest true = ap (λ z. (p % 256) ∷ (p / 256) ∷ z) rest
    go rest false = rest

pub picked_high : (m : ℕ) (q : List ℕ) → picked_pairs m (high_first q) ≡ high_first (picked m q)
picked_high m [] = refl
picked_high m (p ∷ q) = go (picked_high (m / 2) q) (nat_eq (m % 2) 1)
  where
    go : picked_pairs (m / 2) (high_first q) ≡ high_first (picked (m / 2) q) → (t : Bool) →
        both_or_none t (p / 256) (p % 256) ++ picked_pairs (m / 2) (high_first q) ≡ high_first (if t then p ∷ picked (m / 2) q else picked (m / 2) q)
    go rest true = ap (λ z. (p / 256) ∷ (p % 256) ∷ z) rest
    go rest false = rest

-- ---- rows are put: what counts stands behind w, and up to s bytes more were changed
pub record IsPut (s : ℕ) (old new : List ℕ) (at end : ℕ) (w : List ℕ) : Type 0 where
  pub place : end ≡ at + length w
  pub front : take end new ≡ take at old ++ w
  pub rest : drop (end + s) new ≡ drop (end + s) old

-- the front of two lists behind the first
take_past : (a b : List ℕ) (n : ℕ) → take (length a + n) (a ++ b) ≡ a ++ take n b
take_past [] b n = ap (λ k. take k b) (let e : 0 + n ≡ n = omega arith in e)
take_past (x ∷ a) b n =
    ap (λ k. take k (x ∷ (a ++ b))) (let e : suc (length a) + n ≡ suc (length a + n) = omega arith in e) ∙ ap (λ z. x ∷ z) (take_past a b n)

put_more : (s : ℕ) (old mid new w stored u : List ℕ) (at end n : ℕ) → n ≤ s → end + s ≤ length mid → IsPut s old mid at end w →
    take (end + s) new ≡ take end mid ++ stored → drop (end + s) new ≡ drop (end + s) mid → take n stored ≡ u → length u ≡ n → IsPut s old new at (end + n) (w ++ u)
put_more s old mid new w stored u at end n few room laid front rest bytes count =
    let size : length (take end mid) ≡ end = length-take-le end mid (omega (arith, room)) in
    let there : end + s + n ≡ end + n + s = omega arith in
    record {
      place = omega (arith, laid.place, length-append w u, count);
      front = sym (take-take (end + n) (end + s) new (omega (arith, few))) ∙ ap (take (end + n)) front
          ∙ ap (λ k. take (k + n) (take end mid ++ stored)) (sym size) ∙ take_past (take end mid) stored n
          ∙ ap (λ z. take end mid ++ z) bytes ∙ ap (λ z. z ++ u) laid.front ∙ append_assoc (take at old) w u;
      rest = ap (λ k. drop k new) (sym there) ∙ sym (drop-drop n (end + s) new) ∙ ap (drop n) rest
          ∙ ap (drop n) laid.rest ∙ drop-drop n (end + s) old ∙ ap (λ k. drop k old) there;
    }

-- what stood behind is put back
pub put_again : (s : ℕ) (old mid new kept w : List ℕ) (at end : ℕ) → end + s ≤ length mid → IsPut s old mid at end w → kept ≡ take s (drop end old) →
    take (end + s) new ≡ take end mid ++ kept → drop (end + s) new ≡ drop (end + s) mid → (take end new ≡ take at old ++ w) × (drop end new ≡ drop end old)
put_again s old mid new kept w at end room laid was front rest =
    let size : length (take end mid) ≡ end = length-take-le end mid (omega (arith, room)) in
    let far : drop (end + s) mid ≡ drop s (drop end old) = laid.rest ∙ sym (drop-drop s end old) in
    let whole : new ≡ take end mid ++ (kept ++ drop (end + s) mid) =
    sym (take-append-drop (end + s) new) ∙ ap (λ z. z ++ drop (end + s) new) front ∙ ap (λ z. (take end mid ++ kept) ++ z) rest
    ∙ append_assoc (take end mid) kept (drop (end + s) mid) in (
      ap (take end) whole ∙ take_at (take end mid) (kept ++ drop (end + s) mid) end size ∙ laid.front,
      ap (drop end) whole ∙ drop_at (take end mid) (kept ++ drop (end + s) mid) end size ∙ ap (λ z. z ++ drop (end + s) mid) was
          ∙ ap (λ z. take s (drop end old) ++ z) far ∙ take-append-drop s (drop end old),
    )

-- two are put, and what stood behind them is put back
pub two_put : (s : ℕ) (old mid last new one two kept u w : List ℕ) (at n m : ℕ) → at + s + s + s ≤ length old → length mid ≡ length old → length last ≡ length old →
    length one ≡ s → n ≤ s → take n one ≡ u → take (at + s) mid ≡ take at old ++ one → drop (at + s) mid ≡ drop (at + s) old →
    length two ≡ s → m ≤ s → take m two ≡ w → take (at + n + s) last ≡ take (at + n) mid ++ two → drop (at + n + s) last ≡ drop (at + n + s) mid →
    kept ≡ take s (drop (at + (n + m)) old) → take (at + (n + m) + s) new ≡ take (at + (n + m)) last ++ kept → drop (at + (n + m) + s) new ≡ drop (at + (n + m) + s) last →
    (take (at + (n + m)) new ≡ take at old ++ (u ++ w)) × (drop (at + (n + m)) new ≡ drop (at + (n + m)) old)
two_put s old mid last new one two kept u w at n m room same1 same2 long1 few1 is1 front1 rest1 long2 few2 is2 front2 rest2 was front3 rest3 =
    let zero : IsPut s old old at at [] = record { place = omega arith; front = sym (append-nil (take at old)); rest = refl } in
    let size1 : length u ≡ n = sym (ap length is1) ∙ length-take-le n one (omega (arith, long1, few1)) in
    let size2 : length w ≡ m = sym (ap length is2) ∙ length-take-le m two (omega (arith, long2, few2)) in
    let first : IsPut s old mid at (at + n) u = put_more s old old mid [] one u at at n few1 (omega (arith, room)) zero front1 rest1 is1 size1 in
    let second : IsPut s old last at (at + n + m) (u ++ w) = put_more s old mid last u two w at (at + n) m few2 (omega (arith, room, same1, few1)) first front2 rest2 is2 size2 in
    let there : at + n + m ≡ at + (n + m) = omega arith in
    put_again s old last new kept (u ++ w) at (at + (n + m)) (omega (arith, room, same2, few1, few2)) (subst (λ (k : ℕ). IsPut s old last at k (u ++ w)) there second) was front3 rest3

-- so many rows are put, each stored as s bytes
pub record ArePut (g : Bool → ℕ → ℕ → List ℕ) (s : ℕ) (bytes : List ℕ) (mask i left : ℕ) (old new : List ℕ) (at end : ℕ) : Type 0 where
  pub written : List ℕ
  pub put : IsPut s old new at end written
  pub behind : written ++ by_bits g left (drop (8 * i) bytes) ≡ by_bits g mask bytes

pub none_put : (g : Bool → ℕ → ℕ → List ℕ) (s : ℕ) (bytes : List ℕ) (mask : ℕ) (old : List ℕ) (at : ℕ) → ArePut g s bytes mask 0 mask old old at at
none_put g s bytes mask old at = record {
  written = [];
  put = record { place = omega arith; front = sym (append-nil (take at old)); rest = refl };
  behind = refl;
}

pub row_put : (g : Bool → ℕ → ℕ → List ℕ) (s n : ℕ) (bytes : List ℕ) (mask i left : ℕ) (old mid new stored : List ℕ) (at end : ℕ) → 8 * i + 8 ≤ length bytes → n ≤ s → end + s ≤ length mid →
    ArePut g s bytes mask i left old mid at end → take (end + s) new ≡ take end mid ++ stored → drop (end + s) new ≡ drop (end + s) mid →
    take n stored ≡ by_bits g (left % 16) (take 8 (drop (8 * i) bytes)) →
    ((m : ℕ) → m < 16 → (v : List ℕ) → length v ≡ 8 → m ≡ left % 16 → length (by_bits g m v) ≡ n) →
    ArePut g s bytes mask (i + 1) (left / 16) old new at (end + n)
row_put g s n bytes mask i left old mid new stored at end long few room are front rest packed count =
    let v = drop (8 * i) bytes in
    let u = by_bits g (left % 16) (take 8 v) in
    let more : 8 ≤ length v = omega (arith, length-drop (8 * i) bytes, long) in
    let size : length u ≡ n = count (left % 16) (omega arith) (take 8 v) (length-take-le 8 v more) refl in
    record {
      written = are.written ++ u;
      put = put_more s old mid new are.written stored u at end n few room are.put front rest packed size;
      behind = append_assoc are.written u (by_bits g (left / 16) (drop (8 * (i + 1)) bytes))
          ∙ ap (λ z. are.written ++ (u ++ by_bits g (left / 16) z)) (ap (λ k. drop k bytes) (let e : 8 * (i + 1) ≡ 8 * i + 8 = omega arith in e) ∙ sym (drop-drop 8 (8 * i) bytes))
          ∙ ap (λ z. are.written ++ z) (sym (next_four g left v more)) ∙ are.behind;
    }

pub all_put : (g : Bool → ℕ → ℕ → List ℕ) (s : ℕ) (bytes : List ℕ) (mask i left : ℕ) (old new : List ℕ) (at end : ℕ) → length bytes ≤ 8 * i →
    ArePut g s bytes mask i left old new at end → IsPut s old new at end (by_bits g mask bytes)
all_put g s bytes mask i left old new at end last are =
    subst (λ w. IsPut s old new at end w) (sym (append-nil are.written) ∙ ap (λ z. are.written ++ z) (sym (ap (by_bits g left) (nothing_left bytes i last))) ∙ are.behind) are.put

-- how many bytes four bits more have
pub next_length : (g : Bool → ℕ → ℕ → List ℕ) (n : ℕ) (bytes : List ℕ) (i left : ℕ) → 8 * i + 8 ≤ length bytes →
    ((m : ℕ) → m < 16 → (v : List ℕ) → length v ≡ 8 → m ≡ left % 16 → length (by_bits g m v) ≡ n) →
    length (by_bits g left (drop (8 * i) bytes)) ≡ n + length (by_bits g (left / 16) (drop (8 * (i + 1)) bytes))
next_length g n bytes i left long count =
    let v = drop (8 * i) bytes in
    let u = by_bits g (left % 16) (take 8 v) in
    let more : 8 ≤ length v = omega (arith, length-drop (8 * i) bytes, long) in
    let size : length u ≡ n = count (left % 16) (omega arith) (take 8 v) (length-take-le 8 v more) refl in
    let there : drop 8 v ≡ drop (8 * (i + 1)) bytes = drop-drop 8 (8 * i) bytes ∙ ap (λ k. drop k bytes) (let e : 8 * i + 8 ≡ 8 * (i + 1) = omega arith in e) in
    ap length (next_four g left v more) ∙ length-append u (by_bits g (left / 16) (drop 8 v)) ∙ ap (λ k. k + length (by_bits g (left / 16) (drop 8 v))) size
    ∙ ap (λ z. n + length (by_bits g (left / 16) z)) there

-- no bits are left
pub none_left : (g : Bool → ℕ → ℕ → List ℕ) (bytes : List ℕ) (i left : ℕ) → length bytes ≤ 8 * i → length (by_bits g left (drop (8 * i) bytes)) ≡ 0
none_left g bytes i left last = ap (λ v. length (by_bits g left v)) (nothing_left bytes i last)
