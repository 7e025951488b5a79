-- What the lower half of a table tells.
use Rattle.std.proofs.Common.{◌≡◌, ◌+◌, ◌<◌, ℕ, zero, suc, Bool, true, false, ◌&&◌, List, [], ◌∷◌, Option, Some, None, ap, subst, inl, inr, arith, sym, add-one}
use Rattle.std.proofs.lemmas.Bool.{cases_lt, eqb-true, and_from, and_parts}
use Rattle.code_pairs.specs.Tables.{Table, point_of, code_of}
use Rattle.code_table.specs.Ascii.{is_found, is_single, is_own, are_own, is_ascii, IsOwn, IsAscii}

found_own : (o : Option ℕ) (b : ℕ) → is_found o b ≡ true → o ≡ Some b
found_own None b e = absurd (let x : false ≡ true = e in cc)
found_own (Some p) b e = ap (λ n. Some n) (eqb-true p b e)

single_own : (o : Option (List ℕ)) (b : ℕ) → is_single o b ≡ true → o ≡ Some (b ∷ [])
single_own None b e = absurd (let x : false ≡ true = e in cc)
single_own (Some []) b e = absurd (let x : false ≡ true = e in cc)
single_own (Some (c ∷ [])) b e = ap (λ n. Some (n ∷ [])) (eqb-true c b e)
single_own (Some (c ∷ d ∷ ds)) b e = absurd (let x : false ≡ true = e in cc)

-- What is said of a byte is what its readers and writers need.
own_is : (table : Table) (b : ℕ) → is_own table b ≡ true → IsOwn table b
own_is table b e =
    let p = and_parts (is_found (point_of table (b ∷ [])) b) (is_single (code_of table b) b) e in
    record { point = found_own (point_of table (b ∷ [])) b p.0; code = single_own (code_of table b) b p.1 }

each_own : (table : Table) (n b : ℕ) → are_own table n ≡ true → b < n → IsOwn table b
each_own table zero b e lt = absurd (omega (arith, lt))
each_own table (suc n) b e lt =
    let p = and_parts (is_own table n) (are_own table n) e in
    elim (cases_lt b n) [
      | inl below ↦ each_own table n b p.1 below
      | inr from ↦ subst (λ k. IsOwn table k) (let e : n ≡ b = omega (arith, lt, from) in e) (own_is table n p.0)
    ]

-- And so of the whole lower half.
pub ascii_is : (table : Table) → is_ascii table ≡ true → IsAscii table
unfolding is_ascii
ascii_is table e = λ b lt. each_own table 0x80 b e lt

-- One byte more.
pub one_more : (table : Table) (b : ℕ) → is_own table b ≡ true → are_own table b ≡ true → are_own table (b + 1) ≡ true
one_more table b e all =
    subst (λ n. are_own table n ≡ true) (sym (add-one b)) (and_from (is_own table b) (are_own table b) e all)

-- All 128 bytes were asked.
pub is_all : (table : Table) (n : ℕ) → n ≡ 0x80 → are_own table n ≡ true → is_ascii table ≡ true
unfolding is_ascii
is_all table n is all = subst (λ k. are_own table k ≡ true) is all

none_own : (table : Table) (n b : ℕ) → b < n → is_own table b ≡ false → are_own table n ≡ false
none_own table zero b lt e = absurd (omega (arith, lt))
none_own table (suc n) b lt e = elim (cases_lt b n) [
  | inl below ↦ and_false (is_own table n) (are_own table n) (none_own table n b below e)
  | inr from ↦ ap (λ x. x && are_own table n) (subst (λ k. is_own table k ≡ false) (let i : b ≡ n = omega (arith, lt, from) in i) e)
]
  where
    and_false : (x y : Bool) → y ≡ false → (x && y) ≡ false
    and_false true y e = e
    and_false false y e = cc

-- One byte that is not its own is enough.
pub is_none : (table : Table) (b : ℕ) → b < 0x80 → is_own table b ≡ false → is_ascii table ≡ false
unfolding is_ascii
is_none table b lt e = none_own table 0x80 b lt e
