-- What the definitions of tables give to those who use them.
use Rattle.std.proofs.Common.{◌≡◌, ℕ, cond, eqb, List, [], ◌∷◌, Some, None, sym, ap, ◌∙◌, subst, inl, inr}
use Rattle.std.specs.List.{AllByRecursion}
use Rattle.std.specs.Str.{bytes_eq}
use Rattle.std.proofs.lemmas.Bool.{cases_Bool, both_ways}
use Rattle.std.proofs.lemmas.Slice.Eq.{bytes_eq-Decides}
use Rattle.code_pairs.specs.Bytes.{IsCodeForm}
use Rattle.code_pairs.specs.Tables.{Pair, Table, point_of, code_of, IsCode, IsWellFormed}

-- A fact of each pair is one of each code with its point.
pub IsCode-each : (P : List ℕ → ℕ → Type 0) (table : Table) → AllByRecursion (λ (p : Pair). P p.code p.point) table →
    (u : List ℕ) (n : ℕ) → IsCode table u n → P u n
IsCode-each P [] all u n e = none_some e
  where
    none_some : {m : ℕ} → None ≡ Some m → P u n
    none_some h = cc
IsCode-each P (p ∷ ps) all u n e = elim (cases_Bool (bytes_eq p.code u)) [
  | inl t ↦
      let codes : p.code ≡ u = (bytes_eq-Decides p.code u).0 t in
      let points : p.point ≡ n = same_some (ap (λ b. cond b (Some p.point) (point_of ps u)) (sym t) ∙ e) in
      subst (λ m. P u m) points (subst (λ v. P v p.point) codes all.0)
  | inr f ↦ IsCode-each P ps all.1 u n (ap (λ b. cond b (Some p.point) (point_of ps u)) (sym f) ∙ e)
]
  where
    same_some : {a b : ℕ} → Some a ≡ Some b → a ≡ b
    same_some h = cc

-- The code of a point is a code.
pub IsCode-code_of : (table : Table) (n : ℕ) (u : List ℕ) → code_of table n ≡ Some u → (m : ℕ) × IsCode table u m
IsCode-code_of [] n u e = absurd (none_some e)
  where
    none_some : {v : List ℕ} → None ≡ Some v → ⊥
    none_some h = cc
IsCode-code_of (p ∷ ps) n u e = elim (cases_Bool (bytes_eq p.code u)) [
  | inl t ↦ (p.point, ap (λ b. cond b (Some p.point) (point_of ps u)) t)
  | inr f ↦ elim (cases_Bool (eqb p.point n)) [
    | inl s ↦ absurd (both_ways (bytes_eq p.code u) f ((bytes_eq-Decides p.code u).1 (same_some (ap (λ b. cond b (Some p.code) (code_of ps n)) (sym s) ∙ e))))
    | inr g ↦
        let later = IsCode-code_of ps n u (ap (λ b. cond b (Some p.code) (code_of ps n)) (sym g) ∙ e) in
        (later.0, ap (λ b. cond b (Some p.point) (point_of ps u)) f ∙ later.1)
  ]
]
  where
    same_some : {v w : List ℕ} → Some v ≡ Some w → v ≡ w
    same_some h = cc

-- A code that a table gives for a point may be a code.
pub IsCodeForm-code_of : (table : Table) → IsWellFormed table → (n : ℕ) (u : List ℕ) → code_of table n ≡ Some u → IsCodeForm u
IsCodeForm-code_of table well n u e = let k = IsCode-code_of table n u e in well.forms u k.0 k.1
