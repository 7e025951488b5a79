-- Codes of points, one behind another.
use Rattle.std.proofs.Common.{◌≡◌, ◌+◌, ◌<◌, ℕ, zero, suc, Option, arith, List, [], ◌∷◌, ◌++◌, length, take, get_or, Some, None, sym, subst}
use Rattle.std.specs.Prelude.{slice_set, IsSome}
use Rattle.std.specs.List.{AllByRecursion}
use Rattle.std.proofs.lemmas.List.{take_more, take_more_set}
use Rattle.code_pairs.specs.Tables.{Table, code_of}
use Rattle.code_table.specs.Eights.{AreCodesOf, HasCode}

codes_more : (table : Table) (ps : List ℕ) (cs : List (List ℕ)) (p : ℕ) (c : List ℕ) → AreCodesOf table ps cs → code_of table p ≡ Some c →
    AreCodesOf table (ps ++ p ∷ []) (cs ++ c ∷ [])
codes_more table [] [] p c are is = (is, tt)
codes_more table [] (d ∷ cs) p c are is = absurd are
codes_more table (q ∷ ps) [] p c are is = absurd are
codes_more table (q ∷ ps) (d ∷ cs) p c are is = (are.0, codes_more table ps cs p c are.1 is)

-- one code more in a loop that puts each behind the last
pub codes_next : (table : Table) (points : List ℕ) (list : List (List ℕ)) (i d : ℕ) (c : List ℕ) → i < length points → i < length list →
    AreCodesOf table (take i points) (take i list) → code_of table (get_or points i d) ≡ Some c →
    AreCodesOf table (take (i + 1) points) (take (i + 1) (slice_set list i c))
codes_next table points list i d c lt room are is =
    subst (λ ps. AreCodesOf table ps (take (i + 1) (slice_set list i c))) (sym (take_more points i d lt))
    (subst (λ cs. AreCodesOf table (take i points ++ get_or points i d ∷ []) cs) (sym (take_more_set list i c room))
    (codes_more table (take i points) (take i list) (get_or points i d) c are is))

lack : (o : Option (List ℕ)) → o ≡ None → IsSome o → ⊥
lack (Some c) e h = cc
lack None e h = cc

-- a point without a code is one that not all have
pub codes_lack : (table : Table) (ps : List ℕ) (i d : ℕ) → i < length ps → code_of table (get_or ps i d) ≡ None →
    AllByRecursion (HasCode table) ps → ⊥
codes_lack table [] i d lt none all = absurd (omega arith)
codes_lack table (p ∷ ps) zero d lt none all = lack (code_of table p) none all.0
codes_lack table (p ∷ ps) (suc i) d lt none all = codes_lack table ps i d (omega arith) none all.1
