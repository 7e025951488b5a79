-- Entries in pairs, one list behind another.
use Rattle.std.proofs.Common.{◌≡◌, ◌∙◌, ◌+◌, ℕ, List, [], ◌∷◌, ◌++◌, length, Option, ap, subst, refl, arith}
use Rattle.runtime_histories.specs.declared.entries.Entry.{Entry}
use Rattle.batch_runs.specs.Histories.{Placed, placed_from, ArePaired}

-- The positions of entries go on behind others.
pub placed-append : (at : ℕ) (xs ys : List Entry) → placed_from at (xs ++ ys) ≡ placed_from at xs ++ placed_from (at + length xs) ys
placed-append at [] ys = ap (λ p. placed_from p ys) (omega arith)
placed-append at (e ∷ es) ys =
    ap (λ ps. record { at = at; entry = e } ∷ ps)
    (placed-append (at + 1) es ys ∙ ap (λ p. placed_from (at + 1) es ++ placed_from p ys) (omega arith))

-- Entries in pairs behind others are in pairs.
pub paired-append : (before between after : Option ℕ) (ps qs : List Placed) → ArePaired before ps between → ArePaired between qs after → ArePaired before (ps ++ qs) after
paired-append before between after [] qs h k = subst (λ (o : Option ℕ). ArePaired o qs after) h k
paired-append before between after (p ∷ ps) qs h k = (h.0, h.1, paired-append h.0 between after ps qs h.2 k)
