-- Tables that are shared.
use Rattle.std.proofs.Common.{◌≡◌, ◌<◌, ℕ, zero, suc, List, [], ◌∷◌, length, map, get_or, refl, arith}
use Rattle.std.specs.Arc.{arc_value}
use Rattle.std.specs.declared.sync.Arc.{Arc}
use Rattle.std.specs.declared.alloc.Global.{Global}
use Rattle.code_pairs.specs.Tables.{Table, table_at}

-- The table of a number is that which is shared there.
pub shared_at : (xs : List (Arc Table Global)) (k : ℕ) (d : Arc Table Global) → k < length xs → table_at (map arc_value xs) k ≡ arc_value (get_or xs k d)
shared_at [] k d lt = absurd (omega (arith, lt))
shared_at (x ∷ xs) zero d lt = refl
shared_at (x ∷ xs) (suc k) d lt = shared_at xs k d (omega (arith, lt))
