-- A scan of a text from left to right. No public clause cites it.
use Rattle.std.specs.Prelude.{ℕ, zero, suc, List, [], ◌∷◌, ◌++◌}

-- The bytes of a name behind so many slashes, of what stands before the first slash and behind it.
abbrev pub so_far : ℕ → List ℕ → List ℕ → List ℕ
so_far zero head tail = head
so_far (suc zero) head tail = head ++ 47 ∷ tail
so_far (suc (suc n)) head tail = (head ++ 47 ∷ tail) ++ 47 ∷ []

-- What stands behind the first slash, if it was met.
abbrev pub tail_at : ℕ → List ℕ → List ℕ
tail_at zero tail = []
tail_at (suc n) tail = tail
