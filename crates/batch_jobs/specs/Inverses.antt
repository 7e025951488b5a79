-- Odd numbers modulo 1,024.
use Rattle.std.specs.Prelude.{ℕ, [], ◌∷◌, slice_index}

-- What 1, 3, 5, 7, 9, 11, 13 and 15 are multiplied by for a product of 1 modulo 1,024.
abbrev pub inverse_of : ℕ → ℕ
inverse_of place = slice_index (1 ∷ 683 ∷ 205 ∷ 439 ∷ 569 ∷ 931 ∷ 709 ∷ 751 ∷ []) place
