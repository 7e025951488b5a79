-- What leads to a word.
use Rattle.std.specs.Prelude.{ℕ, List}

-- A string of bytes, and the word that it leads to.
pub record Leaf : Type 0 where
  pub path : List ℕ
  pub word : ℕ
