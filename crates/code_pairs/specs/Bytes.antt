-- Numbers as bytes, the highest first.
use Rattle.std.specs.Prelude.{ℕ, zero, suc, ◌+◌, ◌*◌, ◌/◌, ◌%◌, ◌<◌, ◌≤◌, List, [], ◌∷◌, ◌++◌, length, fold}
use Rattle.std.specs.List.{AllByRecursion}

-- The lowest bytes of a number, so many of them.
abbrev pub big_endian : ℕ → ℕ → List ℕ
big_endian zero n = []
big_endian (suc k) n = big_endian k (n / 256) ++ (n % 256) ∷ []

-- The number that bytes stand for.
abbrev pub value_of : List ℕ → ℕ
value_of bytes = fold (λ n b. 256 * n + b) 0 bytes

-- Each number of the list is a byte.
abbrev pub AreBytes : List ℕ → Type 0
AreBytes bytes = AllByRecursion (λ b. b < 256) bytes

-- The list may be a code: it has 1 to 4 numbers, and each is a byte.
pub record IsCodeForm (code : List ℕ) : Type 0 where
  pub some : 0 < length code
  pub few : length code ≤ 4
  pub bytes : AreBytes code
