-- How many pairs a charmap may have.
use Rattle.std.specs.Prelude.{ℕ}

-- the most pairs of a charmap, each range as its members
abbrev pub most_pairs : ℕ
most_pairs = 2097152
