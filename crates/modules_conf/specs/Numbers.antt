-- The limits of a configuration.
use Rattle.std.specs.Prelude.{ℕ}

-- the most module lines, alias lines or bindings lines
abbrev pub most_lines : ℕ
most_lines = 16384

-- the largest cost of a module line
abbrev pub most_cost : ℕ
most_cost = 2147483647
