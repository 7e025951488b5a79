-- How long a text may be.
use Rattle.std.specs.Prelude.{ℕ}

-- the most bytes that a text of a configuration, a charmap, a list of jobs or an input may have
abbrev pub longest_text : ℕ
longest_text = 16777216
