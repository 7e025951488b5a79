-- The words of a line.
use Rattle.std.specs.Prelude.{ℕ, Bool, ◌||◌, ◌==◌, List, filter, length, nat_lt}
use Rattle.std.specs.List.{slice_split}

-- The bytes that part words are tab, vertical tab, form feed, carriage return and space.
abbrev pub is_blank : ℕ → Bool
is_blank byte = byte == 9 || byte == 11 || byte == 12 || byte == 13 || byte == 32

-- The words of a line are what blanks part, and isn't empty.
abbrev pub words : List ℕ → List (List ℕ)
words line = filter (λ part. nat_lt 0 (length part)) (slice_split is_blank line)
