-- The lines of a charmap text by the words that have an effect.
use Rattle.std.specs.Prelude.{ℕ, Bool, ◌||◌, ◌==◌, List, [], map, length, slice_index, slice_index_or}
use Rattle.text_lines.specs.Lines.{lines}
use Rattle.text_lines.specs.Words.{words}

-- The first two words of a line. No word is empty, so an empty one stands for one that isn't there.
pub record Row : Type 0 where
  pub first : List ℕ
  pub second : List ℕ

abbrev pub row : List ℕ → List ℕ → Row
row first second = record { first = first; second = second }

abbrev pub row_of : List ℕ → Row
row_of line = row (slice_index_or (words line) 0 []) (slice_index_or (words line) 1 [])

-- The lines of a text.
abbrev pub rows_of : List ℕ → List Row
rows_of text = map row_of (lines text)

-- A line is passed over that has no word, or whose first word begins with the comment character.
abbrev pub is_skipped : ℕ → List ℕ → Bool
is_skipped comment first = length first == 0 || slice_index first 0 == comment
