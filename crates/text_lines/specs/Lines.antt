-- The lines of a text.
use Rattle.std.specs.Prelude.{ℕ, ◌==◌, if◌then◌else◌, List, [], ◌∷◌, length}
use Rattle.std.specs.List.{slice_split, enumerate_from}

-- The parts without an empty one at the end.
abbrev pub without_empty_end : List (List ℕ) → List (List ℕ)
without_empty_end [] = []
without_empty_end (part ∷ []) = if length part == 0 then [] else part ∷ []
without_empty_end (part ∷ next ∷ more) = part ∷ without_empty_end (next ∷ more)

-- The lines of a text are what the bytes 0A part, without an empty part at the end.
abbrev pub lines : List ℕ → List (List ℕ)
lines text = without_empty_end (slice_split (λ byte. byte == 10) text)

-- The lines of a text, each behind its number, from 1.
abbrev pub numbered_lines : List ℕ → List (ℕ × List ℕ)
numbered_lines text = enumerate_from 1 (lines text)
