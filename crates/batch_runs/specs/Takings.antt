-- What is taken of files.
use Rattle.std.specs.Prelude.{◌≡◌, ℕ, ◌+◌, ◌-◌, ◌<◌, ◌≤◌, min, List, [], ◌∷◌, length, Option, Some, None, IfSome, IsSomeAnd}
use Rattle.outside.specs.Shelves.{Shelf, content_of}
use Rattle.batch_jobs.specs.Jobs.{Text}
use Rattle.batch_runs.specs.declared.misses.Miss.{Miss}
use Rattle.batch_runs.specs.declared.misses.Miss.TheVariants.{NoFile, Large, Fault}

-- the most bytes of a text and of one input
abbrev pub one_input : ℕ
one_input = 16777216

-- the most bytes of all inputs
abbrev pub all_inputs : ℕ
all_inputs = 268435456

-- what came of taking a file
pub data Taking : Type 0 where
  Got : Text → Taking
  Missed : Miss → Taking

-- a file isn't taken for this reason, of which at most so many bytes are wanted
abbrev pub Misses : Option Shelf → ℕ → Text → Miss → Type 0
Misses told limit name NoFile = IfSome told (λ shelf. content_of shelf name ≡ None)
Misses told limit name Large = IfSome told (λ shelf. IsSomeAnd (content_of shelf name) (λ x. limit < length x))
Misses told limit name Fault = Unit {0}

-- what is taken of a name, of which at most so many bytes are wanted
abbrev pub TakesOne : Option Shelf → ℕ → Text → Taking → Type 0
TakesOne told limit name (Got x) = (length x ≤ limit) × IfSome told (λ shelf. content_of shelf name ≡ Some x)
TakesOne told limit name (Missed miss) = Misses told limit name miss

-- how many bytes were taken
abbrev pub length_taken : Taking → ℕ
length_taken (Got x) = length x
length_taken (Missed miss) = 0

-- how many bytes all inputs have
abbrev pub read_count : List Taking → ℕ
read_count [] = 0
read_count (t ∷ ts) = length_taken t + read_count ts

-- how often taking a file has failed, of one reason
abbrev pub miss_fault : Miss → ℕ
miss_fault NoFile = 0
miss_fault Large = 0
miss_fault Fault = 1

-- the same, of one taking
abbrev pub read_fault : Taking → ℕ
read_fault (Got x) = 0
read_fault (Missed miss) = miss_fault miss

-- how often taking a file has failed
abbrev pub read_faults : List Taking → ℕ
read_faults [] = 0
read_faults (t ∷ ts) = read_fault t + read_faults ts

-- the most bytes of an input, where all that are left may have so many
abbrev pub room : ℕ → ℕ
room left = min one_input left

-- the files of these names are taken one after another, where all may have so many bytes
abbrev pub AreTaken : Option Shelf → ℕ → List Text → List Taking → Type 0
AreTaken told left [] [] = Unit {0}
AreTaken told left [] (t ∷ ts) = ⊥
AreTaken told left (n ∷ ns) [] = ⊥
AreTaken told left (n ∷ ns) (t ∷ ts) =
    TakesOne told (room left) n t × AreTaken told (left - length_taken t) ns ts
