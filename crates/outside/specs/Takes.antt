-- What is answered when a file is taken or a text is fetched.
use Rattle.std.specs.Prelude.{◌≡◌, ℕ, ◌<◌, ◌≤◌, List, length, Option, Some, None, IsSomeAnd}
use Rattle.outside.specs.declared.file_sets.Taken.{Taken}
use Rattle.outside.specs.declared.file_sets.Taken.TheVariants.{Bytes, Absent, TooLarge, Failed, Memory}
use Rattle.outside.specs.Faults.{raised}

-- what is taken of a name with this content, of which at most limit bytes are wanted
abbrev pub Takes : Option (List ℕ) → ℕ → Taken → Type 0
Takes content limit (Bytes v) = content ≡ Some v.items
Takes content limit Absent = content ≡ None
Takes content limit TooLarge = IsSomeAnd content (λ bytes. limit < length bytes)
Takes content limit Failed = Unit {0}
Takes content limit Memory = Unit {0}

-- bytes that were taken are at most limit
abbrev pub FitsLimit : ℕ → Taken → Type 0
FitsLimit limit (Bytes v) = length v.items ≤ limit
FitsLimit limit _ = Unit {0}

-- the count of faults after a take: a take that failed raises it, and no other does
abbrev pub count_after_take : Taken → ℕ → ℕ
count_after_take Failed count = raised count
count_after_take _ count = count
