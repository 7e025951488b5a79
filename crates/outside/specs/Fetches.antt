-- What a library was asked for.
use Rattle.std.specs.Prelude.{ℕ, List, [], ◌∷◌, ◌++◌, Option, Some, None}
use Rattle.outside.specs.declared.file_sets.Taken.{Taken}
use Rattle.outside.specs.declared.file_sets.Taken.TheVariants.{Memory}

-- the paths asked for after a fetch: each that isn't answered Memory adds its own
abbrev pub asked_after : Taken → List ℕ → List (List ℕ) → List (List ℕ)
asked_after Memory path asked = asked
asked_after _ path asked = asked ++ path ∷ []

-- the same where it is told; what isn't told before isn't told after
abbrev pub paths_after : Taken → List ℕ → Option (List (List ℕ)) → Option (List (List ℕ))
paths_after fetched path None = None
paths_after fetched path (Some asked) = Some (asked_after fetched path asked)
