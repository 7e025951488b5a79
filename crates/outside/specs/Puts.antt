-- What a file set holds after a file was put.
use Rattle.std.specs.Prelude.{◌≡◌, ℕ, ◌⊎◌, List, take, Option, Some, None, IsSomeAnd}
use Rattle.outside.specs.declared.file_sets.Put.{Put}
use Rattle.outside.specs.declared.file_sets.Put.TheVariants.{Done, Failed, Memory}
use Rattle.outside.specs.Faults.{raised}
use Rattle.outside.specs.Shelves.{Shelf, content_of, KeepsOthers}

-- what a failed put leaves of a name: what it held, or some first bytes of what was put
abbrev pub HoldsPart : Option (List ℕ) → Option (List ℕ) → List ℕ → Type 0
HoldsPart old new bytes = (new ≡ old) ⊎ ((n : ℕ) × (new ≡ Some (take n bytes)))

-- what is held after bytes were put to a name
abbrev pub Puts : Shelf → Shelf → List ℕ → List ℕ → Put → Type 0
Puts old new name bytes Done =
    (content_of new name ≡ Some bytes) × KeepsOthers old new name
Puts old new name bytes Failed =
    HoldsPart (content_of old name) (content_of new name) bytes × KeepsOthers old new name
Puts old new name bytes Memory = new ≡ old

-- the same, where it is told; what isn't told before isn't told after
abbrev pub PutsWhereTold : Option Shelf → Option Shelf → List ℕ → List ℕ → Put → Type 0
PutsWhereTold None new name bytes put = new ≡ None
PutsWhereTold (Some old) new name bytes put =
    IsSomeAnd new (λ shelf. Puts old shelf name bytes put)

-- the count of faults after a put: a put that failed raises it, and no other does
abbrev pub count_after_put : Put → ℕ → ℕ
count_after_put Failed count = raised count
count_after_put _ count = count
