-- Why one charmap has no table. No public clause cites it.
use Rattle.std.specs.Prelude.{◌≡◌, ℕ, List, None, IfSome}
use Rattle.runtime_histories.specs.declared.refusals.Refusal.{Refusal}
use Rattle.runtime_histories.specs.declared.refusals.Refusal.TheVariants as refusals
use Rattle.runtime_histories.specs.Settings.{Source}
use Rattle.runtime_histories.specs.Charmaps.{text_of, IsFaulty}

-- Why the charmap of a word, which is one of a module, has no table.
abbrev pub RefusesOne : Source → ℕ → List ℕ → Refusal → Type 0
RefusesOne s m word (refusals.LibraryFault n w) = (n ≡ m) × (w ≡ word)
RefusesOne s m word (refusals.NoCharmap n w) = (n ≡ m) × (w ≡ word)
    × IfSome s.texts (λ shelf. text_of s shelf word ≡ None)
RefusesOne s m word (refusals.BadCharmap n w fault) = (n ≡ m) × (w ≡ word)
    × IfSome s.texts (λ shelf. IsFaulty (text_of s shelf word) fault)
RefusesOne s m word refusals.Memory = Unit {0}
RefusesOne s m word _ = ⊥

-- A refusal is the library's failure.
abbrev pub IsFailure : Refusal → Type 0
IsFailure (refusals.LibraryFault m w) = Unit {0}
IsFailure _ = ⊥
