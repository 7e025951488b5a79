-- Many units at once, whose points have a form: below 80 hex, or below 10000 hex and no surrogates.
use Rattle.std.specs.Prelude.{◌≡◌, ℕ, ◌<◌, ◌≤◌, List, length, take, Option}
use Rattle.std.specs.List.{AllByRecursion}
use Rattle.step_unicode.specs.declared.set.State.{State}
use Rattle.unit_relations.specs.Units.{Reads}
use Rattle.unit_relations.specs.Spellings.{Spelling}
use Rattle.chain_steps.specs.Appended.{IsAppended}

-- x begins with units of these points, all of a form, which take `used` bytes and lead back to the state s
pub record IsBlock (Form : List ℕ → Type 0) (U : State → List ℕ → Option ℕ → State → Type 0) (s : State) (x points : List ℕ) (used : ℕ) : Type 0 where
  pub some : 0 < used
  pub within : used ≤ length x
  pub form : Form points
  pub reads : Reads U s (take used x) points s

-- these points were written in the state t, which stays
pub record IsBlockPut (Has : ℕ → Type 0) (W : Spelling State) (t : State) (points : List ℕ) (at : ℕ) (old new : List ℕ) (n : ℕ) : Type 0 where
  pub has : AllByRecursion Has points
  pub put : IsAppended old new at n (W.bytes t points)
  pub stays : W.after t points ≡ t
