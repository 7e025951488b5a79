-- What a reader of one unit and a writer of one point answer, for any set.
use Rattle.std.specs.Prelude.{◌≡◌, ℕ, ◌+◌, ◌-◌, ◌<◌, ◌≤◌, List, [], ◌∷◌, ◌++◌, length, take, drop, Option, Some, None}
use Rattle.step_unicode.specs.declared.set.State.{State}
use Rattle.step_unicode.specs.declared.set.Unit.{Unit}
use Rattle.step_unicode.specs.declared.set.Unit.TheVariants.{Got, Incomplete, Illegal}
use Rattle.step_unicode.specs.declared.wrote.Wrote.{Wrote}
use Rattle.step_unicode.specs.declared.wrote.Wrote.TheVariants as wrote
use Rattle.unit_relations.specs.Units.{Units, Begins, IsPartial}
use Rattle.unit_relations.specs.Spellings.{Spelling}

-- what x begins with in the state s
abbrev pub IsAnswer : Units State → State → List ℕ → Unit → Type 0
IsAnswer U s x (Got point used t) = (used ≤ length x) × U s (take used x) point t
IsAnswer U s x Incomplete = IsPartial U s x
IsAnswer U s x Illegal = ¬ (Begins U s x) × ¬ (IsPartial U s x)

-- a point p was written from the state t behind the first `at` bytes of old, which gives new, or why not
abbrev pub IsWrote : (ℕ → Type 0) → Spelling State → State → ℕ → ℕ → List ℕ → List ℕ → Wrote → Type 0
IsWrote Has W t p at old new (wrote.Bytes count t2) = Has p × (at + count ≤ length new) × (count ≤ 8)
    × (take (at + count) new ≡ take at old ++ W.bytes t (p ∷ []))
    × (drop (at + count) new ≡ drop (at + count) old)
    × (t2 ≡ W.after t (p ∷ []))
IsWrote Has W t p at old new wrote.Full =
    Has p × (new ≡ old) × (length old - at < length (W.bytes t (p ∷ [])))
IsWrote Has W t p at old new wrote.Lacks = ¬ (Has p) × (new ≡ old)

-- the bytes of one point and the state after them, or that the set hasn't the point
abbrev pub IsWritten : (ℕ → Type 0) → Spelling State → State → ℕ → Option (List ℕ × State) → Type 0
IsWritten Has W t p None = ¬ (Has p)
IsWritten Has W t p (Some w) = Has p × (w.0 ≡ W.bytes t (p ∷ [])) × (w.1 ≡ W.after t (p ∷ []))
