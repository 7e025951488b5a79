-- A session and its converter stand for a stream, however it was cut.
use Rattle.std.specs.Prelude.{◌≡◌, ℕ, ◌≤◌, List, [], ◌∷◌, length, drop, Bool, true, false}
use Rattle.code_pairs.specs.Tables.{Tables}
use Rattle.step_unicode.specs.declared.set.State.{State}
use Rattle.unit_relations.specs.declared.verdict.Verdict.{Verdict}
use Rattle.unit_relations.specs.declared.verdict.Verdict.TheVariants.{Done, Full, Incomplete, Illegal}
use Rattle.unit_relations.specs.Calls.{Outcome}
use Rattle.unit_relations.specs.Meaning.{Means}
use Rattle.chain_steps.specs.Machine.{Machine}
use Rattle.chain_steps.specs.Chains.{chain, initial}
use Rattle.step_buffers.specs.Held.{Held}

-- whether a stream with that verdict can't go on
abbrev pub stops : Verdict → Bool
stops Illegal = true
stops Done = false
stops Full = false
stops Incomplete = false

-- a stream that has stopped is illegal; else it is done where nothing waits, and incomplete where
-- something does
abbrev pub verdict_from : Bool → List ℕ → Verdict
verdict_from true tail = Illegal
verdict_from false [] = Done
verdict_from false (b ∷ tail) = Incomplete

-- the verdict on the stream so far
abbrev pub verdict_of : Held → Verdict
verdict_of h = verdict_from h.stopped h.tail

-- what a session and its converter tell of the stream so far
abbrev pub outcome_of : Machine → Held → Outcome State
outcome_of m h =
    record { states = m.states; consumed = h.offset; written = h.output; verdict = verdict_of h }

-- what is told is the meaning of x; what waits is all that isn't converted, or nothing once the
-- session has stopped; and all of x was taken, or all up to the piece that stopped it
pub record StandsFor (ts : Tables) (m : Machine) (h : Held) (x : List ℕ) : Type 0 where
  pub means : Means (chain ts m.recipe) initial x (outcome_of m h)
  pub tail : h.stopped ≡ false → h.tail ≡ drop h.offset x
  pub taken : h.stopped ≡ false → h.taken ≡ length x
  pub stopped : h.stopped ≡ true → (h.tail ≡ []) × (h.taken ≤ length x)

-- two sessions tell the same: the output, the place, the verdict and the converter's states
abbrev pub TellTheSame : Machine → Machine → Held → Held → Type 0
TellTheSame m n h k = outcome_of m h ≡ outcome_of n k
