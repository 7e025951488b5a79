-- What the end of a stream tells.
use Rattle.std.specs.Prelude.{ℕ, List}
use Rattle.unit_relations.specs.declared.verdict.Verdict.{Verdict}
use Rattle.unit_relations.specs.declared.verdict.Verdict.TheVariants as verdict
use Rattle.unit_relations.specs.Meaning.{Ending}
use Rattle.chain_steps.specs.Machine.{Machine}
use Rattle.chain_steps.specs.Chains.{initial}
use Rattle.step_buffers.specs.declared.answers.Finish.{Finish}
use Rattle.step_buffers.specs.declared.answers.Finish.TheVariants.{Done, Illegal, Incomplete}

-- the verdict that an end tells
abbrev pub verdict_at : Finish → Verdict
verdict_at Done = verdict.Done
verdict_at (Illegal offset) = verdict.Illegal
verdict_at (Incomplete offset) = verdict.Incomplete

-- the place that an end tells, in a stream of n bytes
abbrev pub offset_at : Finish → ℕ → ℕ
offset_at Done n = n
offset_at (Illegal offset) n = offset
offset_at (Incomplete offset) n = offset

-- what the bytes and the end of a stream of n bytes tell
abbrev pub ending : List ℕ → Finish → ℕ → Ending
ending bytes finish n =
    record { written = bytes; consumed = offset_at finish n; verdict = verdict_at finish }

-- where an end leaves a converter: in its initial states after a stream that was done, else as it
-- was
abbrev pub left_by : Finish → Machine → Machine
left_by Done m = record { recipe = m.recipe; states = initial }
left_by (Illegal offset) m = m
left_by (Incomplete offset) m = m
