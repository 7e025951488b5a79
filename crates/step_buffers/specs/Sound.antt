-- What is true of a session's parts between two calls.
use Rattle.std.specs.Prelude.{◌+◌, ◌*◌, ◌≤◌, vec_len}
use Rattle.step_buffers.specs.Limits.{longest_stream, most_each}
use Rattle.step_buffers.specs.Steps.{HasRoom}
use Rattle.step_buffers.specs.declared.session.Session.TheInside.{Inside}

-- there is room for a return sequence, the numbers fit, and the output is bounded by what was
-- converted
pub record IsSound (s : Inside) : Type 0 where
  pub room : HasRoom s.parts 1
  pub within : s.offset + vec_len s.parts.tail ≤ s.taken
  pub little : vec_len s.parts.output ≤ most_each * s.offset
  pub stream : s.taken ≤ longest_stream
