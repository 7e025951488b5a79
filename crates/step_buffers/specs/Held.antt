-- What a session holds.
use Rattle.std.specs.Prelude.{ℕ, ◌*◌, ◌≤◌, length, List, [], Bool, true, false}
use Rattle.step_buffers.specs.Limits.{longest_tail, most_each}
use Rattle.step_buffers.specs.declared.answers.Fed.{Fed}
use Rattle.step_buffers.specs.declared.answers.Fed.TheVariants.{Going, Stopped}

-- what was written, what waits to be converted, how many bytes were converted and taken, and
-- whether the stream was found to be illegal
pub record Held : Type 0 where
  pub output : List ℕ
  pub tail : List ℕ
  pub offset : ℕ
  pub taken : ℕ
  pub stopped : Bool

-- what is held before the first piece
abbrev pub nothing_held : Held
nothing_held = record { output = []; tail = []; offset = 0; taken = 0; stopped = false }

-- little waits, and the output is bounded by what was taken
pub record IsLittle (h : Held) : Type 0 where
  pub tail : length h.tail ≤ longest_tail
  pub output : length h.output ≤ most_each * h.taken

-- Stopped and where, or Going
abbrev pub answer_from : Bool → ℕ → Fed
answer_from true offset = Stopped offset
answer_from false offset = Going

-- what a session answers to a piece: whether it has stopped, and where
abbrev pub answer_of : Held → Fed
answer_of h = answer_from h.stopped h.offset
