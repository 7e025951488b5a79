use Rattle.std.proofs.Common.{◌≡◌, ◌≤◌, ◌<◌, ◌-◌, ℕ, length, get_or, false}
use Rattle.text_lines.specs.Words.{is_blank}
use Rattle.text_lines.proofs.word.word_end.Given as goal

abbrev pub decreases-loop-at : goal.decreases-loop-at
decreases-loop-at l = length l.initial.line - l.at

abbrev pub invariant-loop-at : goal.invariant-loop-at
invariant-loop-at l = record { within : l.at ≤ length l.line; each : (k : ℕ) → k < l.at → is_blank (get_or l.line k 0) ≡ false }
