use Rattle.std.proofs.Common.{◌≡◌, ◌≤◌, ◌-◌, length, drop}
use Rattle.text_lines.specs.Words.{words}
use Rattle.text_lines.proofs.word.word_start.Given as goal

abbrev pub decreases-loop-at : goal.decreases-loop-at
decreases-loop-at l = length l.initial.line - l.at

abbrev pub invariant-loop-at : goal.invariant-loop-at
invariant-loop-at l = record { within : l.at ≤ length l.line; same : words (drop l.at l.line) ≡ words l.line }
