use Rattle.std.proofs.Common.{◌≡◌, ◌++◌, ◌-◌, ◌<◌, ◌≤◌, length, map, take}
use Rattle.std.specs.Prelude.{All}
use Rattle.text_lines.specs.Words.{words}
use Rattle.text_lines.proofs.word.first_words.Given as goal

abbrev pub invariant-loop : goal.invariant-loop
invariant-loop g l = record {
  count : length l.found.items ≡ l.counter;
  rest : map (λ word. word.now) l.found.items ++ take (l.end - l.counter) (words l.rest) ≡ take l.end (words l.line);
  left : length l.rest ≤ length l.line;
  sized : All (λ word. (0 < length word.now) × (length word.now ≤ length l.line)) l.found.items;
}
