use Rattle.std.proofs.Common.{◌≡◌, ◌<◌, ◌≤◌, ◌+◌, ◌^◌, length}
use Rattle.charmap_words.specs.Spelling.{spelled}
use Rattle.charmap_words.proofs.Spellings.{shown}
use Rattle.charmap_words.proofs.codes.read_code.Given as goal

abbrev pub decreases-loop-rest : goal.decreases-loop-rest
decreases-loop-rest l = length l.rest

abbrev pub invariant-loop-rest : goal.invariant-loop-rest
invariant-loop-rest l = record {
  told : shown l.count l.value (spelled l.escape l.rest) ≡ shown 0 0 (spelled l.escape l.word);
  fits : l.count ≤ 4 → l.value < 256 ^ l.count;
  room : l.count + length l.rest ≤ length l.word;
}
