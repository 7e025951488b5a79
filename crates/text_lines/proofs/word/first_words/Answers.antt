use Rattle.std.proofs.Common.{◌∙◌, arith, ap, map, length, ◌++◌, ◌-◌, ◌+◌, ◌<◌, ◌≤◌, take}
use Rattle.std.proofs.lemmas.List.Elements.{All-push, All-same}
use Rattle.text_lines.specs.Words.{words}
use Rattle.text_lines.proofs.WordLemmas.{map-front}
use Rattle.text_lines.proofs.word.first_words.Goals as goal

pub loop-preserved : goal.loop-preserved
loop-preserved g c = record {
  count = omega (arith, c.loop.invariant.count, c.push.ensures.len);
  rest =
      ap (λ found. map (λ word. word.now) found ++ take (g.row.N - (c.loop.counter + 1)) (words c.in-Some.behind.now)) c.push.ensures.items
      ∙ map-front (λ word. word.now) c.loop.found.items c.in-Some.word _ _ g.row.N c.loop.counter c.loop-test.true c.in-Some.ensures.found
      ∙ c.loop.invariant.rest;
  left = omega (arith, c.loop.invariant.left, c.in-Some.ensures.shorter);
  sized =
      All-same (λ word. (0 < length word.now) × (length word.now ≤ length c.args.line.now)) _ _ c.push.ensures.items
      (All-push (λ word. (0 < length word.now) × (length word.now ≤ length c.args.line.now)) c.loop.found.items c.in-Some.word c.loop.invariant.sized
      (c.in-Some.ensures.sized.0, omega (arith, c.in-Some.ensures.sized, c.loop.invariant.left)));
}
