use Rattle.std.proofs.Common.{◌≡◌, ◌+◌, ◌*◌, ◌<◌, ◌^◌, take, length}
use Rattle.trie.specs.Fronts.{level, fronts}
use Rattle.trie.specs.Runs.{heads}
use Rattle.trie.specs.Stages.{IsStage}
use Rattle.trie.proofs.levels.push_levels.Given as goal

abbrev pub invariant-loop-depth : goal.invariant-loop-depth
invariant-loop-depth l =
    let leaves = heads l.runs in
    record {
      stage : IsStage leaves l.first l.depth l.words.items;
      base : l.base ≡ l.first + length (fronts leaves l.depth);
      count : l.count ≡ length (level leaves l.depth);
      size : length l.words.items ≡ 256 * l.base;
      few : l.base + l.count < 2 ^ 32;
      same : take (length l.fn.words.items) l.words.items ≡ l.fn.words.items;
    }
