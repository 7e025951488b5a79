use Rattle.std.proofs.Common.{◌≡◌, ◌+◌, drop}
use Rattle.trie.specs.Pages.{IsPageIn}
use Rattle.trie.specs.Words.{walk_words}
use Rattle.trie.proofs.walk.along.Given as goal

abbrev pub invariant-loop-byte : goal.invariant-loop-byte
invariant-loop-byte g l =
    let words = g.W.Words.words in
    record {
      count : l.used ≡ l.fn.behind + l.byte-index;
      rest : walk_words (words l.words) l.page l.used (drop l.byte-index l.bytes) ≡ walk_words
          (words l.fn.words) l.fn.first l.fn.behind l.bytes;
      same : words l.words ≡ words l.fn.words;
      page : IsPageIn (words l.words) l.page;
      ready : g.W.Words.ready l.words;
      kept : g.W.Words.kept l.fn.words l.words;
    }
