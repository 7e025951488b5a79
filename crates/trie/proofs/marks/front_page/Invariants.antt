use Rattle.std.proofs.Common.{◌≡◌, drop}
use Rattle.trie.specs.Words.{front_page}
use Rattle.trie.proofs.marks.front_page.Given as goal

abbrev pub invariant-loop-byte : goal.invariant-loop-byte
invariant-loop-byte l = front_page l.words l.page
    (drop l.byte-index l.front) ≡ front_page l.words l.fn.first l.front
