use Rattle.std.proofs.Common.{◌∙◌, arith}
use Rattle.trie.proofs.Images.{walk_finds, trie_pages}
use Rattle.trie.proofs.walk.look.Goals as goal

pub returns-clause-value : goal.returns-clause-value
returns-clause-value g c leaves at =
    c.along.ensures.value ∙ walk_finds leaves c.args.first
    (g.W.Words.words c.args.words.now) c.args.bytes.now at
    (λ i. omega (arith, c.type_inv.bytes i)) c.requires.some

pub along-requires-clause-page : goal.along-requires-clause-page
along-requires-clause-page g c =
    trie_pages c.requires.trie.0 c.args.first (g.W.Words.words c.args.words.now) c.requires.trie.1
