use Rattle.std.proofs.Common.{◌∙◌, ◌∷◌, arith}
use Rattle.trie.proofs.Images.{walk_finds, trie_pages}
use Rattle.trie.proofs.Walks.{walk_from, bytes_with}
use Rattle.trie.proofs.walk.look_on.Goals as goal

pub returns-clause-value : goal.returns-clause-value
returns-clause-value g c leaves at =
    let ws = g.W.Words.words c.args.words.now in
    let byte = c.args.byte in
    let rest = c.args.rest.now in
    c.along.ensures.value
    ∙ walk_from ws c.args.first byte c.args.next rest c.requires.leads
    ∙ walk_finds leaves c.args.first ws (byte ∷ rest) at
    (bytes_with byte rest (omega arith) (λ i. omega (arith, c.type_inv.rest i))) (omega arith)

pub along-requires-clause-page : goal.along-requires-clause-page
along-requires-clause-page g c =
    let ws = g.W.Words.words c.args.words.now in
    let p = trie_pages c.requires.trie.0 c.args.first ws c.requires.trie.1 in
    let there = p.2.closed c.args.first c.args.byte c.args.next p.3 p.4 (omega arith) c.requires.leads in
    (p.0, p.1, p.2, there.0, there.1)
