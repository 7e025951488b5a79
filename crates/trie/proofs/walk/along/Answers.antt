use Rattle.std.proofs.Common.{rules, ◌≡◌, ◌∙◌, Some, arith, sym, ap, subst, get_or}
use Rattle.trie.specs.Pages.{IsPageIn}
use Rattle.trie.specs.Words.{page_in, word_in}
use Rattle.trie.proofs.Walks.{walk_more}
use Rattle.trie.proofs.walk.along.Goals as goal

pub loop-byte-preserved : goal.loop-byte-preserved
loop-byte-preserved g c =
    let words = g.W.Words.words in
    let ws = words c.loop-byte.words in
    let page = c.loop-byte.page in
    let b = get_or c.args.bytes.now c.loop-byte.byte-index 0 in
    let next = c.in-Some.next in
    let was = c.loop-byte.invariant.page in
    let leads : page_in (word_in ws page b) ≡ Some next =
    ap page_in (sym c.word-word.ensures.value) ∙ sym c.page_in.ensures ∙ c.in-Some.is in
    let there = was.2.closed page b next was.3 was.4 (omega (arith, c.type_inv.bytes c.loop-byte.byte-index)) leads in
    let stays : IsPageIn (words c.word-word.new.self) next =
    subst (λ x. IsPageIn x next) (sym c.word-word.ensures.same) (was.0, was.1, was.2, there.0, there.1) in
    record {
      count = omega arith;
      rest = walk_more ws (words c.word-word.new.self) page c.loop-byte.used next c.loop-byte.byte-index
          c.args.bytes.now c.word-word.ensures.same (omega arith) leads
          ∙ c.loop-byte.invariant.rest;
      same = c.word-word.ensures.same ∙ c.loop-byte.invariant.same;
      page = stays;
      ready = c.word-word.ensures.ready;
      kept = search rules;
    }
