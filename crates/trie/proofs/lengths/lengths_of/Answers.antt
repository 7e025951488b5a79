use Rattle.std.proofs.Common.{◌≡◌, ◌<◌, ◌∙◌, arith, ap, sym, get_or, length, take}
use Rattle.std.proofs.lemmas.List.{get_or-map, length-map}
use Rattle.trie.specs.Leaf.{Leaf}
use Rattle.trie.specs.Runs.{heads, Run}
use Rattle.trie.proofs.Overlapping.{short_more, long_more, shorter, longer}
use Rattle.trie.proofs.lengths.lengths_of.Goals as goal

pub loop-run-preserved : goal.loop-run-preserved
loop-run-preserved c =
    let runs = c.args.runs.now in
    let leaves = heads runs in
    let i = c.loop-run.run-index in
    let r : Run = c.run-item.result in
    let d = r.head in
    let here : r ≡ get_or runs i r = c.run-item.is in
    let path : c.path-len.result.now ≡ (get_or leaves i d).path =
    c.path-len.ensures.value ∙ ap (λ (l : Leaf). l.path) (ap (λ (x : Run). x.head) here
    ∙ sym (get_or-map (λ (x : Run). x.head) runs i r d (omega arith))) in
    let within : i < length leaves = omega (arith, length-map runs (λ (x : Run). x.head)) in
    let long = c.max-longest.ensures in
    let short = c.min-shortest.ensures in
    record {
      few = short_more 4 i leaves d within c.loop-run.invariant.few
          (omega (arith, ap length path, c.path-len.ensures.few));
      short = short_more c.max-longest.result i leaves d within
          (shorter c.loop-run.longest c.max-longest.result (take i leaves)
          (omega (arith, long)) c.loop-run.invariant.short) (omega (arith, ap length path, long));
      long = long_more c.min-shortest.result i leaves d within
          (longer c.loop-run.shortest c.min-shortest.result (take i leaves)
          (omega (arith, short)) c.loop-run.invariant.long) (omega (arith, ap length path, short));
    }
