use Rattle.std.proofs.Common.{◌≡◌, ◌∙◌, ◌+◌, ◌++◌, ℕ, arith, ap, rules, take, drop, get_or, sym, subst}
use Rattle.step_table.proofs.ManyLaws.{put_next, rest_next}
use Rattle.step_table.proofs.many.put_codes.Goals as goal

pub loop-code-preserved : goal.loop-code-preserved
loop-code-preserved c =
    let at = c.loop-code in
    let n = c.len-count.result in
    let new = c.put.new.output in
    let item = c.code-item.result in
    let same : get_or c.args.codes.now at.code-index item ≡ item = search rules in
    record {
      most = omega (arith, at.invariant.most, c.len-count.ensures.form.few, c.len-count.ensures.value);
      least = omega (arith, at.invariant.least);
      front = put_next c.args.codes.now at.code-index c.args.at at.end n item c.args.output.now at.output new (omega arith) at.invariant.front
          (subst (λ (k : ℕ). take (at.end + k) new ≡ take at.end at.output ++ get_or c.args.codes.now at.code-index item) (sym c.len-count.ensures.value) (c.put.ensures.front ∙ ap (λ z. take at.end at.output ++ z) (sym same)));
      rest = rest_next at.end n c.args.output.now at.output new at.invariant.rest
          (subst (λ (k : ℕ). drop (at.end + k) new ≡ drop (at.end + k) at.output) (sym c.len-count.ensures.value) c.put.ensures.rest);
    }
