use Rattle.std.proofs.Common.{◌+◌, length, sum, ap, ◌∙◌}
use Rattle.two_threads.proofs.Totals.{two_totals, sum-thousand, length-range}
use Rattle.two_threads.proofs.adding.closed.Goals as goal

pub returns-clause-sum : goal.returns-clause-sum
returns-clause-sum c =
    let two = c.requires.two in
    let t = two_totals _ _ two.0 two.1 two.2 c.close.ensures.all in
    c.close.ensures.stands
    ∙ (t.0 ∙ (λ i. (ap sum c.requires.first ∙ sum-thousand)
    i + (ap sum c.requires.second ∙ sum-thousand) i))

pub returns-clause-count : goal.returns-clause-count
returns-clause-count c =
    let two = c.requires.two in
    let t = two_totals _ _ two.0 two.1 two.2 c.close.ensures.all in
    t.1 ∙ (λ i. (ap length c.requires.first ∙ length-range 1 1000)
    i + (ap length c.requires.second ∙ length-range 1 1000) i)
