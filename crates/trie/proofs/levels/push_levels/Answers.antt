use Rattle.std.proofs.Common.{◌<◌, ◌^◌, subst, ◌≡◌, ◌+◌, ◌*◌, ◌∙◌, arith, ap, length}
use Rattle.trie.specs.Fronts.{fronts}
use Rattle.trie.specs.Runs.{heads}
use Rattle.trie.proofs.RunLaws.{on_err}
use Rattle.trie.proofs.levels.push_levels.Goals as goal

pub returns-clause-size : goal.returns-clause-size
returns-clause-size c = c.loop-depth.invariant.size
    ∙ ap (λ b. 256 * b) (c.loop-depth.invariant.base
    ∙ ap (λ n. c.args.first + length (fronts (heads c.args.runs.now) n))
    (let e : c.loop-depth.depth ≡ 4 = omega arith in e))

pub returns-clause-few : goal.returns-clause-few
returns-clause-few c =
    let leaves = heads c.args.runs.now in
    let four : c.loop-depth.depth ≡ 4 = omega arith in
    let base : c.loop-depth.base ≡ c.args.first + length (fronts leaves 4) = c.loop-depth.invariant.base
    ∙ ap (λ n. c.args.first + length (fronts leaves n)) four in
    let few : c.loop-depth.base < 2 ^ 32 = omega (arith, c.loop-depth.invariant.few) in
    subst (λ n. n < 2 ^ 32) base few

pub returns-in_err-next-clause-size : goal.returns-in_err-next-clause-size
returns-in_err-next-clause-size c = on_err _ c.from_residual.result c.from_residual.ensures.0
