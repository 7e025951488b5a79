use Rattle.std.proofs.Common.{rules}
use Rattle.derivation_cache.proofs.Finding.{then_told}
use Rattle.derivation_cache.proofs.view.View.chain.Goals.{in-Some, in-None}
use Rattle.derivation_cache.proofs.view.View.chain.Goals as goal

pub returns-clause-answer : goal.returns-clause-answer
returns-clause-answer c =
    let k = c.self.inside.told in
    let seen = c.look_first-reader.ensures.found k.graph (rw c.take.ensures.value c.self.invariant) in
    rw (← c.self.view_is) (elim c.match-found.branch [
      | in-Some w ↦ rw w.result-is (rw w.into-is (search (rules, seen, w.in-Some.is)))
      | in-None w ↦ rw w.result-is (rw w.into-is (then_told k c.args.from.now c.args.to.now c.look_first-reader.result.1 w.look_in.result c.args.into.now c.look_first-reader.new.into w.look_in.new.into _ w.in-None.is seen w.look_in.ensures))
    ])
