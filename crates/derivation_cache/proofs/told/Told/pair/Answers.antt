use Rattle.std.proofs.Common.{ap, ◌∙◌, find, IfSome}
use Rattle.std.specs.Arc.{arc_value}
use Rattle.derivation_cache.specs.Known.{is_of}
use Rattle.derivation_cache.specs.Trees.{known_of, in_order}
use Rattle.derivation_cache.proofs.Finding.{IsWanted, wanted, short}
use Rattle.derivation_cache.proofs.told.Told.pair.Goals.{After-pair}
use Rattle.derivation_cache.proofs.told.Told.pair.Goals as goal

-- the pair is a least one of these names
least : (c : After-pair) → IfSome c.pair.result (λ p. IsWanted (known_of (arc_value c.self.inside.list).record).graph c.args.from.now c.args.to.now p.now)
least c =
    let l = arc_value c.self.inside.list in let k = known_of l.record in let from = c.args.from.now in let to = c.args.to.now in
    wanted k.graph from to k.pairs c.pair.result (c.pair.ensures ∙ ap (λ x. find (is_of from to) (in_order x.tree)) c.deref.ensures ∙ c.self.invariant.serves.same from to) c.self.invariant.least

pub returns-clause-least : goal.returns-clause-least
returns-clause-least c = rw (← c.self.view_is) (least c)

pub returns-clause-short : goal.returns-clause-short
returns-clause-short c =
    let g = (known_of (arc_value c.self.inside.list).record).graph in
    rw (← c.self.view_is) (short g c.args.from.now c.args.to.now c.pair.result c.least_chains_are_short.ensures c.self.invariant.graph (least c))
