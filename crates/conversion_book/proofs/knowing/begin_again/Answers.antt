use Rattle.std.proofs.Common.{sym, subst, ◌∙◌}
use Rattle.module_graph.specs.Graph.{Shape}
use Rattle.pair_openings.specs.Knowing.{IsKnown, IsLeastFor}
use Rattle.conversion_book.proofs.Opening.{begun_least}
use Rattle.conversion_book.proofs.knowing.begin_again.Goals as goal

pub begin_asked-requires-clause-known : goal.begin_asked-requires-clause-known
begin_asked-requires-clause-known g c =
    subst (λ (s : Shape). IsKnown s c.asked-from.result c.asked-to.result c.known_chain-known.result) c.requires.told c.known_chain-known.ensures

pub keep_chain-requires : goal.keep_chain-requires
keep_chain-requires g c =
    let o = c.in_ok-begun.begun in
    subst (λ (s : Shape). IsLeastFor s o.from o.to o.opening.chain) (sym c.requires.graph ∙ sym c.requires.told)
    (begun_least c.args.aliases.now c.args.dir.now c.args.counts.now c.begin_asked.new.counts _ _ _ _ _ c.in_ok-begun.ensures.ok)
