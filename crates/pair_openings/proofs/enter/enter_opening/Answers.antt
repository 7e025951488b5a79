use Rattle.std.proofs.Common.{◌++◌, ◌∷◌, [], ◌∙◌}
use Rattle.runtime_histories.specs.declared.entries.Reply.TheVariants.{Opened}
use Rattle.pair_openings.specs.Entered.{entry_of}
use Rattle.pair_openings.proofs.enter.enter_opening.Goals as goal

pub returns-clause-enters : goal.returns-clause-enters
returns-clause-enters c =
    let o = c.args.opening in record {
      journal = c.admit-number.ensures.journal ∙ (λ i. c.args.counts.now.journal
          ++ entry_of c.args.caller c.args.from c.args.to (Opened o.chain.ordinals o.chain.cost (c.new.ensures i) (record { marker = record {}; value = c.of.ensures i })) ∷ []);
      graph = c.admit-number.ensures.same.0;
      pages = c.admit-number.ensures.same.1;
      limit = c.admit-number.ensures.same.2;
    }
