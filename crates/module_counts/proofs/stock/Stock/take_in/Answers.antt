use Rattle.std.proofs.Common.{◌++◌, ◌∷◌, [], Option, sym, refl, ap, ◌∙◌, subst}
use Rattle.runtime_histories.specs.Deeds.{act, Deed}
use Rattle.runtime_histories.specs.Entries.{deeds}
use Rattle.module_counts.specs.Stocks.{lists}
use Rattle.module_counts.specs.Admitting.{Success, success_of, deed_by, CanOpen, CanTake}
use Rattle.module_counts.specs.Successes.{IsSuccess}
use Rattle.module_counts.specs.Counting.{IsStock}
use Rattle.module_counts.proofs.Entering.{deed_is, some_is}
use Rattle.module_counts.proofs.Stocking.{stock_rested}
use Rattle.module_counts.proofs.stock.Stock.take_in.Goals as goal

pub returns-in-Some-clause-stock : goal.returns-in-Some-clause-stock
returns-in-Some-clause-stock c =
    let g = c.args.graph.now in let log = deeds c.args.journal.now in
    let r = some_is (λ (v : Success). IsSuccess v c.in-Some.found) (success_of c.args.entry.now.event) c.in-Some.ensures in
    let can : CanOpen g c.args.self.now.pages log r.0 (lists c.args.places.items) = subst (λ (o : Option Success). CanTake g c.args.self.now.pages log o (lists c.args.places.items)) r.1 c.requires.can in
    subst (λ (d : Deed). IsStock g c.open.new.self (log ++ act c.args.entry.now.caller d ∷ [])) (sym (deed_is c.args.entry.now.event c.requires.opening ∙ ap deed_by r.1)) (c.open.ensures.stock r.0 r.2 can)

pub returns-in-None-clause-stock : goal.returns-in-None-clause-stock
returns-in-None-clause-stock c =
    let g = c.args.graph.now in let log = deeds c.args.journal.now in
    subst (λ (d : Deed). IsStock g (record { live = c.skip.new.self; ages = c.args.self.now.ages; homes = c.args.self.now.homes; pages = c.args.self.now.pages }) (log ++ act c.args.entry.now.caller d ∷ [])) (sym (deed_is c.args.entry.now.event c.requires.opening ∙ ap deed_by c.in-None.ensures))
    (stock_rested g c.args.self.now _ log c.args.entry.now.caller c.requires.stock refl c.skip.ensures.items c.skip.ensures.slots refl refl)
