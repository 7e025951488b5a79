use Rattle.std.proofs.Common.{◌≡◌, List, length, sym, subst, ap, ◌∙◌, arith}
use Rattle.std.proofs.lemmas.Grind.{common_steps}
use Rattle.module_graph.specs.Graph.{Shape}
use Rattle.module_counts.specs.Counting.{IsKnown, IsStock}
use Rattle.runtime_histories.specs.declared.entries.Entry.{Entry}
use Rattle.runtime_histories.specs.Entries.{deeds}
use Rattle.module_counts.specs.Admitting.{AreStepped}
use Rattle.module_counts.proofs.Booking.{stock_first}
use Rattle.module_counts.proofs.counts.Counts.new.Goals as goal

pub invariant_of-result : goal.invariant_of-result
invariant_of-result c =
    let g : c.of.result.value ≡ c.args.graph.now = c.of.ensures in
    let count : length c.in_ok-ages.ages.held.items ≡ length c.args.graph.now.kinds = c.in_ok-ages.ensures.count ∙ c.modules-modules.ensures in
    let known : IsKnown c.of.result.value (length c.in_ok-ages.ages.held.items) = subst (λ (z : Shape). IsKnown z (length c.in_ok-ages.ages.held.items)) (sym g) (subst (IsKnown c.args.graph.now) (sym count) c.requires.known) in
    record {
      stock = subst (λ (z : List Entry). IsStock c.of.result.value (record { live = c.new-4.result; ages = c.in_ok-ages.ages; homes = c.in_ok-homes.homes; pages = c.args.pages }) (deeds z)) (sym c.new-3.ensures.items) (stock_first c.of.result.value (record { live = c.new-4.result; ages = c.in_ok-ages.ages; homes = c.in_ok-homes.homes; pages = c.args.pages }) c.in_ok-ages.ensures.tracks c.in_ok-ages.ensures.clock c.in_ok-ages.ensures.held c.new-4.ensures.items c.new-4.ensures.slots c.in_ok-homes.ensures.none (record { count = c.in_ok-homes.ensures.count ∙ sym c.in_ok-ages.ensures.count; empty = λ m e. c.in_ok-homes.ensures.empty m }) known (grind (arith, common_steps)));
      steps = subst (λ (z : List Entry). AreStepped c.of.result.value z) (sym c.new-3.ensures.items) tt;
      few = grind (arith, common_steps);
      closable = grind (arith, common_steps);
      modules = count ∙ ap (λ (z : Shape). length z.kinds) (sym g);
    }
