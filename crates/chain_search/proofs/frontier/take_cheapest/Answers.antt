use Rattle.std.proofs.Common.{◌≡◌, ◌<◌, ◌≤◌, List, [], ◌∷◌, length, arith, subst, Less, refl}
use Rattle.std.proofs.lemmas.Grind.{common_steps}
use Rattle.std.proofs.lemmas.Bool.{false≢true}
use Rattle.chain_search.specs.declared.frontier.Open.{Open}
use Rattle.chain_search.specs.contracts.frontier.OpenOrd.TheImpl as OpenOrd
use Rattle.chain_search.proofs.Frontiers.{covers_rest, covers_others, cheapest_first, none_left}
use Rattle.chain_search.proofs.frontier.take_cheapest.Goals as goal

below : (x y : Open) → OpenOrd.cmp-value.it x y ≡ Less → x.cost ≤ y.cost
below x y e = grind (arith, common_steps)

no_keys : (ks : List Open) → (0 < length ks → ⊥) → ks ≡ []
no_keys [] h = refl
no_keys (k ∷ ks) h = absurd (h (omega arith))

pub returns-in-Some-current-clause-found : goal.returns-in-Some-current-clause-found
returns-in-Some-current-clause-found c = cheapest_first c.args.known.now c.args.opened.now c.loop-entry.queue.keys c.pop_first.new.self.keys c.in-Some.entry c.in-Some-current.step c.in-Some.ensures.removal c.loop-entry.invariant
    (λ x m. below c.in-Some.entry x (subst (λ y. OpenOrd.cmp-value.it c.in-Some.entry y ≡ Less) m.2 (c.in-Some.ensures.all_above m.0 x m.1))) c.requires.same c.in-Some-current.ensures

pub returns-in-Some-current-clause-rest : goal.returns-in-Some-current-clause-rest
returns-in-Some-current-clause-rest c = covers_others c.args.known.now c.args.opened.now c.loop-entry.queue.keys c.pop_first.new.self.keys c.in-Some.entry c.in-Some.ensures.removal c.loop-entry.invariant

pub loop-entry-preserved : goal.loop-entry-preserved
loop-entry-preserved c = covers_rest c.args.known.now c.args.opened.now c.loop-entry.queue.keys c.pop_first.new.self.keys c.in-Some.entry c.in-Some.ensures.removal c.loop-entry.invariant c.in_default-current.ensures

pub returns-clause-none : goal.returns-clause-none
returns-clause-none c = none_left c.args.known.now c.args.opened.now c.loop-entry.queue.keys (no_keys c.loop-entry.queue.keys (λ h. absurd (false≢true (c.in_default.ensures.variant.1 h)))) c.loop-entry.invariant
