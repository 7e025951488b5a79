use Rattle.std.proofs.Common.{◌≡◌, ◌≤◌, ◌++◌, [], Bool, List, ℕ, cond, get_or, map, sym, refl, ap, ◌∙◌, subst}
use Rattle.std.specs.List.{list_any}
use Rattle.module_counts.specs.declared.lives.Live.{Live}
use Rattle.runtime_histories.specs.Deeds.{Pair, same_pair, releases}
use Rattle.runtime_histories.specs.Fair.{times}
use Rattle.runtime_histories.specs.Settings.{modules_of}
use Rattle.module_counts.specs.Tracking.{IsTracking}
use Rattle.module_counts.specs.Admitting.{Success, success_of}
use Rattle.module_counts.specs.Successes.{IsSuccess}
use Rattle.module_counts.specs.Lives.{pair_shown}
use Rattle.module_counts.proofs.Entering.{is_by, some_is}
use Rattle.module_counts.proofs.stock.Stock.stop.Goals as goal

live_of_pair : (from to : List ℕ) (v : Success) (xs ys : List Live) (r : Bool) → xs ≡ ys → v.pair.generation ≡ 0 → v.pair.from ≡ from → v.pair.to ≡ to
    → r ≡ list_any (λ (x : Live). same_pair (pair_shown x) (record { generation = 0; from = from; to = to })) xs → r ≡ list_any (λ (x : Live). same_pair (pair_shown x) v.pair) ys
live_of_pair from to v xs ys r e g f t h =
    let same : record { generation = 0; from = from; to = to } ≡ v.pair = (λ i. record { generation = sym g i; from = sym f i; to = sym t i }) in
    h ∙ (ap (list_any (λ (x : Live). same_pair (pair_shown x) (record { generation = 0; from = from; to = to }))) e ∙ ap (λ (p : Pair). list_any (λ (x : Live). same_pair (pair_shown x) p) ys) same)

pub stop_pair-requires-clause-enough : goal.stop_pair-requires-clause-enough
stop_pair-requires-clause-enough c = λ dead m.
    let r = some_is (λ (v : Success). IsSuccess v c.in-Some.found) (success_of c.args.event.now) c.in-Some.ensures in
    let l = live_of_pair c.in-Some.found.from.now c.in-Some.found.to.now r.0 c.args.self.now.live.items c.args.self.now.live.items c.has_pair-is_live.result refl r.2.generation r.2.from r.2.to c.has_pair-is_live.ensures in
    subst (λ (z : List ℕ). times m (modules_of c.args.graph.now.edges z) ≤ get_or c.args.self.now.ages.held.items m 0) r.2.ordinals (c.requires.enough r.0 r.1 (sym l ∙ dead) m)

pub returns-in-Some-clause-tracks : goal.returns-in-Some-clause-tracks
returns-in-Some-clause-tracks c = λ v e ms t.
    let is = is_by (λ (v : Success). IsSuccess v c.in-Some.found) (success_of c.args.event.now) v e c.in-Some.ensures in
    let l = live_of_pair c.in-Some.found.from.now c.in-Some.found.to.now v c.args.self.now.live.items c.args.self.now.live.items c.has_pair-is_live.result refl is.generation is.from is.to c.has_pair-is_live.ensures in
    subst (λ (b : Bool). IsTracking c.stop_pair.new.ages (ms ++ cond b [] (map releases (modules_of c.args.graph.now.edges v.ordinals)))) l
    (subst (λ (z : List ℕ). IsTracking c.stop_pair.new.ages (ms ++ cond c.has_pair-is_live.result [] (map releases (modules_of c.args.graph.now.edges z)))) (sym is.ordinals) (c.stop_pair.ensures.tracks ms t))
