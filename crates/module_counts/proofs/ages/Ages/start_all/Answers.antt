use Rattle.std.proofs.Common.{◌≡◌, ◌++◌, ℕ, ◌<◌, List, length, take, map, subst, arith}
use Rattle.std.proofs.lemmas.Grind.{common_steps}
use Rattle.runtime_histories.specs.Deeds.{uses}
use Rattle.runtime_histories.specs.Settings.{modules_of}
use Rattle.module_counts.specs.Tracking.{IsTracking}
use Rattle.module_counts.proofs.Starting.{start_none, start_more}
use Rattle.module_counts.proofs.ages.Ages.start_all.Goals as goal

pub loop-ordinal-init : goal.loop-ordinal-init
loop-ordinal-init c = start_none c.args.self.now c.requires.same

pub loop-ordinal-preserved : goal.loop-ordinal-preserved
loop-ordinal-preserved c =
    let lt : c.loop-ordinal.ordinal-index < length c.args.ordinals.now = omega arith in
    start_more c.args.graph.now.edges c.args.ordinals.now c.loop-ordinal.ordinal-index 0 lt
    c.args.self.now c.loop-ordinal.self c.start_one.new.self
    c.loop-ordinal.invariant c.start_one.ensures.tracks c.start_one.ensures.same c.start_one.ensures.stays c.start_one.ensures.more c.start_one.ensures.clock

pub returns-clause-tracks : goal.returns-clause-tracks
returns-clause-tracks c = λ ms t.
    let e : take c.loop-ordinal.ordinal-index c.args.ordinals.now ≡ c.args.ordinals.now = grind (arith, common_steps) in
    subst (λ (z : List ℕ). IsTracking c.loop-ordinal.self (ms ++ map uses (modules_of c.args.graph.now.edges z))) e (c.loop-ordinal.invariant.tracks ms t)
