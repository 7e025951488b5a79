use Rattle.std.proofs.Common.{◌≡◌, ◌++◌, ℕ, ◌<◌, List, length, take, map, subst, arith}
use Rattle.std.proofs.lemmas.Grind.{common_steps}
use Rattle.runtime_histories.specs.Deeds.{releases}
use Rattle.runtime_histories.specs.Settings.{modules_of}
use Rattle.module_counts.specs.Tracking.{IsTracking}
use Rattle.module_counts.proofs.Starting.{stop_none, stop_more, stop_has}
use Rattle.module_counts.proofs.ages.Ages.stop_all.Goals as goal

pub loop-ordinal-init : goal.loop-ordinal-init
loop-ordinal-init c = stop_none c.args.self.now c.requires.same

pub loop-ordinal-preserved : goal.loop-ordinal-preserved
loop-ordinal-preserved c =
    let lt : c.loop-ordinal.ordinal-index < length c.args.ordinals.now = omega arith in
    stop_more c.args.graph.now.edges c.args.ordinals.now c.loop-ordinal.ordinal-index 0 lt
    c.args.self.now c.loop-ordinal.self c.stop_one.new.self
    c.loop-ordinal.invariant c.stop_one.ensures.tracks c.stop_one.ensures.same c.stop_one.ensures.stays c.stop_one.ensures.less c.stop_one.ensures.clock

pub returns-clause-tracks : goal.returns-clause-tracks
returns-clause-tracks c = λ ms t.
    let e : take c.loop-ordinal.ordinal-index c.args.ordinals.now ≡ c.args.ordinals.now = grind (arith, common_steps) in
    subst (λ (z : List ℕ). IsTracking c.loop-ordinal.self (ms ++ map releases (modules_of c.args.graph.now.edges z))) e (c.loop-ordinal.invariant.tracks ms t)

pub stop_one-requires-clause-held : goal.stop_one-requires-clause-held
stop_one-requires-clause-held c = λ m is.
    let lt : c.loop-ordinal.ordinal-index < length c.args.ordinals.now = omega arith in
    stop_has c.args.graph.now.edges c.args.ordinals.now c.loop-ordinal.ordinal-index 0 lt
    c.args.self.now c.loop-ordinal.self c.loop-ordinal.invariant c.requires.enough m is
