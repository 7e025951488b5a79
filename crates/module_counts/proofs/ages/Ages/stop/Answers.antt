use Rattle.std.proofs.Common.{arith, ◌≡◌, ℕ, ◌+◌, ◌-◌, [], ◌∷◌, ◌++◌, get_or, sym, subst}
use Rattle.std.proofs.Math.ListN.{set}
use Rattle.std.proofs.lemmas.Grind.{common_steps}
use Rattle.runtime_histories.specs.Deeds.{releases}
use Rattle.module_counts.specs.Tracking.{Tracks}
use Rattle.module_counts.proofs.Tracking.{Tracks-release}
use Rattle.module_counts.proofs.ages.Ages.stop.Goals as goal

pub returns-clause-tracks : goal.returns-clause-tracks
returns-clause-tracks c = λ ms t.
    let held = c.args.self.now.held.items in let stamps = c.args.self.now.stamps.items in let clock = c.args.self.now.clock in let k = c.args.which in
    let h = Tracks-release held stamps clock ms k t c.requires.known c.requires.held in
    let e : c.index_mut.result.now ≡ get_or held k 0 = grind (arith, common_steps) in
    subst (λ (z : ℕ). Tracks (set held k (z - 1)) (set stamps k (clock + 2)) (clock + 1) (ms ++ releases k ∷ [])) (sym e) h
