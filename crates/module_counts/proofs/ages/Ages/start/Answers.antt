use Rattle.std.proofs.Common.{arith, ◌≡◌, ℕ, ◌+◌, [], ◌∷◌, ◌++◌, get_or, sym, subst}
use Rattle.std.proofs.Math.ListN.{set}
use Rattle.std.proofs.lemmas.Grind.{common_steps}
use Rattle.runtime_histories.specs.Deeds.{uses}
use Rattle.module_counts.specs.Tracking.{Tracks}
use Rattle.module_counts.proofs.Tracking.{Tracks-use}
use Rattle.module_counts.proofs.ages.Ages.start.Goals as goal

pub returns-clause-tracks : goal.returns-clause-tracks
returns-clause-tracks c = λ ms t.
    let held = c.args.self.now.held.items in let stamps = c.args.self.now.stamps.items in let clock = c.args.self.now.clock in let k = c.args.which in
    let h = Tracks-use held stamps clock ms k t c.requires.known in
    let e : c.index_mut.result.now ≡ get_or held k 0 = grind (arith, common_steps) in
    subst (λ (z : ℕ). Tracks (set held k (z + 1)) (set stamps k (clock + 1)) clock (ms ++ uses k ∷ [])) (sym e) h
