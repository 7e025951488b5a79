use Rattle.std.proofs.Common.{subst, List, ℕ, ◌*◌}
use Rattle.std.specs.Prelude.{IsTrue}
use Rattle.std.specs.List.{AllByRecursion}
use Rattle.ascii_lanes.specs.Runs.{is_plain_unit}
use Rattle.ascii_lanes.proofs.RunLemmas.{high_tells}
use Rattle.ascii_lanes.proofs.runs.are_plain.Goals as goal

pub returns : goal.returns
returns c = λ yes. high_tells c.args.big c.args.bytes c.fits-bytes.1
    (subst (λ (v : List ℕ). AllByRecursion (λ h. IsTrue (is_plain_unit (256 * h))) v) c.high_bytes.ensures (c.no_surrogate.ensures yes))
