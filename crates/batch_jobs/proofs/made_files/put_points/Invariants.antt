use Rattle.std.proofs.Common.{◌≡◌, ◌-◌, ◌*◌, ◌++◌, ◌<◌, ◌≤◌, length, take}
use Rattle.batch_jobs.specs.Limits.{made_points}
use Rattle.batch_jobs.specs.Packed.{made_bytes}
use Rattle.batch_jobs.specs.Generated.{points, spelled_all}
use Rattle.batch_jobs.proofs.made_files.put_points.Given as goal

abbrev pub invariant-pairs : goal.invariant-pairs
invariant-pairs l = (spelled_all l.number l.charmap (points l.first made_points)
    ≡ take l.at l.bytes ++ spelled_all l.number l.charmap (points l.seed (made_points - 2 * l.pair)))
    × (l.seed < 2147483648) × (l.at ≤ 4 * l.pair) × (length l.bytes ≡ made_bytes)
