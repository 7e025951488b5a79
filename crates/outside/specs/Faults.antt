-- Counts of faults.
use Rattle.std.specs.Prelude.{◌≡◌, ℕ, ◌+◌, ◌-◌, ◌^◌, ◌<◌, ◌≤◌, min, max}

-- the count has risen by so many, or stands at the last value of a counter of 64 bits
abbrev pub RoseBy : ℕ → ℕ → ℕ → Type 0
RoseBy n old new = min (old + n) (2 ^ 64 - 1) ≤ new

-- the count has risen, or stands at the last value of a counter of 64 bits
abbrev pub Rose : ℕ → ℕ → Type 0
Rose old new = min (old + 1) (2 ^ 64 - 1) ≤ new

-- the count hasn't risen, and doesn't stand at the last value of a counter of 64 bits
pub record IsCalm (old new : ℕ) : Type 0 where
  pub same : new ≡ old
  pub below : old < 2 ^ 64 - 1

-- a count after one more fault: it stays at the last value of a counter of 64 bits, and never falls
abbrev pub raised : ℕ → ℕ
raised count = max count (min (count + 1) (2 ^ 64 - 1))
