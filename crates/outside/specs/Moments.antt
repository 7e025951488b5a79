-- Files, a library and a sink at a moment.
use Rattle.std.specs.Prelude.{ℕ, List, Option}
use Rattle.outside.specs.Shelves.{Shelf}

-- files at a moment: what they hold, where told, and how often a take and a put have failed
pub record Outside : Type 0 where
  pub told : Option Shelf
  pub takes : ℕ
  pub puts : ℕ

-- a library at a moment: its texts, where told, how often a fetch has failed, and the paths that it
-- was asked for, in order, where told
pub record Holdings : Type 0 where
  pub told : Option Shelf
  pub faults : ℕ
  pub paths : Option (List (List ℕ))

-- a sink at a moment: what it got, where told, and how often it has failed
pub record Written : Type 0 where
  pub got : Option (List ℕ)
  pub faults : ℕ
