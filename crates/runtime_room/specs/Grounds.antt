-- What the histories of a runtime stand on.
use Rattle.std.specs.Prelude.{ℕ, ◌≤◌, ◌^◌}
use Rattle.outside.specs.Moments.{Holdings}
use Rattle.runtime_histories.specs.Charmaps.{HasText}
use Rattle.runtime_histories.specs.Settings.{Setting}

-- What histories are legal in, the limit of the journal, and the library as it was handed in.
pub record Ground : Type 0 where
  pub setting : Setting
  pub limit : ℕ
  pub handed : Holdings

-- The charmaps of all modules have paths, and pages and entries can be counted.
pub record IsGround (g : Ground) : Type 0 where
  pub text : HasText g.setting.first.graph
  pub pages : g.setting.pages ≤ 2 ^ 16
  pub limit : g.limit ≤ 2 ^ 24
