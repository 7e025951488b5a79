-- What callers have pinned is changed by their own entries alone.
use Rattle.std.specs.Prelude.{◌≡◌, ◌≢◌, ℕ, ◌<◌, List, [], ◌∷◌, ◌++◌}
use Rattle.runtime_histories.specs.declared.entries.Entry.{Entry}
use Rattle.runtime_histories.specs.Entries.{deeds}
use Rattle.runtime_histories.specs.Settings.{Setting}
use Rattle.runtime_histories.specs.Legal.{Legal}
use Rattle.runtime_histories.specs.Pins.{pinned}

-- No entry is the caller's.
abbrev pub NoneOf : ℕ → List Entry → Type 0
NoneOf n [] = Unit {0}
NoneOf n (e ∷ es) = (e.caller ≢ n) × NoneOf n es

-- Where a legal history goes on without entries of a caller, what the caller has pinned stays.
abbrev pub PinnedStays : Type 0
PinnedStays = (s : Setting) (front rest : List Entry) (n place : ℕ) → 0 < n → Legal s (front ++ rest)
    → NoneOf n rest → pinned s.pages (deeds (front ++ rest)) n place ≡ pinned s.pages (deeds front) n place
