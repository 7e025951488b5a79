-- What numbers hold and have pinned.
use Rattle.std.proofs.Common.{◌≡◌, ◌≢◌, ℕ, ◌<◌, ◌++◌}
use Rattle.history_core.specs.History.{History, EachNumber}
use Rattle.page_store.specs.Holdings.{Holding, Among, IsHolding, IsPinnedIn}
use Rattle.runtime_room.specs.Grounds.{Ground}
use Rattle.runtime_room.specs.Rooms.{IsHistory, holdings, pinned}
use Rattle.runtime_room.specs.declared.desk.Noted.{Noted}
use Rattle.runtime_room.specs.Held.{held-is, held-pinned, pinned-kept}

-- What a caller has pinned is changed by its own entries alone.
pub pinned_stays : (g : Ground) (front rest : History Noted) (n place : ℕ) → 0 < n
    → IsHistory g (front ++ rest) → EachNumber (λ m. m ≢ n) rest
    → pinned g (front ++ rest) n place ≡ pinned g front n place
pinned_stays g front rest n place some h others = pinned-kept g front rest n place some h others

-- The tables that a number holds are well formed ones of points, in as many pages as they need.
pub held_is : (g : Ground) (log : History Noted) (n : ℕ) (h : Holding) → IsHistory g log
    → Among (holdings g log n) h → IsHolding h
held_is g log n h k there = held-is g log n h k there

-- They are pinned in their pages.
pub held_pinned : (g : Ground) (log : History Noted) (n : ℕ) (h : Holding) → IsHistory g log
    → Among (holdings g log n) h → IsPinnedIn (pinned g log n) h
held_pinned g log n h k there = held-pinned g log n h k there
