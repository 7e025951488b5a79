-- Counters that tell what is resident. No public clause cites it.
use Rattle.std.specs.Prelude.{◌-◌, ◌&&◌, ◌||◌, Bool, nat_lt, ◌≡◌, ℕ, ◌+◌, ◌<◌, ◌≤◌, List, [], ◌∷◌, length, Option, Some, None}
use Rattle.std.proofs.Common.{get_or}
use Rattle.runtime_histories.specs.Deeds.{Mark}
use Rattle.runtime_histories.specs.Residence.{is_use, is_release, is_any_release, count, after_last}
use Rattle.module_counts.specs.declared.ages.Ages.{Ages}

-- A stamp is one more than the clock was at the module's last own mark, and 0 where it has none.
abbrev pub IsAged : ℕ → ℕ → Option (List Mark) → Type 0
IsAged s clock None = s ≡ 0
IsAged s clock (Some t) = (0 < s) × (s + count is_any_release t ≡ clock + 1)

-- The counters tell of marks: how much more often each module was used than released, when its last
-- own mark was, and how many releases there were.
pub record Tracks (held stamps : List ℕ) (clock : ℕ) (ms : List Mark) : Type 0 where
  pub same : length stamps ≡ length held
  pub kept : (m : ℕ) → m < length held → get_or held m 0 + count (is_release m) ms ≡ count (is_use m) ms
  pub aged : (m : ℕ) → m < length held → IsAged (get_or stamps m 0) clock (after_last m ms)

abbrev pub IsTracking : Ages → List Mark → Type 0
IsTracking a ms = Tracks a.held.items a.stamps.items a.clock ms

-- The counters are at most so great.
pub record IsWithin (a : Ages) (most : ℕ) : Type 0 where
  pub clock : a.clock ≤ most
  pub held : (m : ℕ) → get_or a.held.items m 0 ≤ most

-- The test of the counters.
abbrev pub told : Ages → ℕ → Bool
told a m = nat_lt 0 (get_or a.held.items m 0)
    || (nat_lt 0 (get_or a.stamps.items m 0) && nat_lt (a.clock + 1 - get_or a.stamps.items m 0) 3)

abbrev pub is_kept : Ages → ℕ → Bool
is_kept a m = nat_lt m (length a.held.items) && told a m

-- A module, if there is one.
abbrev pub listed : Option ℕ → List ℕ
listed None = []
listed (Some m) = m ∷ []
