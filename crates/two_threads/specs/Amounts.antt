-- Histories of amounts.
use Rattle.std.specs.Prelude.{◌≡◌, ℕ, ◌+◌, ◌==◌, if◌then◌else◌, List, [], ◌∷◌}
use Rattle.history_core.specs.History.{History, Ends}
use Rattle.two_threads.specs.declared.tally.Noted.{Noted}

-- The amounts, added up.
abbrev pub total : History Noted → ℕ
total [] = 0
total (e ∷ es) = e.1.amount.value + total es

-- The amounts of the entries with the number n, in their order.
abbrev pub amounts_of : ℕ → History Noted → List ℕ
amounts_of n [] = []
amounts_of n (e ∷ es) = if e.0 == n then e.1.amount.value ∷ amounts_of n es else amounts_of n es

-- The passes 1 and 2 were joined, in this order.
abbrev pub AreTwo : Ends Noted → Type 0
AreTwo ends = (a : History Noted) × (b : History Noted) × (ends ≡ (2, b) ∷ (1, a) ∷ [])
